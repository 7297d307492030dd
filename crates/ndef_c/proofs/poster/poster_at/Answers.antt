use Rattle.ndef_c.specs.Posters.{HasPosterRecords}
use Rattle.ndef_c.proofs.poster.poster_at.Goals as goal

pub returns : goal.returns
returns c = λ profile nest.
    let items = nest.1 in
    let h : HasPosterRecords profile items c.args.payload.now = (nest.0, nest.2) in
    let uri = c.uri_of-uri.ensures profile items h in
    record {
      in_set = nest;
      short = c.requires.short;
      items = items;
      message = (nest.0, nest.2.spelling);
      uri = uri.0;
      is_uri = uri.1;
      lies = uri.2.lies;
      place = uri.2.place;
      action = (c.action_of.result, c.action_of.ensures profile items h, c.reported-has_action.ensures);
      size = (c.size_of.result, c.size_of.ensures profile items h, c.reported-has_size.ensures);
    }
