use Rattle.std.proofs.Common.{[], ◌∷◌}
use Rattle.ndef_format.specs.declared.kind.Kind.TheVariants as kinds
use Rattle.ndef_c.specs.PosterWrites.{asked_by, media_of}
use Rattle.ndef_c.proofs.PosterSaid.{action_said, asked_is, media_is, media_said, octet_is, series_as, size_said, uri_said}
use Rattle.ndef_c.proofs.poster_writing.said_of.Goals as goal

pub returns-clause-some : goal.returns-clause-some
returns-clause-some c =
    let a = asked_by c.args.poster.now in
    let how = c.args.poster.now.how.now in
    let numbers = c.args.numbers.now in
    let uri = uri_said a _ _ c.in_ok-part_in.ensures.within c.in_ok-part_in.ensures.some c.in_ok-uri_made.ensures.utf8 c.in_ok-uri_made.ensures.item in
    let octet = c.says_octet.ensures.0 (c.if-not-says_octet.false) in
    let action = c.in_ok-asked_series.ensures in
    let size = c.in_ok-asked_series-2.ensures in
    let media = c.in_ok-asked_series-3.ensures in
    let octets = c.in_ok-media_octets.field-0.now in
    let known = c.in_ok-media_octets.ensures.some in
    record {
      said = record {
        payload = uri.0;
        uri = uri.1.0;
        action = action_said how.has_action how.action numbers.action action.may octet;
        size = size_said how.has_size numbers.size size.may;
        media = media_said a octets media.may known;
      };
      uri = c.in_ok-uri_made.ensures.made;
      uri_is = uri.1.1;
      action = series_as action.some (asked_is how.has_action kinds.Action numbers.action (how.action ∷ []) (λ e. octet_is how.action numbers.action (octet e) c.requires.action));
      size = series_as size.some (asked_is how.has_size kinds.Size numbers.size _ (λ _. c.requires.size));
      media = series_as media.some (asked_is how.has_media_type kinds.MediaType octets (media_of a) (media_is a octets known));
    }
