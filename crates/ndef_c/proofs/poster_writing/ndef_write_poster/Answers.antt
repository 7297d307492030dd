use Rattle.std.proofs.Common.{refl}
use Rattle.ndef_c.specs.PosterWrites.{poster_asked}
use Rattle.ndef_c.proofs.PosterSaid.{are_poster, from_poster, gives_poster, to_poster}
use Rattle.ndef_c.proofs.poster_writing.ndef_write_poster.Goals as goal

pub returns : goal.returns
returns c =
    let p = are_poster (poster_asked c.args.bytes.now c.args.how.now c.args.titles.now c.args.icons.now) c.in-Some.said c.args.bytes c.args.titles c.args.icons refl refl refl in
    let x = c.in-Some.ensures.some in
    let g = c.give_message.ensures in
    record {
      bad = (λ e m. g.bad.0 e (from_poster c.uris_are_exact.ensures.payload p x m), λ f. g.bad.1 (λ m. f (to_poster p x m)));
      kept = g.kept;
      poster = λ n. gives_poster p x (g.may n) _ _ _ _ (g.message n);
    }
