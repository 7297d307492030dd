use Rattle.std.proofs.Common.{sym, ◌∙◌, ap, subst}
use Rattle.ndef_format.specs.Positions as pieces
use Rattle.ndef_piece.specs.Whole.{shown}
use Rattle.ndef_message.specs.Machine.State.{spot_of}
use Rattle.ndef_message.proofs.accepted.whole_chunk.Goals as goal

pub goes_on_at-requires : goal.goes_on_at-requires
goes_on_at-requires c = ap (λ x. x.inside) c.spot.ensures ∙ c.requires

pub returns : goal.returns
returns c =
    let place = c.args.place.now in
    let spot = c.spot.ensures ∙ ap (λ x. spot_of x place) c.profile.ensures.value in
    record {
      split = c.in_ok-piece.ensures.piece;
      stands = subst (λ x. pieces.IsConsistentAt x (shown c.in_ok-piece.piece)) spot (c.goes_on_at.ensures c.if-not-goes_on_at.false);
      chunked = sym c.is_chunked.ensures ∙ c.if-not-is_chunked.false;
    }
