-- A message of the records that the fast test found right.
use Rattle.std.proofs.Common.{refl, sym, subst, ℕ, List, [], false, true}
use Rattle.std.proofs.lemmas.List.{append-nil}
use Rattle.ndef_format.specs.Accepted.{Accepted}
use Rattle.ndef_format.specs.Limits.{AreInRange, LimitValues}
use Rattle.ndef_format.specs.Messages.{Item, SpellsPieces}
use Rattle.ndef_format.specs.Payloads.{Sets}
use Rattle.ndef_message.specs.Machine.Accepted.{EndsRecords}
use Rattle.ndef_piece.specs.Walk.{Walk, WalksAreCut, WalksAreMessages, outside, start}

-- records that come from the start to the end are a message
pub message_of : WalksAreMessages → WalksAreCut → (set : Sets) (limits : LimitValues) → AreInRange limits
    → (items : List Item) (left : ℕ) (bytes : List ℕ) → EndsRecords set limits (start limits) items left true bytes
    → Accepted set limits items bytes
message_of messages cut set limits range items left bytes e =
    let walk = subst (λ ps. Walk limits (start limits) ps items) (append-nil e.pieces)
    ((cut limits (start limits) e.pieces [] items).1
    (items, [], outside limits false true left, sym (append-nil items), e.walked, (refl, refl))) in
    let m = (messages limits e.pieces items range).0 walk in
    record {
      runs = m.0;
      spelling = record { message = m.2; spelled = subst (λ ps. SpellsPieces ps bytes) m.1 e.spelled };
      within = m.3;
      members = e.members;
    }
