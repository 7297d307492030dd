-- What is sent, by the result of sending it.
use Rattle.std.proofs.Common.{◌≡◌, ◌<◌, ℕ, Bool, true, false, [], ◌∷◌, length, take, refl, inl, inr, arith}
use Rattle.std.specs.Io.KnownBytes.{Appends, Keeps}
use Rattle.clap.specs.Words.{Text}
use Rattle.ndef_message.specs.States.{SinkState}
use Rattle.ndef_cli.specs.Outputs.{EndsWith, SendsTo}
use Rattle.ndef_cli.specs.declared.status.Status.{Status}
use Rattle.ndef_cli.specs.declared.status.Status.TheVariants as status

-- all of a text
pub all_sent : (had : Bool) (text : Text) (st : Status) (before after : SinkState)
    → Appends before.written after.written text → after.failed ≡ had → (0 < length text → had ≡ false)
    → (had ≡ true → Keeps before.written after.written)
    → SendsTo had text before after × EndsWith had text st after.failed st
all_sent false text st before after out same some keeps = rw same (out, refl)
all_sent true [] st before after out same some keeps = ((keeps refl, same), inr (refl, refl))
all_sent true (b ∷ text) st before after out same some keeps = absurd (let e = some (omega arith) in cc)

-- a front of it, before writing fails
pub front_sent : (had : Bool) (text : Text) (st : Status) (before after : SinkState) (n : ℕ)
    → Appends before.written after.written (take n text) → after.failed ≡ true
    → (had ≡ true → Keeps before.written after.written)
    → SendsTo had text before after × EndsWith had text st after.failed status.Fault
front_sent false text st before after n out failed keeps = rw failed ((n, out), refl)
front_sent true text st before after n out failed keeps = ((keeps refl, failed), inl refl)
