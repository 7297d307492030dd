-- The bytes that go out to a sink, and the status.
use Rattle.std.specs.Prelude.{◌≡◌, ◌⊎◌, ◌++◌, ℕ, Bool, true, false, List, [], take, Option, codes}
use Rattle.std.specs.Io.KnownBytes.{Appends, Keeps}
use Rattle.hex.specs.Hex.{encode_lower}
use Rattle.clap.specs.Words.{Text}
use Rattle.ndef_message.specs.States.{SinkState}
use Rattle.ndef_cli.specs.Statuses.{status_after}
use Rattle.ndef_cli.specs.declared.status.Status.{Status}
use Rattle.ndef_cli.specs.declared.status.Status.TheVariants as status

-- the text; or a front of it, where the sink failed
abbrev pub GoesOut : (before after : Option (List ℕ)) → (failed : Bool) → Text → Type 0
GoesOut before after false text = Appends before after text
GoesOut before after true text = (n : ℕ) × Appends before after (take n text)

-- the same; nothing, where the sink had failed before
abbrev pub SendsTo : (had_failed : Bool) → Text → (before after : SinkState) → Type 0
SendsTo false text before after = GoesOut before.written after.written after.failed text
SendsTo true text before after = Keeps before.written after.written × (after.failed ≡ true)

-- the text is sent to a sink in any state
abbrev pub Sends : Text → (before after : SinkState) → Type 0
Sends text before after = SendsTo before.failed text before after

-- the status after a text: Fault, where writing failed; or the given one, where there was nothing to write
abbrev pub EndsWith : (had_failed : Bool) → Text → Status → (failed : Bool) → Status → Type 0
EndsWith false text st failed result = result ≡ status_after failed st
EndsWith true text st failed result = (result ≡ status.Fault) ⊎ ((text ≡ []) × (result ≡ st))

-- a text is sent, and this is the status
abbrev pub Prints : Text → Status → (before after : SinkState) → Status → Type 0
Prints text st before after result =
    Sends text before after × EndsWith before.failed text st after.failed result

-- a line of hexadecimal digits
abbrev pub hexadecimal_line : List ℕ → Text
hexadecimal_line bytes = encode_lower bytes ++ codes "\n"
