use Rattle.std.proofs.Common.{false, take}
use Rattle.std.specs.Char.Escape.{encode_utf16}
use Rattle.ndef_format.specs.Texts.{spelled}
use Rattle.ndef_c.specs.Buffers.{Puts}
use Rattle.ndef_c.proofs.utf16.put_character.Given as goal

abbrev pub invariant-loop-unit : goal.invariant-loop-unit
invariant-loop-unit l = Puts l.fn.out (spelled false (take l.unit-index (encode_utf16 l.fn.c))) l.out
