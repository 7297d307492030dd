use Rattle.std.proofs.Common.{◌≡◌, ◌++◌, false}
use Rattle.std.specs.Prelude.{IsUtf8, chars}
use Rattle.std.specs.Str.Iter.{chars_rest}
use Rattle.ndef_format.specs.Texts.{units_of, spelled}
use Rattle.ndef_c.specs.Buffers.{Puts}
use Rattle.ndef_c.proofs.utf16.put_units.Given as goal

abbrev pub invariant-loop-c : goal.invariant-loop-c
invariant-loop-c l = record {
  utf8 : IsUtf8 (chars_rest l.c-iterator);
  ahead : l.yielded ++ chars (chars_rest l.c-iterator) ≡ chars l.text;
  puts : Puts l.fn.out (spelled false (units_of l.yielded)) l.out;
}
