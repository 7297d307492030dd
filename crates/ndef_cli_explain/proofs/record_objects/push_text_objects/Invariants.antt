use Rattle.std.proofs.Common.{◌≡◌, map}
use Rattle.std.specs.Slice.Iter.{iter_rest}
use Rattle.ndef_cli_explain.specs.Outputs.{with_values}
use Rattle.ndef_cli_explain.specs.RecordObjects.{text_object}
use Rattle.ndef_cli_explain.proofs.record_objects.push_text_objects.Given as goal

abbrev pub invariant-loop-text : goal.invariant-loop-text
invariant-loop-text l = with_values l.out (map text_object (iter_rest l.text-iterator)) ≡ with_values l.initial.out (map text_object l.texts)
