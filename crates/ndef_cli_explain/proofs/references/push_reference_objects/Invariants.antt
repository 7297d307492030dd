use Rattle.std.proofs.Common.{◌≡◌, ◌^◌, map}
use Rattle.std.specs.List.{AllByRecursion}
use Rattle.std.specs.Slice.Iter.{iter_rest}
use Rattle.ndef_cli_explain.specs.Outputs.{with_values}
use Rattle.ndef_cli_explain.specs.References.{IsAmong, reference_object}
use Rattle.ndef_cli_explain.proofs.references.push_reference_objects.Given as goal

abbrev pub invariant-loop-link : goal.invariant-loop-link
invariant-loop-link l = record {
  same : with_values l.out (map reference_object (iter_rest l.link-iterator)) ≡ with_values l.initial.out (map reference_object l.links);
  near : AllByRecursion (IsAmong (2 ^ 32)) (iter_rest l.link-iterator);
}
