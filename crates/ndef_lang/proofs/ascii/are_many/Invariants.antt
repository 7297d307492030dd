use Rattle.std.proofs.Common.{◌≤◌, length}
use Rattle.std.specs.List.{AllByRecursion}
use Rattle.ndef_format.specs.Texts.{IsCodeOctet}
use Rattle.ndef_lang.proofs.ascii.are_many.Given as goal

abbrev pub invariant-loop-rest : goal.invariant-loop-rest
invariant-loop-rest l = record {
  some : 8 ≤ length l.rest;
  before : AllByRecursion IsCodeOctet l.rest → AllByRecursion IsCodeOctet l.fn.bytes;
}

abbrev pub decreases-loop-rest : goal.decreases-loop-rest
decreases-loop-rest l = length l.rest
