use Rattle.std.proofs.Common.{◌≡◌, false}
use Rattle.ndef_c.specs.Finding.{Has, PassesTo}
use Rattle.ndef_c.proofs.finding.find.Given as goal

abbrev pub invariant-loop-found : goal.invariant-loop-found
invariant-loop-found l = record {
  same : l.found-iterator.bytes.now ≡ l.fn.bytes;
  going : l.found-iterator.ended ≡ false;
  kept : l.out ≡ l.fn.out;
  passes : PassesTo (Has l.expected) l.fn.bytes l.fn.at l.found-iterator.at;
}
