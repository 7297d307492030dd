use Rattle.std.proofs.Common.{◌≡◌, ℕ, ◌+◌, ◌*◌, ◌<◌, ◌≤◌, ◌^◌, List, ◌++◌, length}
use Rattle.ndef_c.specs.Buffers.{Puts}
use Rattle.ndef_c.specs.Writes.{item_of, octets_by}
use Rattle.ndef_c.proofs.Records.{Cutting, left_octets}
use Rattle.ndef_c.proofs.writing.put_record.Given as goal

abbrev pub invariant-loop-last : goal.invariant-loop-last
invariant-loop-last l = record {
  done : List ℕ;
  puts : Puts l.fn.out done l.out;
  bound : length done + 8 * length l.rest ≤ 34359739000;
  small : length l.rest < 2 ^ 32;
  left : done ++ left_octets l.way.form l.way.last l.way.size l.rest
      ≡ octets_by l.way (item_of l.parts);
  begins : ℕ;
  cutting : Cutting l.way.form l.way.first l.way.last l.way.size (item_of l.parts) l.rest done begins;
  last : l.last ≡ l.fn.out.at + begins;
}

abbrev pub decreases-loop-last : goal.decreases-loop-last
decreases-loop-last l = length l.rest
