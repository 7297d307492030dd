use Rattle.std.proofs.Common.{List, ◌++◌, map}
use Rattle.std.specs.List.{AllByRecursion}
use Rattle.ndef_format.specs.Messages.{Item, run_record}
use Rattle.ndef_types.specs.Ids.{FindsFirsts}
use Rattle.ndef_types.specs.Links.{AreLinks, HasWholeCarrier, alternatives}
use Rattle.ndef_types.specs.declared.link.Link.{Link}
use Rattle.ndef_types.proofs.link.links_of.Given as goal

-- Whatever follows the links so far is the links of the records that are left.
abbrev pub invariant-loop-item : goal.invariant-loop-item
invariant-loop-item l = record {
  whole : AllByRecursion HasWholeCarrier l.item-iterator;
  linked : (outer : List Item) → FindsFirsts outer l.fn.ids → (more : List Link) → AreLinks outer (alternatives (map run_record l.item-iterator)) more
      → AreLinks outer (alternatives (map run_record l.fn.handover.runs)) (l.links ++ more);
}
