use Rattle.std.proofs.Common.{◌∙◌, arith}
use Rattle.std.proofs.lemmas.List.Elements.{All-from_recursion, recursion_from_All}
use Rattle.std.proofs.lemmas.List.Sorted.{All-permutation}
use Rattle.ndef_c.specs.HandoverItems.{Refers}
use Rattle.ndef_c.proofs.LinkedReferences.{head_alike}
use Rattle.ndef_c.proofs.ReferenceOrders.{map_count, none_sorted, sorted_back, sorted_names}
use Rattle.ndef_c.proofs.reference_records.link.Goals as goal

pub link_heads-requires : goal.link_heads-requires
link_heads-requires c = record { message = c.requires.message; none = none_sorted _ _ c.sort.ensures.same c.requires.none; sorted = sorted_names c.args.payload.now _ c.sort.ensures.sorted }

pub returns-clause-same : goal.returns-clause-same
returns-clause-same c = sorted_back c.args.items.now _ _ _ c.requires.none c.requires.placed c.sort.ensures.same (c.link_others.ensures.same ∙ c.link_heads.ensures.same) c.sort-2.ensures.same c.sort-2.ensures.sorted

pub returns-clause-records : goal.returns-clause-records
returns-clause-records c =
    let bytes = c.args.bytes.now in
    let payload = c.args.payload.now in
    let all = c.link_others.ensures.all bytes (λ k d l h.
    let n = map_count _ _ c.link_heads.ensures.same in
    c.link_heads.ensures.heads k d (omega (arith, n, l)) (head_alike payload _ _ k c.link_heads.ensures.same l h)) in
    recursion_from_All (Refers bytes payload) _ (All-permutation (Refers bytes payload) _ _ c.sort-2.ensures.same (All-from_recursion (Refers bytes payload) _ all))
