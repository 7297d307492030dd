-- The length of an auxiliary reference.
use Rattle.std.proofs.Common.{◌≡◌, ℕ, zero, suc, ◌+◌, ◌-◌, ◌*◌, ◌<◌, ◌≤◌, refl, arith, ne_eqb, List}
use Rattle.std.specs.Prelude.{slice_index}
use Rattle.ndef_lang.specs.declared.leaf.Stage.TheVariants.{References}
use Rattle.ndef_fields.specs.declared.name.FieldName.{FieldName}
use Rattle.ndef_fields.specs.declared.stage.Stage.TheVariants.{Inside}
use Rattle.ndef_fields.specs.Stages.{IsFieldCut, field_rank, octet_cut}
use Rattle.ndef_fields.proofs.Steps.{some_rank}

least_rank : (left count : ℕ) → field_rank left (References count) ≤ 2 + 2 * count
least_rank zero count = omega arith
least_rank (suc left) count = omega arith

pub reference_cut : (count : ℕ) → 0 < count → (name last : FieldName) (s : List ℕ) → IsFieldCut (Inside 0 name (References count) last) s (octet_cut (References count) (slice_index s 0))
reference_cut zero l name last s = absurd (omega arith)
reference_cut (suc count) l name last s =
    let z = ne_eqb (suc count) 0 (λ h. omega arith) in
    let e : suc count - 1 ≡ count = omega arith in
    rw (z, e) (record {
      parts = λ depth. refl;
      fewer = λ some. omega (arith, least_rank (slice_index s 0) count);
      going = λ some more. some_rank (slice_index s 0) (References count);
    })
