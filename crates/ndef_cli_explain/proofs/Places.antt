-- The places of fields.
use Rattle.std.proofs.Common.{ℕ, ◌+◌, ◌<◌, ◌≤◌, ◌^◌, List, [], ◌∷◌, Result, Ok, Err, arith, subst}
use Rattle.std.specs.Prelude.{IfOk}
use Rattle.ndef_format.specs.Limits.{LimitValues}
use Rattle.ndef_format.specs.declared.refusal.Refusal.{Refusal}
use Rattle.ndef_fields.specs.FieldLaws.{AreGapless, FieldsFollow}
use Rattle.ndef_fields.specs.Reports.{TellsFields}
use Rattle.ndef_fields.specs.declared.field.Field.{Field}
use Rattle.ndef_fields.specs.declared.report.FieldReport.{FieldReport}
use Rattle.ndef_cli_explain.specs.Fields.{PlacesFit}

gapless_end : (from end : ℕ) (fields : List Field) → AreGapless from fields end → from ≤ end
gapless_end from end [] e = omega (arith, e)
gapless_end from end (f ∷ fs) (place, some, rest) = let last = gapless_end (from + f.length) end fs rest in omega (arith, last)

-- where the end of fields can be counted after a place, each place of them can
pub gapless_fit : (at from end : ℕ) (fields : List Field) → AreGapless from fields end → at + end < 2 ^ 64 → PlacesFit at fields
gapless_fit at from end [] follow fits = tt
gapless_fit at from end (f ∷ fs) (place, some, rest) fits =
    let last = gapless_end (from + f.length) end fs rest in
    (omega (arith, place, last, fits), gapless_fit at (from + f.length) end fs rest fits)

-- the fields of the message at the front of an input follow one another
pub follows : (limits : LimitValues) (input : List ℕ) (r : Result FieldReport Refusal) → FieldsFollow → TellsFields limits input r → IfOk r (λ reported. AreGapless 0 reported.fields reported.taken)
follows limits input (Ok reported) law (a, count, runs) = subst (AreGapless 0 reported.fields) count (law limits input reported.fields a)
follows limits input (Err refusal) law t = tt
