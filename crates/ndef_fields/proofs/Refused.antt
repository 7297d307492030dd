-- The field of a refused byte.
use Rattle.std.proofs.Common.{◌≡◌, ℕ, suc, ◌+◌, ◌<◌, ◌∙◌, ap, arith, List, [], ◌∷◌, ◌++◌, length, take}
use Rattle.std.proofs.Math.Seq.{take-suc}
use Rattle.std.specs.Prelude.{slice_index}
use Rattle.ndef_fields.specs.Lasts.{RefusedInFields, StandsIn}

-- the bytes up to a place and the byte there
one_more : (bytes : List ℕ) (place : ℕ) → place < length bytes → take (place + 1) bytes ≡ take place bytes ++ slice_index bytes place ∷ []
one_more bytes place h = let e : place + 1 ≡ suc place = omega arith in ap (λ n. take n bytes) e ∙ take-suc bytes place 0 h

pub refused_in_fields : RefusedInFields
refused_in_fields limits input refusal byte r h last =
    let w = r.why.at_byte h in
    let runs = w.0 in
    let begun = w.1 in
    let field = w.2 in
    let octet = slice_index input refusal.at in
    let s : StandsIn (take (refusal.at + 1) input) field octet = record {
      front = take refusal.at input;
      split = one_more input refusal.at h;
      limits = limits;
      runs = runs;
      begun = begun;
      at = w.3;
    } in
    record { runs = runs; begun = begun; field = field; at = w.3; why = w.4; stands = last field octet s }
