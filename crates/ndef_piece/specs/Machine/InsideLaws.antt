-- The values that a reader shows determine its fields.
use Rattle.std.proofs.Common.{◌≡◌, ℕ, ◌-◌, ◌≤◌, refl, sym, ap, arith, List, length, take, length-append}
use Rattle.std.specs.Prelude.{replicate}
use Rattle.std.proofs.lemmas.List.{length-take, length-replicate}
use Rattle.ndef_piece.specs.declared.head_reader.HeadReader.TheInside.{Inside}
use Rattle.ndef_piece.specs.Machine.Inside.{reading, padded, inside_fields, IsConsistent}

-- taking `count` of seven octets gives `count` octets
pub octets_counted : (octets : List ℕ) (count : ℕ) → count ≤ 7 → octets ≡ padded (take count octets)
    → length (take count octets) ≡ count
octets_counted octets count few zeros =
    let t = take count octets in
    omega (
      arith,
      length-take count octets,
      ap length zeros,
      length-append t (replicate (7 - length t) 0),
      length-replicate {A = ℕ} (7 - length t) 0,
    )

-- fields with equal parts are equal
same_inside_fields : (r : Inside) (octets : List ℕ) (count : ℕ) → octets ≡ r.octets → count ≡ r.count
    → ◌≡◌ {A = Inside} (record { spot = r.spot; octets = octets; count = count; answer = r.answer }) r
same_inside_fields r octets count e f = rw (e, f) refl

-- they are those that it has
pub inside_fields_are_exact : (r : Inside) → IsConsistent r → inside_fields (reading r) ≡ r
inside_fields_are_exact r c = same_inside_fields r (padded (take r.count r.octets)) (length (take r.count r.octets))
    (sym c.zeros) (octets_counted r.octets r.count c.few c.zeros)
