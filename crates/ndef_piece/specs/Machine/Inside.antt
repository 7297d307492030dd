-- The fields of a reader.
use Rattle.std.specs.Prelude.{◌≡◌, ℕ, ◌-◌, ◌≤◌, List, ◌++◌, length, take, replicate}
use Rattle.ndef_piece.specs.declared.head_reader.HeadReader.TheInside.{Inside}
use Rattle.ndef_piece.specs.Machine.Reading.{Reading, IsSound}

-- the values of its fields
abbrev pub reading : Inside → Reading
reading r = record { spot = r.spot; octets = take r.count r.octets; answer = r.answer }

-- these octets and zeros after them, seven in all
abbrev pub padded : List ℕ → List ℕ
padded octets = octets ++ replicate (7 - length octets) 0

-- its fields, from their values
abbrev pub inside_fields : Reading → Inside
inside_fields r = record { spot = r.spot; octets = padded r.octets; count = length r.octets; answer = r.answer }

-- they agree with each other, and zeros follow the octets that have come
pub record IsConsistent (r : Inside) : Type 0 where
  pub few : r.count ≤ 7
  pub zeros : r.octets ≡ padded (take r.count r.octets)
  pub sound : IsSound (reading r) r.answer
