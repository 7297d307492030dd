-- The number of octets of a head.
use Rattle.std.proofs.Common.{◌≡◌, ℕ, ◌+◌, ◌<◌, ◌≤◌, Bool, true, false, cond, refl, arith}
use Rattle.ndef_format.specs.Records.{HeadFields}
use Rattle.ndef_format.specs.HeadReasons.{is_set, width}
use Rattle.ndef_piece.specs.Header.{size}
use Rattle.ndef_piece.specs.Heads.{HeadsHaveSizes}
use Rattle.ndef_piece.proofs.Lengths.{octet_count}
use Rattle.ndef_piece.specs.HeaderLaws.{flags_size, header, header_parts}

-- the octets of PAYLOAD_LENGTH
pub width_of : (h : HeadFields) → h.tnf < 8 → width (header h) ≡ octet_count h.short
width_of h t = rw (header_parts h t).short refl

-- a head has as many octets as its flags say
pub heads_have_sizes : HeadsHaveSizes
heads_have_sizes h l = flags_size h

-- a head has at most 7 octets
pub size_small : (h : ℕ) → size h ≤ 7
size_small h = both_small (is_set 4 h) (is_set 3 h) where
  both_small : (s i : Bool) → 2 + cond s 1 4 + cond i 1 0 ≤ 7
  both_small true true = omega arith
  both_small true false = omega arith
  both_small false true = omega arith
  both_small false false = omega arith
