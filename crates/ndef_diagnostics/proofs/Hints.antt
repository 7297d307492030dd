-- At most one hint applies.
use Rattle.std.proofs.Common.{◌≡◌, ◌≢◌, ◌∙◌, ℕ, suc, zero, ◌+◌, ◌*◌, ◌%◌, ◌<◌, ◌≤◌, inl, inr, Bool, true, false, List, [], ◌∷◌, ◌++◌, Some, ap, arith, length, map, refl, rules, subst, sym, take}
use Rattle.std.specs.List.{AllByRecursion}
use Rattle.std.specs.Option.{option_map}
use Rattle.std.specs.Prelude.{is_some, slice_index}
use Rattle.ndef_format.specs.Limits.{LimitValues}
use Rattle.ndef_format.specs.Messages.{BeginsOnce, IsShaped, SpellsPieces, all_pieces, run_record}
use Rattle.ndef_format.specs.Records.{Run, bit, header_octet, tnf_of}
use Rattle.ndef_format.specs.declared.refusal.Refusal.{Refusal}
use Rattle.ndef_diagnostics.specs.Hints.{AppliesElse, BeginsWithMessage, IsAfterBlocks, IsCodeLeftOut, IsOfDump, IsSurrounded, OneHint, is_around, standard}
use Rattle.ndef_diagnostics.specs.declared.hint.Hint.{Hint}
use Rattle.ndef_diagnostics.specs.declared.hint.Hint.TheVariants.{InTag, Text, MessageAt, AfterBlocks, CodeLeftOut, StandardProfile}
use Rattle.ndef_diagnostics.proofs.TagMemory.{one_find}

-- ---- the first octet of a message

-- MB is set, and the type name format isn't that of a later chunk
record IsFirstOctet (octet : ℕ) : Type 0 where
  begins : 128 ≤ octet
  format : octet % 8 ≢ 6

of_header : (e c s i t : ℕ) → t < 8 → t ≢ 6 → e < 2 → c < 2 → s < 2 → i < 2 → IsFirstOctet (128 * 1 + 64 * e + 32 * c + 16 * s + 8 * i + t)
of_header e c s i t small other h1 h2 h3 h4 = record { begins = omega arith; format = λ h. other (omega (arith, h, small)) }

below_2 : (b : Bool) → bit b < 2
below_2 true = omega arith
below_2 false = omega arith

of_pieces : (runs : List Run) (bytes : List ℕ) → BeginsOnce (all_pieces runs) → AllByRecursion IsShaped (map run_record runs) → SpellsPieces (all_pieces runs) bytes
    → (octet : ℕ) × (rest : List ℕ) × (bytes ≡ octet ∷ rest) × IsFirstOctet octet
of_pieces [] bytes begins shaped spelled = absurd begins
of_pieces (r ∷ rs) bytes begins shaped (short, front, rest, joined, piece, more) =
    let there = is_some (option_map length r.initial.id) in
    let other : r.initial.tnf ≢ 6 = λ e. shaped.0.changed (ap tnf_of e) in (
      _,
      _,
      joined ∙ ap (λ f. f ++ rest) piece.spelled,
      subst (λ first. IsFirstOctet (header_octet first r.initial.last r.initial.chunked short there r.initial.tnf)) (sym begins.0)
          (of_header (bit r.initial.last) (bit r.initial.chunked) (bit short) (bit there) r.initial.tnf piece.piece.tnf other (below_2 _) (below_2 _) (below_2 _) (below_2 _)),
    )

in_front : (bytes : List ℕ) (count octet : ℕ) (rest : List ℕ) → take count bytes ≡ octet ∷ rest → slice_index bytes 0 ≡ octet
in_front [] zero octet rest e = cc
in_front [] (suc n) octet rest e = cc
in_front (b ∷ bytes) zero octet rest e = cc
in_front (b ∷ bytes) (suc n) octet rest e = cc

first_octet : (limits : LimitValues) (bytes : List ℕ) → BeginsWithMessage limits bytes → IsFirstOctet (slice_index bytes 0)
first_octet limits bytes (count, (items, a)) =
    let m = a.spelling.message in
    let f = of_pieces a.runs (take count bytes) m.begins (subst (AllByRecursion IsShaped) (sym m.items) m.shaped) a.spelling.spelled in
    subst IsFirstOctet (sym (in_front bytes count f.0 f.1 f.2)) f.3

-- ---- hints that don't apply together

small : (octet : ℕ) → is_around octet ≡ true → octet < 4
small octet e = search rules

surrounded_after : {bytes : List ℕ} {refusal : Refusal} → IsSurrounded bytes refusal → IsAfterBlocks bytes refusal → ⊥
surrounded_after {bytes} s a = let e = a.terminator in let l = small (slice_index bytes 0) s.around in omega (arith, e, l)

surrounded_code : {bytes : List ℕ} {refusal : Refusal} → IsSurrounded bytes refusal → IsCodeLeftOut bytes refusal → ⊥
surrounded_code {bytes} s c =
    let e = ap (slice_index bytes) (sym s.at_first) ∙ c.octet in let l = small (slice_index bytes 0) s.around in omega (arith, e, l)

surrounded_standard : {bytes : List ℕ} {refusal : Refusal} (limits : LimitValues) → IsSurrounded bytes refusal → BeginsWithMessage limits bytes → ⊥
surrounded_standard {bytes} limits s m =
    let b = (first_octet limits bytes m).begins in let l = small (slice_index bytes 0) s.around in omega (arith, b, l)

after_code : {bytes : List ℕ} {refusal : Refusal} → IsAfterBlocks bytes refusal → IsCodeLeftOut bytes refusal → ⊥
after_code {bytes} a c =
    let e = ap (slice_index bytes) (sym a.at_first) ∙ c.octet in let f = a.terminator in omega (arith, e, f)

after_standard : {bytes : List ℕ} {refusal : Refusal} (limits : LimitValues) → IsAfterBlocks bytes refusal → BeginsWithMessage limits bytes → ⊥
after_standard {bytes} limits a m = (first_octet limits bytes m).format (ap (λ n. n % 8) a.terminator)

one_place : (limits : LimitValues) (bytes : List ℕ) (refusal : Refusal) (n m : ℕ) → AppliesElse limits bytes refusal (MessageAt n)
    → AppliesElse limits bytes refusal (MessageAt m) → n ≡ m
one_place limits bytes refusal n m (s, p) (t, q) =
    let below : n < m → ⊥ = λ l. q.first n p.some l p.begins in
    let above : m < n → ⊥ = λ l. p.first m q.some l q.begins in
    omega (arith, below, above)

-- ---- one hint

of_dump : (bytes : List ℕ) (refusal : Refusal) (h k : Hint) → IsOfDump bytes refusal h → IsOfDump bytes refusal k → h ≡ k
of_dump bytes refusal (InTag f) (InTag g) x y = let e = one_find bytes (Some f) (Some g) x.2 y.2 in cc
of_dump bytes refusal (InTag f) (Text u) x y = let e = x.1 in let d = y.1 in absurd cc
of_dump bytes refusal (InTag f) k x y = absurd y
of_dump bytes refusal (Text t) (InTag g) x y = let e = x.1 in let d = y.1 in absurd cc
of_dump bytes refusal (Text t) (Text u) x y = let e = x.1 in let d = y.1 in cc
of_dump bytes refusal (Text t) k x y = absurd y
of_dump bytes refusal h k x y = absurd x

elsewhere : (limits : LimitValues) (bytes : List ℕ) (refusal : Refusal) (h k : Hint) → AppliesElse limits bytes refusal h
    → AppliesElse limits bytes refusal k → h ≡ k
elsewhere limits bytes refusal (InTag f) k x y = absurd x
elsewhere limits bytes refusal (Text t) k x y = absurd x
elsewhere limits bytes refusal (MessageAt n) (MessageAt m) x y = ap MessageAt (one_place limits bytes refusal n m x y)
elsewhere limits bytes refusal (MessageAt n) AfterBlocks x y = absurd (surrounded_after x.0 y)
elsewhere limits bytes refusal (MessageAt n) CodeLeftOut x y = absurd (surrounded_code x.0 y)
elsewhere limits bytes refusal (MessageAt n) StandardProfile x y = absurd (surrounded_standard (standard limits) x.0 y.2)
elsewhere limits bytes refusal AfterBlocks (MessageAt m) x y = absurd (surrounded_after y.0 x)
elsewhere limits bytes refusal AfterBlocks AfterBlocks x y = refl
elsewhere limits bytes refusal AfterBlocks CodeLeftOut x y = absurd (after_code x y)
elsewhere limits bytes refusal AfterBlocks StandardProfile x y = absurd (after_standard (standard limits) x y.2)
elsewhere limits bytes refusal CodeLeftOut (MessageAt m) x y = absurd (surrounded_code y.0 x)
elsewhere limits bytes refusal CodeLeftOut AfterBlocks x y = absurd (after_code y x)
elsewhere limits bytes refusal CodeLeftOut CodeLeftOut x y = refl
elsewhere limits bytes refusal CodeLeftOut StandardProfile x y = absurd (y.1 x)
elsewhere limits bytes refusal StandardProfile (MessageAt m) x y = absurd (surrounded_standard (standard limits) y.0 x.2)
elsewhere limits bytes refusal StandardProfile AfterBlocks x y = absurd (after_standard (standard limits) y x.2)
elsewhere limits bytes refusal StandardProfile CodeLeftOut x y = absurd (x.1 y)
elsewhere limits bytes refusal StandardProfile StandardProfile x y = refl
elsewhere limits bytes refusal h k x y = absurd y

pub one_hint : OneHint
one_hint limits bytes refusal h k (inl x) (inl y) = of_dump bytes refusal h k x y
one_hint limits bytes refusal h k (inl x) (inr y) = absurd (y.0 h x)
one_hint limits bytes refusal h k (inr x) (inl y) = absurd (x.0 k y)
one_hint limits bytes refusal h k (inr x) (inr y) = elsewhere limits bytes refusal h k x.1 y.1
