-- The completions of a UTF-8 text: their octets and their lengths.
use Rattle.std.proofs.Common.{◌≡◌, ℕ, zero, suc, ◌+◌, ◌/◌, ◌<◌, ◌≤◌, true, List, [], ◌∷◌, ◌++◌, length, refl, subst, inl, inr, arith, lt-ltb, le-ltb}
use Rattle.std.proofs.lemmas.Bool.{cases_lt, and_parts}
use Rattle.std.proofs.lemmas.Str.{encode_ascii, IsUtf8-nil}
use Rattle.std.specs.Str.{IsUtf8}
use lib.Utf8.{scalar, scalars, encode, encodes, next, low_scalar, scalar_cases}
use Rattle.ndef_value.specs.ListLaws.{octets_append}
use Rattle.ndef_format.specs.Records.{AreOctets}
use Rattle.ndef_lang.specs.declared.lengths.Lengths.TheVariants.{From}
use Rattle.ndef_lang.specs.declared.utf8.Utf8Lang.{Utf8Lang}
use Rattle.ndef_lang.specs.declared.utf8.Utf8Lang.TheVariants.{Whole, OneMore, TwoMore, ThreeMore, AfterE0, AfterEd, AfterF0, AfterF4, Refused}
use Rattle.ndef_lang.specs.Lengths.{AreLengths}
use Rattle.ndef_lang.specs.Machine.Utf8.{EndsCharacter, CompletesUtf8, utf8_lengths}

-- ---- the octets of a character

pub encode_two : (c : ℕ) → 128 ≤ c → c < 2048 → encode c ≡ (192 + c / 64) ∷ next c ∷ []
unfolding encode
encode_two c l h = rw (le-ltb c 128 l, lt-ltb c 2048 h)

pub encode_three : (c : ℕ) → 2048 ≤ c → c < 65536 → encode c ≡ (224 + c / 4096) ∷ next (c / 64) ∷ next c ∷ []
unfolding encode
encode_three c l h = rw (le-ltb c 128 (omega arith), le-ltb c 2048 l, lt-ltb c 65536 h)

pub encode_four : (c : ℕ) → 65536 ≤ c → encode c ≡ (240 + c / 262144) ∷ next (c / 4096) ∷ next (c / 64) ∷ next c ∷ []
unfolding encode
encode_four c l = rw (le-ltb c 128 (omega arith), le-ltb c 2048 (omega arith), le-ltb c 65536 l)

pub text_after : (c : ℕ) (front bs : List ℕ) → scalar c ≡ true → encode c ≡ front → IsUtf8 bs → IsUtf8 (front ++ bs)
text_after c front bs ok e u = (c ∷ u.0, (rw ok u.1.0, λ i. e i ++ u.1.1 i))

pub text_one : (x : ℕ) (bs : List ℕ) → x < 128 → IsUtf8 bs → IsUtf8 (x ∷ bs)
text_one x bs h = text_after x (x ∷ []) bs (low_scalar x (omega arith)) (encode_ascii x h)

-- ---- octets

character_octets : (c : ℕ) → scalar c ≡ true → AreOctets (encode c)
character_octets c ok =
    let range = scalar_cases c ok in
    elim (cases_lt c 128) [
      | inl a ↦ rw (encode_ascii c a) (omega arith, tt)
      | inr a ↦ elim (cases_lt c 2048) [
        | inl d ↦ rw (encode_two c a d) (omega arith, (omega arith, tt))
        | inr d ↦ elim (cases_lt c 65536) [
          | inl f ↦ rw (encode_three c d f) (omega arith, (omega arith, (omega arith, tt)))
          | inr f ↦ rw (encode_four c f) (omega arith, (omega arith, (omega arith, (omega arith, tt))))
        ]
      ]
    ]

characters_octets : (cs : List ℕ) → scalars cs ≡ true → AreOctets (encodes cs)
characters_octets [] ok = tt
characters_octets (c ∷ cs) ok = let p = and_parts (scalar c) (scalars cs) ok
    in octets_append (encode c) (encodes cs) (character_octets c p.0) (characters_octets cs p.1)

pub utf8_octets : (r : List ℕ) → IsUtf8 r → AreOctets r
utf8_octets r h = subst AreOctets h.1.1 (characters_octets h.0 h.1.0)

end_octets : (n least most : ℕ) (r : List ℕ) → most < 256 → EndsCharacter n least most r → AreOctets r
end_octets zero least most r l h = utf8_octets r h
end_octets (suc n) least most [] l h = absurd h
end_octets (suc n) least most (b ∷ r) l h = (omega arith, end_octets n 0x80 0xbf r (omega arith) h.2)

pub completes_utf8_octets : (state : Utf8Lang) (r : List ℕ) → CompletesUtf8 state r → AreOctets r
completes_utf8_octets Whole r h = utf8_octets r h
completes_utf8_octets OneMore r h = end_octets 1 0x80 0xbf r (omega arith) h
completes_utf8_octets TwoMore r h = end_octets 2 0x80 0xbf r (omega arith) h
completes_utf8_octets ThreeMore r h = end_octets 3 0x80 0xbf r (omega arith) h
completes_utf8_octets AfterE0 r h = end_octets 2 0xa0 0xbf r (omega arith) h
completes_utf8_octets AfterEd r h = end_octets 2 0x80 0x9f r (omega arith) h
completes_utf8_octets AfterF0 r h = end_octets 3 0x90 0xbf r (omega arith) h
completes_utf8_octets AfterF4 r h = end_octets 3 0x80 0x8f r (omega arith) h
completes_utf8_octets Refused r h = absurd h

-- ---- lengths

-- some k octets end a character that lacks n of them
some_end : (n least most k : ℕ) → n ≤ k → least ≤ most → (r : List ℕ) × (EndsCharacter n least most r × (length r ≡ k))
some_end zero least most zero l h = ([], (IsUtf8-nil, refl))
some_end zero least most (suc k) l h = let t = some_end zero least most k (omega arith) h
    in (97 ∷ t.0, (text_one 97 t.0 (omega arith) t.1.0, omega (arith, t.1.1)))
some_end (suc n) least most zero l h = absurd (omega arith)
some_end (suc n) least most (suc k) l h = let t = some_end n 0x80 0xbf k (omega arith) (omega arith)
    in (least ∷ t.0, ((omega arith, h, t.1.0), omega (arith, t.1.1)))

-- and fewer don't
end_length : (n least most : ℕ) (r : List ℕ) → EndsCharacter n least most r → n ≤ length r
end_length zero least most r h = omega arith
end_length (suc n) least most [] h = absurd h
end_length (suc n) least most (b ∷ r) h = omega (arith, end_length n 0x80 0xbf r h.2)

end_lengths : (n least most : ℕ) → least ≤ most → AreLengths (EndsCharacter n least most) (From n)
end_lengths n least most l = record { all = end_length n least most; each = λ k h. some_end n least most k h l }

pub are_utf8_lengths : (state : Utf8Lang) → AreLengths (CompletesUtf8 state) (utf8_lengths state)
are_utf8_lengths Whole = end_lengths 0 0 0 (omega arith)
are_utf8_lengths OneMore = end_lengths 1 0x80 0xbf (omega arith)
are_utf8_lengths TwoMore = end_lengths 2 0x80 0xbf (omega arith)
are_utf8_lengths ThreeMore = end_lengths 3 0x80 0xbf (omega arith)
are_utf8_lengths AfterE0 = end_lengths 2 0xa0 0xbf (omega arith)
are_utf8_lengths AfterEd = end_lengths 2 0x80 0x9f (omega arith)
are_utf8_lengths AfterF0 = end_lengths 3 0x90 0xbf (omega arith)
are_utf8_lengths AfterF4 = end_lengths 3 0x80 0x8f (omega arith)
are_utf8_lengths Refused = record { all = λ r h. absurd h; each = λ k h. absurd h }
