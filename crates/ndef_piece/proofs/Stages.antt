-- The field of the next octet of a head.
use Rattle.std.proofs.Common.{◌≡◌, ℕ, inl, inr, refl, sym, ◌∙◌, ap, List, [], ◌∷◌, ◌++◌, Option, Some, None}
use Rattle.ndef_format.specs.Records.{HeadFields, octets, payload_length_octets, id_length_octets}
use Rattle.ndef_piece.specs.HeaderLaws.{header}
use Rattle.ndef_value.specs.ListLaws.{split_append}
use Rattle.std.proofs.lemmas.List.{append-nil}

-- its octets of PAYLOAD_LENGTH
abbrev pub length_part : HeadFields → List ℕ
length_part h = payload_length_octets h.short h.payload_length

-- the next octet b of the head h, after the octets xs
pub data Stage (h : HeadFields) (xs : List ℕ) (b : ℕ) : Type 0 where
  at_header : xs ≡ [] → header h ≡ b → Stage h xs b
  at_kind : xs ≡ header h ∷ [] → h.kind_length ≡ b → Stage h xs b
  at_length : (ls m : List ℕ) → xs ≡ header h ∷ h.kind_length ∷ ls → length_part h ≡ ls ++ b ∷ m → Stage h xs b
  at_id : xs ≡ header h ∷ h.kind_length ∷ length_part h → h.id_length ≡ Some b → Stage h xs b

-- an octet after PAYLOAD_LENGTH is ID_LENGTH
id_next : (o : Option ℕ) (m rest : List ℕ) (b : ℕ) → id_length_octets o ≡ m ++ b ∷ rest → (m ≡ []) × (o ≡ Some b)
id_next None [] rest b e = cc
id_next None (y ∷ m) rest b e = cc
id_next (Some d) [] rest b e = (refl, cc)
id_next (Some d) (y ∷ []) rest b e = cc
id_next (Some d) (y ∷ z ∷ m) rest b e = cc

-- the next octet stands in one of the fields
pub stage : (h : HeadFields) (xs rest : List ℕ) (b : ℕ) → octets h ≡ xs ++ b ∷ rest → Stage h xs b
stage h [] rest b e = at_header refl cc
stage h (x ∷ []) rest b e = at_kind (let ex : header h ≡ x = cc in ap (λ t. t ∷ []) (sym ex)) cc
stage h (x ∷ k ∷ ls) rest b e =
    let ex : header h ≡ x = cc in
    let ek : h.kind_length ≡ k = cc in
    let et : length_part h ++ id_length_octets h.id_length ≡ ls ++ b ∷ rest = cc in
    elim (split_append (length_part h) (id_length_octets h.id_length) ls (b ∷ rest) et) [
      | inl w ↦ at_length ls w.1 (rw (ex, ek) refl) (let ew = w.2 in let er = w.3 in cc)
      | inr w ↦
          let i = id_next h.id_length w.0 rest b w.2 in
          at_id (let el : ls ≡ length_part h = w.1 ∙ ap (λ m. length_part h ++ m) i.0 ∙ append-nil (length_part h) in rw (ex, ek, el) refl) i.1
    ]
