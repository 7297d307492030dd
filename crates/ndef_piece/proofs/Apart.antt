-- Heads with the same octets are the same.
use Rattle.std.proofs.Common.{◌≡◌, ℕ, ◌+◌, ◌<◌, Bool, refl, sym, ◌∙◌, ap, arith, List, [], ◌∷◌, ◌++◌, length, Option, Some, length-append}
use Rattle.std.specs.Prelude.{is_some}
use Rattle.std.proofs.lemmas.List.{append-nil}
use Rattle.ndef_format.specs.Records.{HeadFields, octets}
use Rattle.ndef_format.specs.declared.reason.Reason.{Reason}
use Rattle.ndef_piece.specs.declared.head.Head.{Head}
use Rattle.ndef_format.specs.declared.spot.Spot.{Spot}
use Rattle.ndef_piece.specs.declared.head_reader.Step.TheVariants as steps
use Rattle.ndef_format.specs.HeadReasons.{is_set, tnf_number}
use Rattle.ndef_piece.specs.Header.{size}
use Rattle.ndef_piece.specs.Heads.{head, HeadsAreUnambiguous, HeadersTell, BeginsHead, IsWholeHead, IsViableHead}
use Rattle.ndef_format.specs.Positions.{CanBeSpelled, IsOpen}
use Rattle.ndef_piece.specs.Machine.Reading.{OneAnswer}
use Rattle.ndef_value.specs.ListLaws.{cut_alike}
use Rattle.ndef_piece.proofs.ReadBack.{read_back}
use Rattle.ndef_piece.specs.HeaderLaws.{octets_size, header, header_parts}

-- ---- heads with one header octet

-- what the header octet says is alike
pub record Alike (g h : HeadFields) : Type 0 where
  pub last : g.last ≡ h.last
  pub chunked : g.chunked ≡ h.chunked
  pub short : g.short ≡ h.short
  pub tnf : g.tnf ≡ h.tnf
  pub id : is_some g.id_length ≡ is_some h.id_length

pub alike : (g h : HeadFields) → g.tnf < 8 → h.tnf < 8 → header g ≡ header h → Alike g h
alike g h t u e = record {
  last = sym (header_parts g t).ends ∙ ap (is_set 6) e ∙ (header_parts h u).ends;
  chunked = sym (header_parts g t).chunked ∙ ap (is_set 5) e ∙ (header_parts h u).chunked;
  short = sym (header_parts g t).short ∙ ap (is_set 4) e ∙ (header_parts h u).short;
  tnf = sym (header_parts g t).tnf ∙ ap tnf_number e ∙ (header_parts h u).tnf;
  id = sym (header_parts g t).id_there ∙ ap (is_set 3) e ∙ (header_parts h u).id_there;
}

-- a header octet gives the type name format
pub headers_tell : HeadersTell
headers_tell f b rest h e = let g : b ≡ header f = cc in ap tnf_number g ∙ (header_parts f h.tnf).tnf

-- ---- heads with all octets alike

-- heads with the same octets are read alike
same_head : (h g : HeadFields) → CanBeSpelled h → CanBeSpelled g → octets h ≡ octets g → head h ≡ head g
same_head h g a b e =
    sym (read_back h (octets g) a e _ _ _ _ _ _ _ _ refl refl refl refl refl refl refl refl)
    ∙ read_back g (octets g) b refl _ _ _ _ _ _ _ _ refl refl refl refl refl refl refl refl

-- one head's octets do not end inside another's
same_size : (h g : HeadFields) → CanBeSpelled h → CanBeSpelled g → (x y : List ℕ) → octets h ++ x ≡ octets g ++ y → length (octets h) ≡ length (octets g)
same_size h g a b x y e =
    let f : header h ≡ header g = cc in
    octets_size h a.tnf ∙ ap size f ∙ sym (octets_size g b.tnf)

-- the fields, one by one
abbrev make : Bool → Bool → Bool → Bool → ℕ → ℕ → ℕ → Option ℕ → HeadFields
make first last chunked short tnf k n i = record { first = first; last = last; chunked = chunked; short = short; tnf = tnf; kind_length = k; payload_length = n; id_length = i }

same_parts : (a a' b b' c c' d d' : Bool) (t t' k k' n n' : ℕ) (i i' : Option ℕ) → a ≡ a' → b ≡ b' → c ≡ c' → d ≡ d' → t ≡ t' → k ≡ k' → n ≡ n' → i ≡ i'
    → make a b c d t k n i ≡ make a' b' c' d' t' k' n' i'
same_parts a a' b b' c c' d d' t t' k k' n n' i i' e1 e2 e3 e4 e5 e6 e7 e8 = rw (e1, e2, e3, e4, e5, e6, e7, e8) refl

pub heads_are_unambiguous : HeadsAreUnambiguous
heads_are_unambiguous f g x y a b e =
    let w = cut_alike (octets f) (octets g) x y (same_size f g a b x y e) e in
    let h = same_head f g a b w.0 in
    let o = w.0 in
    let eh : header f ≡ header g = cc in (
      same_parts f.first g.first f.last g.last f.chunked g.chunked f.short g.short f.tnf g.tnf f.kind_length g.kind_length f.payload_length g.payload_length f.id_length g.id_length
          (ap (λ z. z.first) h) (ap (λ z. z.last) h) (ap (λ z. z.chunked) h) (ap (λ z. z.short) h) (alike f g a.tnf b.tnf eh).tnf
          (ap (λ z. z.kind_length) h) (ap (λ z. z.payload_length) h) (ap (λ z. z.id_length) h),
      w.1,
    )

-- only one head begins with a whole one
pub only_head : (spot : Spot) (xs : List ℕ) (h : Head) (w : IsWholeHead spot xs h) (f : HeadFields) (b : BeginsHead spot xs f) → (f ≡ w.fields) × ([] ≡ b.rest)
only_head spot xs h w f b =
    heads_are_unambiguous f w.fields [] b.rest b.stands.spelled w.stands.spelled (append-nil (octets f) ∙ b.spelled ∙ ap (λ x. x ++ b.rest) (sym w.spelled))

-- no head lies in an open front
pub open_not_past : (at : Spot) (xs : List ℕ) (o : IsOpen at xs) (g : HeadFields) (m : List ℕ) → CanBeSpelled g → xs ≡ octets g ++ m → ⊥
open_not_past at [] o g m l e = cc
open_not_past at (x ∷ xs) o g m l e =
    let s = o.spelled in
    let a : header o.fields ≡ x = cc in
    let b : header g ≡ x = cc in
    let n : length (octets o.fields) ≡ length (octets g) = octets_size o.fields o.stands.spelled.tnf ∙ ap size (a ∙ sym b) ∙ sym (octets_size g l.tnf) in
    sizes (length (octets o.fields)) (length (octets g)) (length (x ∷ xs)) (length m) (length (o.next ∷ o.rest)) n
    (ap length s ∙ length-append (x ∷ xs) (o.next ∷ o.rest)) (ap length e ∙ length-append (octets g) m) (more o.rest)
  where
    sizes : (a b c d r : ℕ) → a ≡ b → a ≡ c + r → c ≡ b + d → 0 < r → ⊥
    sizes a b c d r e f g h = omega arith

    more : (ys : List ℕ) → 0 < length (o.next ∷ ys)
    more ys = omega arith

-- ---- one answer to an octet

-- equal options of reasons hold equal reasons
only_reason : (r s : Reason) → Some r ≡ Some s → r ≡ s
only_reason r s e = cc

-- whole octets are read as one head
whole_once : (spot : Spot) (xs : List ℕ) (h g : Head) → IsWholeHead spot xs h → IsWholeHead spot xs g → h ≡ g
whole_once spot xs h g a b = sym a.read ∙ same_head a.fields b.fields a.stands.spelled b.stands.spelled (a.spelled ∙ sym b.spelled) ∙ b.read

-- no octets are both a whole head and the front of a longer one
not_both : (spot : Spot) (xs : List ℕ) (h : Head) → IsOpen spot xs → IsWholeHead spot xs h → ⊥
not_both spot xs h o w = open_not_past spot xs o w.fields [] w.stands.spelled (sym w.spelled ∙ sym (append-nil (octets w.fields)))

-- an open front is viable
viable_open : (spot : Spot) (xs : List ℕ) → IsOpen spot xs → IsViableHead spot xs
viable_open spot xs o = (o.fields, record { stands = o.stands; rest = o.next ∷ o.rest; spelled = o.spelled })

-- a whole head is viable
viable_whole : (spot : Spot) (xs : List ℕ) (h : Head) → IsWholeHead spot xs h → IsViableHead spot xs
viable_whole spot xs h w = (w.fields, record { stands = w.stands; rest = []; spelled = w.spelled ∙ sym (append-nil xs) })

pub one_answer : OneAnswer
one_answer spot xs b steps.More steps.More s t = refl
one_answer spot xs b steps.More (steps.Head g) s t = absurd (not_both spot (xs ++ b ∷ []) g s t)
one_answer spot xs b steps.More (steps.Refused q) s t = absurd (t.0 (viable_open spot (xs ++ b ∷ []) s))
one_answer spot xs b (steps.Head h) steps.More s t = absurd (not_both spot (xs ++ b ∷ []) h t s)
one_answer spot xs b (steps.Head h) (steps.Head g) s t = ap steps.Head (whole_once spot (xs ++ b ∷ []) h g s t)
one_answer spot xs b (steps.Head h) (steps.Refused q) s t = absurd (t.0 (viable_whole spot (xs ++ b ∷ []) h s))
one_answer spot xs b (steps.Refused r) steps.More s t = absurd (s.0 (viable_open spot (xs ++ b ∷ []) t))
one_answer spot xs b (steps.Refused r) (steps.Head g) s t = absurd (s.0 (viable_whole spot (xs ++ b ∷ []) g t))
one_answer spot xs b (steps.Refused r) (steps.Refused q) s t = ap steps.Refused (only_reason r q (sym s.1 ∙ t.1))
