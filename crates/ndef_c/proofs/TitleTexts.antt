-- The titles of posters.
use Rattle.std.proofs.Common.{◌≡◌, ℕ, ◌+◌, ◌-◌, ◌≤◌, Bool, true, true≢false, List, ◌∷◌, ◌++◌, length, take, drop, refl, sym, ◌∙◌, ap, subst, arith}
use Rattle.std.specs.Prelude.{slice_get}
use Rattle.std.proofs.lemmas.List.{drop-drop, drop-take, take-take}
use Rattle.ndef_format.specs.Messages.{Item}
use Rattle.ndef_format.specs.Nested.{IsPayload, kind_in}
use Rattle.ndef_format.specs.Texts.{IsText}
use Rattle.ndef_format.specs.declared.kind.Kind.{Kind}
use Rattle.ndef_format.specs.declared.kind.Kind.TheVariants as kinds
use Rattle.ndef_format.specs.declared.profile.Profile.TheVariants.{Standard}
use Rattle.ndef_format.specs.declared.table.Table.TheVariants.{SmartPoster}
use Rattle.ndef_types.specs.Contents.{IsOfKind}
use Rattle.ndef_types.specs.ContentsLaws.{has_at}
use Rattle.ndef_types.specs.Posters.{is_text}
use Rattle.ndef_c.specs.Posters.{HasPosterRecords}
use Rattle.ndef_c.specs.Titles.{IsPosterPayload}
use Rattle.ndef_c.specs.Walks.{Lies}
use Rattle.ndef_c.proofs.Ahead.{get_after}

abbrev pub is_title : Item → Bool
is_title i = is_text (kind_in SmartPoster i.tnf i.kind)

text_kind : (kind : Kind) → is_text kind ≡ true → kind ≡ kinds.Text
text_kind kinds.Text e = refl
text_kind _ e = absurd (true≢false (sym e))

pub of_text : (i : Item) → is_title i ≡ true → IsOfKind SmartPoster kinds.Text i
of_text i e = text_kind (kind_in SmartPoster i.tnf i.kind) e

pub is_title_of : (i : Item) → IsOfKind SmartPoster kinds.Text i → is_title i ≡ true
is_title_of i e = ap is_text e

-- a title is a text
pub title_text : (items xs : List Item) (payload : List ℕ) (i : Item) → HasPosterRecords Standard items payload → (more : List Item) × (items ≡ xs ++ i ∷ more) → is_title i ≡ true → IsText i.payload
title_text items xs payload i h w e =
    subst (λ k. IsPayload k Standard i.payload) (of_text i e)
    (has_at (λ j. IsPayload (kind_in SmartPoster j.tnf j.kind) Standard j.payload) items (length xs) i h.1.contents.members (ap (λ ys. slice_get ys (length xs)) w.1 ∙ get_after xs i w.0))

-- the records of a poster
pub poster_of : (payload : List ℕ) → IsPosterPayload payload → (items : List Item) × HasPosterRecords Standard items payload
poster_of payload p = (p.in_set.1, (p.in_set.0, p.in_set.2))

-- a part of a part
pub lies_deeper : (bytes whole part : List ℕ) (at size from count : ℕ) → Lies bytes at size whole → Lies whole from count part → Lies bytes (at + from) count part
lies_deeper bytes whole part at size from count l m =
    let w = l.within in
    let n = l.count_is in
    let k = m.within in
    record {
      within = omega (arith, w, n, k);
      are = ap (take count) (sym (drop-drop from at bytes)) ∙ sym (inside count from size (drop at bytes) whole l.are (omega (arith, n, k))) ∙ m.are;
      count_is = m.count_is;
    }
  where
    inside : (count from size : ℕ) (xs whole : List ℕ) → take size xs ≡ whole → from + count ≤ size → take count (drop from whole) ≡ take count (drop from xs)
    inside count from size xs whole e h =
        let split : size ≡ from + (size - from) = omega (arith, h) in
        ap (λ x. take count (drop from x)) (sym e ∙ ap (λ n. take n xs) split) ∙ ap (take count) (drop-take from (size - from) xs) ∙ take-take count (size - from) (drop from xs) (omega (arith, h))
