-- Lines, one after another.
use Rattle.std.proofs.Common.{◌≡◌, ℕ, ◌+◌, ◌<◌, List, [], ◌∷◌, ◌++◌, length, take, refl, sym, ap, ◌∙◌, arith, length-take, append-nil, append_assoc, Result, Ok, Err}
use Rattle.std.specs.Prelude.{OnOk, slice_get, Some}
use Rattle.std.proofs.lemmas.List.{take_more}
use Rattle.std.proofs.lemmas.Option.{get_or_from_slice_get}
use Rattle.ndef_format.specs.Messages.{Item}
use Rattle.ndef_format.specs.declared.profile.Profile.{Profile}
use Rattle.ndef_cli.specs.Quoting.{Text}
use Rattle.ndef_tool.specs.Showing.{AreRecordLines, IsRecordLine}

-- what follows from a success
pub on_ok : {A E : Type 0} {P Q : Type 0} (r : Result A E) → OnOk r P → (P → Q) → OnOk r Q
on_ok (Ok x) h f = f h
on_ok (Err e) h f = tt

-- two parts of a line, one after another
pub two_parts : (x a word part n m : Text) → n ≡ x ++ a → m ≡ n ++ (word ++ part) → m ≡ x ++ (a ++ word ++ part)
two_parts x a word part n m e f = f ∙ ap (λ t. t ++ (word ++ part)) e ∙ simp append_assoc

-- three parts of a line, one after another
pub three_parts : (x a second b third c n m k : Text) → n ≡ x ++ a → m ≡ n ++ (second ++ b) → k ≡ m ++ (third ++ c) → k ≡ x ++ (a ++ second ++ b ++ third ++ c)
three_parts x a second b third c n m k e f g = g ∙ ap (λ t. t ++ (third ++ c)) (two_parts x a second b n m e f) ∙ simp append_assoc

records_after : (profile : Profile) (number : ℕ) (items : List Item) (i : Item) (done line : Text) → AreRecordLines profile number items done
    → IsRecordLine profile (number + length items) i line → AreRecordLines profile number (items ++ i ∷ []) (done ++ line)
records_after profile number [] i done line are is =
    let n : number + 0 ≡ number = omega arith in
    (line, [], rw n at is, refl, ap (λ t. t ++ line) are ∙ sym (append-nil line))
records_after profile number (j ∷ items) i done line are is =
    let n : number + length (j ∷ items) ≡ number + 1 + length items = omega arith in (
      are.0,
      are.1 ++ line,
      are.2,
      records_after profile (number + 1) items i are.1 line are.3 (rw n at is),
      ap (λ t. t ++ line) are.4 ∙ append_assoc are.0 are.1 line,
    )

pub take_grows : {A : Type 0} (items : List A) (n : ℕ) (i : A) → n < length items → slice_get items n ≡ Some i → take (n + 1) items ≡ take n items ++ i ∷ []
take_grows items n i l e = take_more items n i l ∙ ap (λ j. take n items ++ j ∷ []) (get_or_from_slice_get items n i i e)

-- one record more
pub records_on : (profile : Profile) (items : List Item) (n : ℕ) (i : Item) (done line : Text) → n < length items → slice_get items n ≡ Some i
    → AreRecordLines profile 1 (take n items) done → IsRecordLine profile (n + 1) i line → AreRecordLines profile 1 (take (n + 1) items) (done ++ line)
records_on profile items n i done line l e are is =
    let number : 1 + length (take n items) ≡ n + 1 = omega (arith, length-take n items) in
    rw (take_grows items n i l e) (records_after profile 1 (take n items) i done line are (rw number is))
