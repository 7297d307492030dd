-- A message has one list of links.
use Rattle.std.proofs.Common.{◌≡◌, ◌∙◌, ℕ, zero, suc, List, [], ◌∷◌, Option, Some, None, Result, Ok, Err, refl, sym, ap, subst, inl, inr}
use Rattle.ndef_format.specs.Messages.{Item}
use Rattle.ndef_format.specs.Laws.{OneMeaning}
use Rattle.ndef_format.specs.declared.profile.Profile.{Profile}
use Rattle.ndef_types.specs.Contents.{IsFirstAt, IsFirstOf, Lack}
use Rattle.ndef_types.specs.Links.{AreLinks, HasId, IsHandoverRecord, IsIndexOf, LinksOf, OneListOfLinks, StandsForLinks, alternatives, records_of}
use Rattle.ndef_types.specs.declared.link.Link.{Link}
use Rattle.ndef_types.specs.declared.link.LinkError.{LinkError}
use Rattle.ndef_types.proofs.AlternativeLaws.{same_ac}
use Rattle.ndef_types.proofs.MessageLaws.{same_message}

same_some : {X : Type 0} (a b : X) → Some a ≡ Some b → a ≡ b
same_some a b e = cc

first_at : (P : Item → Type 0) (items : List Item) (j k : ℕ) (a b : Item) → IsFirstAt P items j a → IsFirstAt P items k b → (j ≡ k) × (a ≡ b)
first_at P [] j k a b x y = absurd (let e = x.at in cc)
first_at P (i ∷ items) zero zero a b x y = (refl, same_some a b (sym x.at ∙ y.at))
first_at P (i ∷ items) zero (suc k) a b x y = absurd (y.before.0 (subst P (same_some a i (sym x.at)) x.has))
first_at P (i ∷ items) (suc j) zero a b x y = absurd (x.before.0 (subst P (same_some b i (sym y.at)) y.has))
first_at P (i ∷ items) (suc j) (suc k) a b x y =
    let t = first_at P items j k a b (record { at = x.at; has = x.has; before = x.before.1 }) (record { at = y.at; has = y.has; before = y.before.1 }) in
    (ap suc t.0, t.1)

first_lacks : (P : Item → Type 0) (items : List Item) (k : ℕ) (a : Item) → IsFirstAt P items k a → Lack P items → ⊥
first_lacks P [] k a x h = let e = x.at in cc
first_lacks P (i ∷ items) zero a x h = h.0 (subst P (same_some a i (sym x.at)) x.has)
first_lacks P (i ∷ items) (suc k) a x h = first_lacks P items k a (record { at = x.at; has = x.has; before = x.before.1 }) h.1

first_of : (P : Item → Type 0) (items : List Item) (a b : Option Item) → IsFirstOf P items a → IsFirstOf P items b → a ≡ b
first_of P items None None x y = refl
first_of P items None (Some b) x y = absurd (first_lacks P items y.0 b y.1 x)
first_of P items (Some a) None x y = absurd (first_lacks P items x.0 a x.1 y)
first_of P items (Some a) (Some b) x y = ap Some (first_at P items x.0 y.0 a b x.1 y.1).1

one_index : (items : List Item) (id : List ℕ) (a b : Option ℕ) → IsIndexOf items id a → IsIndexOf items id b → a ≡ b
one_index items id None None x y = refl
one_index items id None (Some k) (inl e) y = absurd (y.0 e)
one_index items id None (Some k) (inr h) y = absurd (first_lacks (HasId id) items k y.1 y.2 h)
one_index items id (Some j) None x (inl e) = absurd (x.0 e)
one_index items id (Some j) None x (inr h) = absurd (first_lacks (HasId id) items j x.1 x.2 h)
one_index items id (Some j) (Some k) x y = ap Some (first_at (HasId id) items j k x.1 y.1 x.2 y.2).0

one_list : (outer items : List Item) (a b : List Link) → AreLinks outer items a → AreLinks outer items b → a ≡ b
one_list outer [] [] [] x y = refl
one_list outer [] [] (m ∷ b) x y = absurd y
one_list outer [] (l ∷ a) b x y = absurd x
one_list outer (i ∷ items) [] b x y = absurd x
one_list outer (i ∷ items) (l ∷ a) [] x y = absurd y
one_list outer (i ∷ items) (l ∷ a) (m ∷ b) x y =
    let c : l.ac ≡ m.ac = same_ac i.payload l.ac m.ac x.0 y.0 in
    let d : l.index ≡ m.index = one_index outer m.ac.reference l.index m.index (subst (λ v. IsIndexOf outer v.reference l.index) c x.1) y.1 in
    let e : a ≡ b = one_list outer items a b x.2 y.2 in
    λ k. record { ac = c k; index = d k } ∷ e k

one_payload : OneMeaning → (profile : Profile) (outer : List Item) (payload : List ℕ) (a b : List Link) → StandsForLinks profile outer payload a → StandsForLinks profile outer payload b → a ≡ b
one_payload one profile outer [] a b x y = absurd x
one_payload one profile outer (version ∷ bytes) a b x y =
    let e = same_message one profile bytes x.0 y.0 x.1 y.1 in
    one_list outer (alternatives (records_of y.0)) a b (subst (λ m. AreLinks outer (alternatives (records_of m)) a) e x.2) y.2

abbrev links_in : Result (List Link) LinkError → List Link
links_in (Ok links) = links
links_in (Err fault) = []

one_found : OneMeaning → (profile : Profile) (outer : List Item) (i : Option Item) (a b : List Link) → LinksOf profile outer i (Ok a) → LinksOf profile outer i (Ok b) → a ≡ b
one_found one profile outer None a b x y = ap links_in (x ∙ sym y)
one_found one profile outer (Some i) a b x y = one_payload one profile outer i.payload a b x.1 y.1

pub one_links : OneMeaning → OneListOfLinks
one_links one profile outer a b x y =
    let e = first_of IsHandoverRecord outer x.0 y.0 x.1 y.1 in
    one_found one profile outer y.0 a b (subst (λ i. LinksOf profile outer i (Ok a)) e x.2) y.2
