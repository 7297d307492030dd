-- The completions of a payload: their octets and their lengths.
use Rattle.std.proofs.Common.{◌≡◌, ◌≢◌, ℕ, zero, suc, ◌-◌, ◌<◌, ◌==◌, Bool, true, false, ◌||◌, List, [], ◌∷◌, length, ◌↔◌, refl, sym, ap, subst, arith}
use Rattle.std.specs.Prelude.{if◌then◌else◌}
use Rattle.std.proofs.lemmas.Bool.{eqb-true, ne_eqb}
use Rattle.ndef_format.specs.Records.{AreOctets}
use Rattle.ndef_format.specs.declared.profile.Profile.{Profile}
use Rattle.ndef_format.specs.declared.profile.Profile.TheVariants.{Strict, Standard}
use Rattle.ndef_format.specs.Octets.{AreOctetsOf, Counted, IsOctet, Octets}
use Rattle.ndef_format.specs.Texts.{IsCodeOctet, IsTextIn, IsText, is_wide, code_length}
use Rattle.ndef_format.specs.Uris.{IsReserved, IsUri}
use Rattle.ndef_format.specs.Handovers.{AreReferences, AreAuxiliary, IsError, IsErrorData}
use Rattle.ndef_format.specs.Nested.{IsPayload}
use Rattle.ndef_format.specs.declared.kind.Kind.{Kind}
use Rattle.ndef_format.specs.declared.kind.Kind.TheVariants as kinds
use Rattle.ndef_lang.specs.declared.lengths.Lengths.TheVariants.{From}
use Rattle.ndef_lang.specs.declared.utf8.Utf8Lang.TheVariants as utf8
use Rattle.ndef_lang.specs.declared.utf16.Utf16State.TheVariants as utf16
use Rattle.ndef_lang.specs.declared.leaf.Class.{Class}
use Rattle.ndef_lang.specs.declared.leaf.Class.TheVariants as classes
use Rattle.ndef_lang.specs.declared.leaf.Stage.{Stage}
use Rattle.ndef_lang.specs.declared.leaf.Stage.TheVariants as stages
use Rattle.ndef_lang.specs.declared.leaf.Leaf.{Leaf}
use Rattle.ndef_lang.specs.declared.leaf.Leaf.TheVariants.{Field, Utf8, Utf16, Refused}
use Rattle.ndef_lang.specs.Lengths.{AreLengths}
use Rattle.ndef_lang.specs.LengthLaws.{octets_lengths}
use Rattle.ndef_lang.specs.OctetLaws.{any_octets, counted_octets, counted_lengths, field_octets, field_lengths, first_lengths}
use Rattle.ndef_lang.specs.Machine.Utf8Laws.{utf8_octets, completes_utf8_octets, are_utf8_lengths}
use Rattle.ndef_lang.specs.Machine.Utf16Laws.{utf16_octets, completes_utf16_octets, are_utf16_lengths}
use Rattle.ndef_lang.specs.Machine.Leaf.{InClass, CompletesStage, CompletesLeaf, field_after, leaf_lengths, leaf_of, stage_lengths, text_stage}

-- ---- octets

text_in_octets : (wide : Bool) (r : List ℕ) → IsTextIn wide r → AreOctets r
text_in_octets true r h = utf16_octets r h
text_in_octets false r h = utf8_octets r h

text_is_octets : (r : List ℕ) → IsText r → AreOctets r
text_is_octets [] h = absurd h
text_is_octets (b ∷ s) h =
    let text = IsTextIn (is_wide b) in
    (h.0, field_octets IsCodeOctet (λ b h. omega arith) (code_length b) text (text_in_octets (is_wide b)) s h.2)

uri_octets : (profile : Profile) (r : List ℕ) → IsUri profile r → AreOctets r
uri_octets profile [] h = absurd h
uri_octets profile (code ∷ s) h = (h.0, utf8_octets s h.2)

error_octets : (r : List ℕ) → IsError r → AreOctets r
error_octets [] h = absurd h
error_octets (reason ∷ s) h = (h.0, h.1.0)

references_octets : (n : ℕ) (r : List ℕ) → AreReferences n r → AreOctets r
references_octets zero r h = h
references_octets (suc n) r h = counted_octets (AreReferences n) (references_octets n) r h

auxiliary_octets : (r : List ℕ) → AreAuxiliary r → AreOctets r
auxiliary_octets [] h = absurd h
auxiliary_octets (n ∷ s) h = (h.0, references_octets n s h.1)

stage_octets : (stage : Stage) (r : List ℕ) → CompletesStage stage r → AreOctets r
stage_octets stages.End r h = subst AreOctets (sym h) tt
stage_octets stages.Any r h = h
stage_octets stages.Utf8 r h = utf8_octets r h
stage_octets stages.Utf16 r h = utf16_octets r h
stage_octets stages.Status r h = text_is_octets r h
stage_octets (stages.UriCode profile) r h = uri_octets profile r h
stage_octets stages.ErrorReason r h = error_octets r h
stage_octets stages.CarrierKindLength r h = counted_octets AreOctets (λ r h. h) r h
stage_octets stages.ReferenceLength r h = counted_octets AreAuxiliary auxiliary_octets r h
stage_octets stages.AuxiliaryCount r h = auxiliary_octets r h
stage_octets (stages.References count) r h = references_octets count r h

pub payload_octets : (kind : Kind) (profile : Profile) (s : List ℕ) → IsPayload kind profile s → AreOctets s
payload_octets kinds.Text profile s h = text_is_octets s h
payload_octets kinds.Uri profile s h = uri_octets profile s h
payload_octets kinds.Action profile s h = h.0
payload_octets kinds.Size profile s h = h.0
payload_octets kinds.MediaType profile s h = utf8_octets s h
payload_octets kinds.Collision profile s h = h.0
payload_octets kinds.Alternative profile s h =
    any_octets 1 (Counted AreAuxiliary) (counted_octets AreAuxiliary auxiliary_octets) s h
payload_octets kinds.Error profile s h = error_octets s h
payload_octets kinds.Carrier profile s h = any_octets 1 (Counted AreOctets) (counted_octets AreOctets (λ r h. h)) s h
payload_octets kinds.Other profile s h = h
payload_octets kinds.SmartPoster profile s h = h
payload_octets kinds.Request profile s h = h
payload_octets kinds.Select profile s h = h

class_octets : (class : Class) (b : ℕ) → InClass class b → b < 256
class_octets classes.Any b h = h
class_octets classes.Code b h = omega arith

pub completes_leaf_octets : (state : Leaf) (r : List ℕ) → CompletesLeaf state r → AreOctets r
completes_leaf_octets (Field left class next) =
    field_octets (InClass class) (class_octets class) left (CompletesStage next) (stage_octets next)
completes_leaf_octets (Utf8 text) = completes_utf8_octets text
completes_leaf_octets (Utf16 text) = completes_utf16_octets text
completes_leaf_octets (Refused reason) = λ r h. absurd h

-- ---- lengths

zero_is_free : (profile : Profile) → IsReserved profile 0 → ⊥
zero_is_free Strict h = omega arith
zero_is_free Standard h = h

references_lengths : (n : ℕ) → AreLengths (AreReferences n) (From n)
references_lengths zero = octets_lengths
references_lengths (suc n) = counted_lengths n (AreReferences n) (references_lengths n)

auxiliary_lengths : AreLengths AreAuxiliary (From 1)
auxiliary_lengths = first_lengths AreOctets AreAuxiliary (λ h. h) octets_lengths (λ r h. (omega arith, h))

pub are_stage_lengths : (stage : Stage) → AreLengths (CompletesStage stage) (stage_lengths stage)
are_stage_lengths stages.End = record { all = λ r h. ap length h; each = λ k h. ([], (refl, sym h)) }
are_stage_lengths stages.Any = octets_lengths
are_stage_lengths stages.Utf8 = let u = are_utf8_lengths utf8.Whole in record { all = u.all; each = u.each }
are_stage_lengths stages.Utf16 = let u = are_utf16_lengths utf16.Start in record { all = u.all; each = u.each }
are_stage_lengths stages.Status = let u = are_utf8_lengths utf8.Whole
    in first_lengths (CompletesStage stages.Utf8) IsText (λ h. h) (record { all = u.all; each = u.each })
    (λ r h. (omega arith, λ x. omega arith, h))
are_stage_lengths (stages.UriCode profile) = let u = are_utf8_lengths utf8.Whole
    in first_lengths (CompletesStage stages.Utf8) (IsUri profile) (λ h. h) (record { all = u.all; each = u.each })
    (λ r h. (omega arith, zero_is_free profile, h))
are_stage_lengths stages.ErrorReason = first_lengths AreOctets IsError (λ h. h) octets_lengths
    (λ r h. (omega arith, (h, λ e. absurd (omega arith), λ e. absurd (omega arith), λ e. absurd (omega arith))))
are_stage_lengths stages.CarrierKindLength = counted_lengths 0 AreOctets octets_lengths
are_stage_lengths stages.ReferenceLength = counted_lengths 1 AreAuxiliary auxiliary_lengths
are_stage_lengths stages.AuxiliaryCount = auxiliary_lengths
are_stage_lengths (stages.References count) = references_lengths count

some_in : (class : Class) → InClass class 0
some_in classes.Any = omega arith
some_in classes.Code = omega arith

pub are_leaf_lengths : (state : Leaf) → AreLengths (CompletesLeaf state) (leaf_lengths state)
are_leaf_lengths (Field left class next) = field_lengths (InClass class) 0 (some_in class) left (CompletesStage next)
    (stage_lengths next) (are_stage_lengths next)
are_leaf_lengths (Utf8 text) = are_utf8_lengths text
are_leaf_lengths (Utf16 text) = are_utf16_lengths text
are_leaf_lengths (Refused reason) = record { all = λ r h. absurd h; each = λ k h. absurd h }

-- ---- a payload by its layout

-- a language code and the text after it, by its stage
pub coded_text : (wide : Bool) (n : ℕ) (r : List ℕ)
    → Octets IsCodeOctet n (CompletesStage (text_stage wide)) r ↔ Octets IsCodeOctet n (IsTextIn wide) r
coded_text true n r = (λ h. h, λ h. h)
coded_text false n r = (λ h. h, λ h. h)

-- n octets and nothing more
pub octets_to_end : (n : ℕ) (r : List ℕ) → Octets IsOctet n (CompletesStage stages.End) r ↔ AreOctetsOf n r
octets_to_end zero [] = (λ h. (tt, refl), λ h. refl)
octets_to_end zero (b ∷ r) = (λ h. cc, λ h. absurd (omega (arith, h.1)))
octets_to_end (suc n) [] = (λ h. absurd h, λ h. absurd (omega (arith, h.1)))
octets_to_end (suc n) (b ∷ r) =
    let f = octets_to_end n r in
    (λ h. (let t = f.0 h.1 in ((h.0, t.0), omega (arith, t.1))), λ h. (h.0.0, f.1 (h.0.1, omega (arith, h.1))))

-- a payload of a kind is one of its layout
pub payload_completes : (kind : Kind) (profile : Profile) (s : List ℕ) → IsPayload kind profile s
    → CompletesLeaf (leaf_of kind profile) s
payload_completes kinds.Action profile s h = (octets_to_end 1 s).1 h
payload_completes kinds.Size profile s h = (octets_to_end 4 s).1 h
payload_completes kinds.Collision profile s h = (octets_to_end 2 s).1 h
payload_completes kinds.Text profile s h = h
payload_completes kinds.Uri profile s h = h
payload_completes kinds.MediaType profile s h = h
payload_completes kinds.Alternative profile s h = h
payload_completes kinds.Error profile s h = h
payload_completes kinds.Carrier profile s h = h
payload_completes kinds.Other profile s h = h
payload_completes kinds.SmartPoster profile s h = h
payload_completes kinds.Request profile s h = h
payload_completes kinds.Select profile s h = h

-- the data of an error, by the tests of its reason
error_leads : (b : ℕ) (s : List ℕ) → IsErrorData b s → (one two three : Bool) → (b == 1) ≡ one → (b == 2) ≡ two
    → (b == 3) ≡ three
    → CompletesLeaf (Field (if one || three then 1 else (if two then 4 else 0)) classes.Any
    (if one || three then stages.End else (if two then stages.End else stages.Any))) s
error_leads b s h true two three d e f = (octets_to_end 1 s).1 (h.0, h.1 (eqb-true b 1 d))
error_leads b s h false two true d e f = (octets_to_end 1 s).1 (h.0, h.3 (eqb-true b 3 f))
error_leads b s h false true false d e f = (octets_to_end 4 s).1 (h.0, h.2 (eqb-true b 2 e))
error_leads b s h false false false d e f = h.0

references_lead : (count b : ℕ) (r : List ℕ) → AreReferences count (b ∷ r)
    → CompletesLeaf (field_after (stages.References count) b) r
references_lead zero b r h = h.1
references_lead (suc n) b r h =
    let same : n ≡ suc n - 1 = omega arith in
    let rest = subst (λ m. Octets IsOctet b (CompletesStage (stages.References m)) r) same h.1 in
    rw (ne_eqb (suc n) 0 (λ e. omega arith)) rest

-- after its first octet a stage that isn't a text goes on with the field that the octet leaves
pub stage_leads : (stage : Stage) (b : ℕ) (r : List ℕ) → stage ≢ stages.Utf8 → stage ≢ stages.Utf16
    → CompletesStage stage (b ∷ r) → CompletesLeaf (field_after stage b) r
stage_leads stages.End b r k l h = cc
stage_leads stages.Any b r k l h = h.1
stage_leads stages.Utf8 b r k l h = absurd (k refl)
stage_leads stages.Utf16 b r k l h = absurd (l refl)
stage_leads stages.Status b r k l h = (coded_text (is_wide b) (code_length b) r).1 h.2
stage_leads (stages.UriCode profile) b r k l h = h.2
stage_leads stages.ErrorReason b r k l h = error_leads b r h.1 (b == 1) (b == 2) (b == 3) refl refl refl
stage_leads stages.CarrierKindLength b r k l h = h.1
stage_leads stages.ReferenceLength b r k l h = h.1
stage_leads stages.AuxiliaryCount b r k l h = h.1
stage_leads (stages.References count) b r k l h = references_lead count b r h
