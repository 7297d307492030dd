-- Payloads of a layout that a program gives (NDEF 1.0, PAYLOAD).
use Rattle.std.specs.Prelude.{◌≡◌, ◌==◌, ◌<◌, ◌≤◌, ◌+◌, ◌-◌, ◌^◌, ◌⊎◌, ◌||◌, ◌++◌, ℕ, Bool, Option, None, Some, true, false, ⊤, IsUtf8, List, [], ◌∷◌, drop, length, map, nat_lt, slice_index, take, if◌then◌else◌}
use Rattle.ndef_format.specs.Octets.{Counted, IsOctet, Octets}
use Rattle.ndef_format.specs.PayloadReasons.{Utf8Reason}
use Rattle.ndef_format.specs.Reasons.{IsLowest, NoReason, reason_number}
use Rattle.ndef_format.specs.Records.{AreOctets}
use Rattle.ndef_format.specs.declared.reason.Reason.{Reason}
use Rattle.ndef_format.specs.declared.reason.Reason.TheVariants.{DoesNotFit}
use Rattle.ndef_format.specs.declared.refusal.Refusal.{Refusal}
use Rattle.ndef_lang.specs.Language.{After, Continues, PassesBetween}
use Rattle.ndef_c.specs.declared.layout.Field.{Field}
use Rattle.ndef_c.specs.declared.layout.Field.TheVariants as fields
use Rattle.ndef_c.specs.declared.layout.NdefLaidOut.{NdefLaidOut}
use Rattle.ndef_c.specs.declared.layout.NdefLayoutField.{NdefLayoutField}
use Rattle.ndef_c.specs.declared.layout.TheConstants.{LAYOUT_COUNTED, LAYOUT_OCTETS, LAYOUT_REST, LAYOUT_UTF8, LAYOUT_WITHIN}

-- ---- layouts

-- the field that the numbers say
abbrev pub field_of : NdefLayoutField → Field
field_of n = if n.form == LAYOUT_OCTETS then fields.Octets n.least
    else (if n.form == LAYOUT_WITHIN then fields.Within n.least n.most
    else (if n.form == LAYOUT_COUNTED then fields.Counted
    else (if n.form == LAYOUT_UTF8 then fields.Utf8 else fields.Rest)))

-- a field has one of the forms, and bounds of an octet are in order
abbrev pub MayBeField : NdefLayoutField → Type 0
MayBeField n = (n.form ≡ LAYOUT_OCTETS) ⊎ (n.form ≡ LAYOUT_COUNTED) ⊎ (n.form ≡ LAYOUT_UTF8)
    ⊎ (n.form ≡ LAYOUT_REST) ⊎ ((n.form ≡ LAYOUT_WITHIN) × (n.least ≤ n.most) × (n.most ≤ 255))

-- whether a field goes to the end of the payload
abbrev pub is_last : Field → Bool
is_last fields.Utf8 = true
is_last fields.Rest = true
is_last _ = false

-- each is a field, and none comes after one that goes to the end
abbrev pub AreFields : List NdefLayoutField → Type 0
AreFields [] = ⊤
AreFields (n ∷ more) = MayBeField n × (is_last (field_of n) ≡ true → more ≡ []) × AreFields more

-- these are a layout of at most 255 fields
abbrev pub MayBeLayout : List NdefLayoutField → Type 0
MayBeLayout numbers = (length numbers ≤ 255) × AreFields numbers

-- the layout that the numbers say
abbrev pub layout_of : List NdefLayoutField → List Field
layout_of numbers = map field_of numbers

-- an octet of these bounds
abbrev pub IsBetween : (least most : ℕ) → ℕ → Type 0
IsBetween least most b = (least ≤ b) × (b ≤ most)

-- NDEF 1.0, PAYLOAD: the octets are those of the fields, one field after another
abbrev pub IsLaidOut : List Field → List ℕ → Type 0
IsLaidOut [] s = s ≡ []
IsLaidOut (fields.Octets n ∷ more) s = Octets IsOctet n (IsLaidOut more) s
IsLaidOut (fields.Within least most ∷ more) s = Octets (IsBetween least most) 1 (IsLaidOut more) s
IsLaidOut (fields.Counted ∷ more) s = Counted (IsLaidOut more) s
IsLaidOut (fields.Utf8 ∷ more) s = IsUtf8 s
IsLaidOut (fields.Rest ∷ more) s = AreOctets s

-- NDEF 1.0, PAYLOAD_LENGTH: a payload of the layout
abbrev pub IsOfLayout : List Field → List ℕ → Type 0
IsOfLayout layout s = IsLaidOut layout s × (length s < 2 ^ 32)

-- ---- refusals

-- the octets so far of the text in UTF-8 to which the next octet belongs, if it belongs to one
abbrev pub text_before : List Field → List ℕ → Option (List ℕ)
text_before [] s = None
text_before (fields.Octets n ∷ more) s = if nat_lt (length s) n then None else text_before more (drop n s)
text_before (fields.Within least most ∷ more) [] = None
text_before (fields.Within least most ∷ more) (octet ∷ s) = text_before more s
text_before (fields.Counted ∷ more) [] = None
text_before (fields.Counted ∷ more) (n ∷ s) = if nat_lt (length s) n then None else text_before more (drop n s)
text_before (fields.Utf8 ∷ more) s = Some s
text_before (fields.Rest ∷ more) s = None

-- RFC 3629: which reasons hold of an octet of a text in UTF-8, or of none
abbrev pub TextReason : Option (List ℕ) → ℕ → Reason → Type 0
TextReason None b = NoReason
TextReason (Some text) b = Utf8Reason text b

-- which reasons hold of the octet b after the octets s of a payload
abbrev pub LayoutReason : List Field → List ℕ → ℕ → Reason → Type 0
LayoutReason layout s b = TextReason (text_before layout s) b

-- some payload of the layout begins with the octets, and has `left` more
abbrev pub CanBegin : List Field → List ℕ → (left : ℕ) → Type 0
CanBegin layout s left = PassesBetween (After (IsLaidOut layout) s) left left

-- no payload of the layout with the length of this one begins with the octets up to the refused one,
-- but some begins with those before it; and why
pub record IsRefusedIn (layout : List Field) (payload : List ℕ) (refusal : Refusal) : Type 0 where
  pub within : refusal.at < length payload
  pub begins : CanBegin layout (take refusal.at payload) (length payload - refusal.at)
  pub ends : CanBegin layout (take (refusal.at + 1) payload) (length payload - (refusal.at + 1)) → ⊥
  pub reason : IsLowest (LayoutReason layout (take refusal.at payload) (slice_index payload refusal.at))
      refusal.reason

-- no payload of the layout has this length
abbrev pub HasNoLength : List Field → ℕ → Type 0
HasNoLength layout n = (s : List ℕ) → length s ≡ n → IsOfLayout layout s → ⊥

-- the answer to a payload of the layout
abbrev pub TakesLayout : List ℕ → NdefLaidOut → Type 0
TakesLayout payload out = (out.place ≡ length payload) × (out.reason ≡ 0) × (out.length_fits ≡ 1)

-- the answer to any other: its length is that of none, or an octet is refused
abbrev pub RefusesLayout : List Field → List ℕ → NdefLaidOut → Type 0
RefusesLayout layout payload out =
    (HasNoLength layout (length payload) × (out.place ≡ 0) × (out.reason ≡ reason_number DoesNotFit)
    × (out.length_fits ≡ 0))
    ⊎ ((length payload < 2 ^ 32) × (refusal : Refusal) × IsRefusedIn layout payload refusal
    × (out.place ≡ refusal.at) × (out.reason ≡ reason_number refusal.reason) × (out.length_fits ≡ 1))

-- ---- step by step

-- the least number of octets of a field
abbrev pub least_in : Field → ℕ
least_in (fields.Octets n) = n
least_in (fields.Within least most) = 1
least_in fields.Counted = 1
least_in _ = 0

-- the greatest, of one that doesn't go to the end
abbrev pub most_in : Field → ℕ
most_in (fields.Octets n) = n
most_in (fields.Within least most) = 1
most_in fields.Counted = 256
most_in _ = 0

-- the sum of a number of each field
abbrev pub sum_of : (Field → ℕ) → List Field → ℕ
sum_of f [] = 0
sum_of f (field ∷ more) = f field + sum_of f more

-- whether a field goes to the end
abbrev pub goes_to_end : List Field → Bool
goes_to_end [] = false
goes_to_end (field ∷ more) = is_last field || goes_to_end more

-- a payload of the layout may have this length
abbrev pub HasLaidLength : List Field → ℕ → Type 0
HasLaidLength layout n =
    (sum_of least_in layout ≤ n) × ((goes_to_end layout ≡ true) ⊎ (n ≤ sum_of most_in layout))

-- the layout goes on with these fields after the octets before the rest
pub record GoesOn (layout left : List Field) (payload rest : List ℕ) : Type 0 where
  pub front : List ℕ
  pub split : payload ≡ front ++ rest
  pub future : Continues (IsLaidOut layout) (IsLaidOut left) front
  pub fits : HasLaidLength left (length rest)
  pub texts : (s : List ℕ) → text_before layout (front ++ s) ≡ text_before left s

-- nothing of the length of these octets begins with the first of them, and no reason but that holds
abbrev pub IsRefusedFirst : List Field → List ℕ → Type 0
IsRefusedFirst layout octets = (b : ℕ) × (rest : List ℕ) × (octets ≡ b ∷ rest)
    × (CanBegin layout (b ∷ []) (length rest) → ⊥) × IsLowest (LayoutReason layout [] b) DoesNotFit

-- the octet of a text after which none of its length goes on, and why, by its place after other octets
abbrev pub IsRefusedText : List ℕ → (before : ℕ) → Refusal → Type 0
IsRefusedText text before refusal = (at : ℕ) × (refusal.at ≡ before + at)
    × IsRefusedIn (fields.Utf8 ∷ []) text (record { at = at; reason = refusal.reason })
