-- A URI payload has one URI as its value, and the payload that is written for a URI has that value.
use Rattle.std.proofs.Common.{◌≡◌, ℕ, ◌^◌, ◌≤◌, Bool, true, List, [], ◌∷◌, ◌++◌, length, take, drop, get_or, refl, sym, ◌∙◌, ap, subst, arith, zero, suc, length-append}
use Rattle.std.proofs.Math.Seq.{take-append_seam, drop-append_seam}
use Rattle.std.proofs.lemmas.Bool.{and_parts, ltb-true}
use Rattle.std.proofs.lemmas.Str.{IsUtf8-from_ascii, IsUtf8-drop, IsUtf8-append, IsCharBoundary-from_take}
use Rattle.std.specs.Prelude.{IsUtf8, IsAscii, ◌&&◌, nat_lt}
use Rattle.ndef_format.specs.declared.profile.Profile.{Profile}
use Rattle.ndef_format.specs.declared.profile.Profile.TheVariants.{Strict, Standard}
use Rattle.ndef_format.specs.Uris.{IsUri, IsReserved}
use Rattle.ndef_format.specs.PayloadReasons.{UriReason}
use Rattle.ndef_types.specs.Decoding.{OneValue, EachHasValue, OnePayload, ValuesRoundTrip, WritesPayloads, IsTooLong}
use Rattle.ndef_types.specs.Prefixes.{prefixes, prefix_of, IsLongest}
use Rattle.ndef_types.proofs.PrefixLemmas.{has_longest, one_longest}
use Rattle.ndef_types.specs.Values.{StandsForUri, WritesUri}
use Rattle.ndef_types.proofs.RoundTripLemmas.{round_trip}

-- ---- the prefixes are texts

narrow : List ℕ → Bool
narrow [] = true
narrow (b ∷ s) = nat_lt b 128 && narrow s

all_narrow : List (List ℕ) → Bool
all_narrow [] = true
all_narrow (p ∷ ps) = narrow p && all_narrow ps

prefixes_narrow : all_narrow prefixes ≡ true
unfolding all_narrow narrow
prefixes_narrow = refl

narrow_ascii : (s : List ℕ) → narrow s ≡ true → IsAscii s
unfolding narrow
narrow_ascii [] e i = omega arith
narrow_ascii (b ∷ s) e zero = ltb-true b 128 (and_parts (nat_lt b 128) (narrow s) e).0
narrow_ascii (b ∷ s) e (suc i) = narrow_ascii s (and_parts (nat_lt b 128) (narrow s) e).1 i

narrow_at : (ps : List (List ℕ)) (i : ℕ) → all_narrow ps ≡ true → narrow (get_or ps i []) ≡ true
unfolding all_narrow narrow
narrow_at [] i e = refl
narrow_at (p ∷ ps) zero e = (and_parts (narrow p) (all_narrow ps) e).0
narrow_at (p ∷ ps) (suc i) e = narrow_at ps i (and_parts (narrow p) (all_narrow ps) e).1

pub prefix_utf8 : (code : ℕ) → IsUtf8 (prefix_of code)
unfolding prefix_of
prefix_utf8 code = IsUtf8-from_ascii (get_or prefixes code []) (narrow_ascii _ (narrow_at prefixes code prefixes_narrow))

-- what follows a prefix in a text is one
rest_utf8 : (uri rest : List ℕ) (code : ℕ) → IsUtf8 uri → uri ≡ prefix_of code ++ rest → IsUtf8 rest
rest_utf8 uri rest code u e =
    let p = prefix_of code in
    let whole : IsUtf8 (p ++ rest) = subst IsUtf8 e u in
    let front : IsUtf8 (take (length p) (p ++ rest)) = rw take-append_seam (prefix_utf8 code) in
    let b = IsCharBoundary-from_take (p ++ rest) (length p) whole (omega (arith, length-append p rest)) front in
    subst IsUtf8 (drop-append_seam p rest) (IsUtf8-drop (p ++ rest) (length p) whole b)

pub one_uri : (profile : Profile) → OneValue (IsUri profile) StandsForUri
one_uri profile [] v w h x y = absurd x
one_uri profile (code ∷ s) v w h x y = x ∙ sym y

pub each_uri : (profile : Profile) → EachHasValue (IsUri profile) StandsForUri IsUtf8
each_uri profile [] h = absurd h
each_uri profile (code ∷ s) h = (prefix_of code ++ s, (IsUtf8-append (prefix_of code) s (prefix_utf8 code) h.2, refl))

free : (profile : Profile) (code : ℕ) → code ≤ 0x23 → IsReserved profile code → ⊥
free Strict code l h = omega arith
free Standard code l h = h

written : (profile : Profile) (uri payload : List ℕ) → IsUtf8 uri → WritesUri uri payload → IsUri profile payload × StandsForUri payload uri
written profile uri [] u w = absurd w
written profile uri (code ∷ rest) u w = ((omega (arith, w.0.known), free profile code w.0.known, rest_utf8 uri rest code u w.1), w.1)

pub uri_written : (profile : Profile) → WritesPayloads (IsUri profile) IsUtf8 WritesUri
uri_written profile uri payload u w = (written profile uri payload u w).0

pub uris_round_trip : (profile : Profile) → ValuesRoundTrip (IsUri profile) (UriReason profile) StandsForUri IsUtf8 WritesUri
uris_round_trip profile = round_trip (IsUri profile) (UriReason profile) StandsForUri IsUtf8 WritesUri (written profile) (one_uri profile)

-- ---- what is written

-- what is written of a URI is this alone
same_payload : (uri payload rest : List ℕ) (code : ℕ) → IsLongest uri code → uri ≡ prefix_of code ++ rest → WritesUri uri payload → payload ≡ code ∷ rest
same_payload uri [] rest code l s w = absurd w
same_payload uri (other ∷ more) rest code l s w =
    let e : other ≡ code = one_longest uri other code w.0 l in
    let x : prefix_of code ++ more ≡ prefix_of code ++ rest = ap (λ k. prefix_of k ++ more) (sym e) ∙ sym w.1 ∙ s in
    let y : more ≡ rest = sym (drop-append_seam (prefix_of code) more) ∙ ap (drop (length (prefix_of code))) x ∙ drop-append_seam (prefix_of code) rest in
    λ i. e i ∷ y i

pub one_payload : OnePayload IsUtf8 WritesUri
one_payload uri u =
    let l = has_longest uri in
    let rest = l.1.begins.0 in
    (l.0 ∷ rest, ((l.1, l.1.begins.1), λ other w. same_payload uri other rest l.0 l.1 l.1.begins.1 w))

pub too_long : (uri rest : List ℕ) (code : ℕ) → IsLongest uri code → uri ≡ prefix_of code ++ rest → 2 ^ 32 ≤ length (code ∷ rest) → IsTooLong WritesUri uri
too_long uri rest code l s m = (code ∷ rest, (l, s), m)

-- where what is written of a URI is too long, this is
pub is_long : (uri rest : List ℕ) (code : ℕ) → IsLongest uri code → uri ≡ prefix_of code ++ rest → IsTooLong WritesUri uri → 2 ^ 32 ≤ length (code ∷ rest)
is_long uri rest code l s h = omega (arith, h.2, ap length (same_payload uri h.0 rest code l s h.1))
