-- One octet of a payload.
use Rattle.std.proofs.Common.{◌≡◌, ◌≢◌, ℕ, zero, suc, ◌<◌, ◌≤◌, ◌↔◌, inl, inr, ◌∙◌, sym, Bool, true, false, List, [], ◌∷◌, ◌++◌, length, take, drop, get_or, ◌+◌, ◌-◌, refl, ap, subst, arith, lt-ltb, le-ltb, append_assoc}
use Rattle.std.proofs.lemmas.Bool.{cases_lt}
use Rattle.std.proofs.lemmas.List.{append-nil, take_all, take_more, length-take-le}
use Rattle.std.specs.Prelude.{nat_lt, if◌then◌else◌}
use Rattle.ndef_format.specs.declared.profile.Profile.{Profile}
use Rattle.ndef_format.specs.declared.reason.Reason.{Reason}
use Rattle.ndef_format.specs.declared.reason.Reason.TheVariants as reasons
use Rattle.ndef_format.specs.Reasons.{IsLowest, OneReason, rank_of}
use Rattle.std.specs.List.{AllByRecursion}
use Rattle.ndef_format.specs.Octets.{Octets}
use Rattle.ndef_format.specs.Records.{AreOctets}
use Rattle.ndef_format.specs.PayloadReasons.{Passes, TextFieldReason, code_octet, utf8_octet, utf16_octet}
use Rattle.ndef_lang.specs.declared.leaf.Class.{Class}
use Rattle.ndef_lang.specs.declared.leaf.Class.TheVariants as classes
use Rattle.ndef_lang.specs.declared.leaf.Stage.{Stage}
use Rattle.ndef_lang.specs.declared.leaf.Stage.TheVariants as stages
use Rattle.ndef_lang.specs.declared.leaf.Leaf.{Leaf}
use Rattle.ndef_lang.specs.declared.leaf.Leaf.TheVariants.{Utf8}
use Rattle.ndef_lang.specs.declared.utf8.Utf8Lang.{Utf8Lang}
use Rattle.ndef_lang.specs.declared.utf8.Utf8Lang.TheVariants.{Whole, OneMore, TwoMore, ThreeMore, AfterE0, AfterEd, AfterF0, AfterF4, Refused}
use Rattle.ndef_lang.specs.declared.utf16.Utf16State.{Utf16State}
use Rattle.ndef_lang.specs.Language.{After, Continues, PassesBetween, Reaches, StepsAll, StepsFront}
use Rattle.ndef_lang.specs.LengthLaws.{some_octets}
use Rattle.ndef_lang.specs.StepLaws.{octets_follow}
use Rattle.ndef_lang.specs.Machine.Utf8.{CompletesUtf8, utf8_reason}
use Rattle.ndef_lang.specs.Machine.Utf8Laws.{are_utf8_lengths}
use Rattle.ndef_lang.specs.Machine.Utf16.{CompletesUtf16, utf16_reason, utf16_refused, utf16_missing}
use Rattle.ndef_lang.specs.Machine.Utf16Laws.{alive_lengths, utf16_never}
use Rattle.ndef_lang.specs.Machine.Leaf.{CompletesLeaf, BeginNothing, StageReason, FieldReason, Holds, MayLead, ReachedBy, text_stage}
use Rattle.ndef_lang.proofs.Reasons.{lowest_broken, lowest_fits}

-- ---- a text

one_reason : (why : Reason) (C D : Type 0) (reason : Reason) → (C → D) → OneReason why C reason → OneReason why D reason
one_reason why C D reason f (inl h) = inl (h.0, f h.1)
one_reason why C D reason f (inr h) = inr h

-- it continues after octets
pub text_goes : (why : Reason) (old new : List ℕ → Type 0) (t : List ℕ) → Continues old new t → (u : List ℕ) (b : ℕ) (reason : Reason)
    → OneReason why (BeginNothing old (t ++ u) b) reason ↔ OneReason why (BeginNothing new u b) reason
text_goes why old new t f u b reason = (
  one_reason why (BeginNothing old (t ++ u) b) (BeginNothing new u b) reason (λ e p. e (p.0, rw append_assoc ((f (u ++ b ∷ p.0)).0 p.1))),
  one_reason why (BeginNothing new u b) (BeginNothing old (t ++ u) b) reason (λ e p. e (p.0, (f (u ++ b ∷ p.0)).1 (rw append_assoc at p.1))),
)

pub text_alive : (why : Reason) (old new : List ℕ → Type 0) (byte : ℕ) → Continues old new (byte ∷ []) → Passes new → IsLowest (OneReason why (BeginNothing old [] byte)) reasons.DoesNotFit
text_alive why old new byte f p = lowest_fits why (BeginNothing old [] byte) (λ e. e (p.0, (f p.0).0 p.1))

pub text_dead : (why : Reason) (old new : List ℕ → Type 0) (byte : ℕ) → rank_of why ≤ 24 → Continues old new (byte ∷ []) → (Passes new → ⊥) → IsLowest (OneReason why (BeginNothing old [] byte)) why
text_dead why old new byte l f none = lowest_broken why (BeginNothing old [] byte) l (λ p. none (p.0, (f p.0).1 p.1))

utf8_passes : (state : Utf8Lang) (n : ℕ) → ((r : List ℕ) × (CompletesUtf8 state r × (length r ≡ n))) → Passes (CompletesUtf8 state)
utf8_passes state n t = (t.0, t.1.0)

pub utf8_lowest : (old : List ℕ → Type 0) (state : Utf8Lang) (b : ℕ) → Continues old (CompletesUtf8 state) (b ∷ []) → IsLowest (OneReason reasons.Utf8 (BeginNothing old [] b)) (utf8_reason state)
utf8_lowest old Whole b f = text_alive reasons.Utf8 old (CompletesUtf8 Whole) b f (utf8_passes Whole 0 ((are_utf8_lengths Whole).each 0 (omega arith)))
utf8_lowest old OneMore b f = text_alive reasons.Utf8 old (CompletesUtf8 OneMore) b f (utf8_passes OneMore 1 ((are_utf8_lengths OneMore).each 1 (omega arith)))
utf8_lowest old TwoMore b f = text_alive reasons.Utf8 old (CompletesUtf8 TwoMore) b f (utf8_passes TwoMore 2 ((are_utf8_lengths TwoMore).each 2 (omega arith)))
utf8_lowest old ThreeMore b f = text_alive reasons.Utf8 old (CompletesUtf8 ThreeMore) b f (utf8_passes ThreeMore 3 ((are_utf8_lengths ThreeMore).each 3 (omega arith)))
utf8_lowest old AfterE0 b f = text_alive reasons.Utf8 old (CompletesUtf8 AfterE0) b f (utf8_passes AfterE0 2 ((are_utf8_lengths AfterE0).each 2 (omega arith)))
utf8_lowest old AfterEd b f = text_alive reasons.Utf8 old (CompletesUtf8 AfterEd) b f (utf8_passes AfterEd 2 ((are_utf8_lengths AfterEd).each 2 (omega arith)))
utf8_lowest old AfterF0 b f = text_alive reasons.Utf8 old (CompletesUtf8 AfterF0) b f (utf8_passes AfterF0 3 ((are_utf8_lengths AfterF0).each 3 (omega arith)))
utf8_lowest old AfterF4 b f = text_alive reasons.Utf8 old (CompletesUtf8 AfterF4) b f (utf8_passes AfterF4 3 ((are_utf8_lengths AfterF4).each 3 (omega arith)))
utf8_lowest old Refused b f = text_dead reasons.Utf8 old (CompletesUtf8 Refused) b (omega arith) f (λ p. p.1)

pub utf16_lowest : (old : List ℕ → Type 0) (state : Utf16State) (b : ℕ) → Continues old (CompletesUtf16 state) (b ∷ []) → IsLowest (OneReason reasons.Utf16 (BeginNothing old [] b)) (utf16_reason state)
utf16_lowest old state b f = by_test (utf16_refused state) refl
  where
    by_test : (refused : Bool) → utf16_refused state ≡ refused → IsLowest (OneReason reasons.Utf16 (BeginNothing old [] b)) (if refused then reasons.Utf16 else reasons.DoesNotFit)
    by_test true d = text_dead reasons.Utf16 old (CompletesUtf16 state) b (omega arith) f (λ p. utf16_never state d p.0 p.1)
    by_test false d = let t = (alive_lengths state d).each (utf16_missing state) (0, omega arith) in text_alive reasons.Utf16 old (CompletesUtf16 state) b f (t.0, t.1.0)

-- ---- a language code

-- the reasons of a language code and of the text after it
pub code_goes : (n : ℕ) (wide : Bool) (u : List ℕ) (b : ℕ) (reason : Reason)
    → TextFieldReason (if nat_lt (length u) n then code_octet else (if wide then utf16_octet (drop n u) else utf8_octet (drop n u))) b reason ↔ FieldReason classes.Code n (text_stage wide) u b reason
code_goes zero true u b reason = rw (le-ltb (length u) 0 (omega arith)) (λ h. h, λ h. h)
code_goes zero false u b reason = rw (le-ltb (length u) 0 (omega arith)) (λ h. h, λ h. h)
code_goes (suc n) wide [] b reason = rw (lt-ltb 0 (suc n) (omega arith)) (λ h. h, λ h. h)
code_goes (suc n) wide (c ∷ u) b reason = rw (one_less n (length u)) (code_goes n wide u b reason)
  where
    one_less : (n k : ℕ) → nat_lt (suc k) (suc n) ≡ nat_lt k n
    one_less n k = elim (cases_lt k n) [
      | inl l ↦ lt-ltb (suc k) (suc n) (omega arith) ∙ sym (lt-ltb k n l)
      | inr l ↦ le-ltb (suc k) (suc n) (omega arith) ∙ sym (le-ltb k n l)
    ]

-- ---- octets without conditions

pub plain_goes : (n : ℕ) (next : Stage) → ((u : List ℕ) (b : ℕ) (reason : Reason) → (reason ≡ reasons.DoesNotFit) ↔ StageReason next u b reason) → (u : List ℕ) (b : ℕ) (reason : Reason)
    → (reason ≡ reasons.DoesNotFit) ↔ FieldReason classes.Any n next u b reason
plain_goes zero next f u b reason = f u b reason
plain_goes (suc n) next f [] b reason = (λ h. h, λ h. h)
plain_goes (suc n) next f (c ∷ u) b reason = plain_goes n next f u b reason

-- any octet but that of a text or of what it has conditions for
pub may_lead : (stage : Stage) (b : ℕ) → stage ≢ stages.End → stage ≢ stages.Utf8 → stage ≢ stages.Utf16 → stage ≢ stages.Status → ((profile : Profile) → stage ≢ stages.UriCode profile) → MayLead stage b
may_lead stages.End b h k l m n = absurd (h refl)
may_lead stages.Utf8 b h k l m n = absurd (k refl)
may_lead stages.Utf16 b h k l m n = absurd (l refl)
may_lead stages.Status b h k l m n = absurd (m refl)
may_lead (stages.UriCode profile) b h k l m n = absurd (n profile refl)
may_lead stages.Any b h k l m n = tt
may_lead stages.ErrorReason b h k l m n = tt
may_lead stages.CarrierKindLength b h k l m n = tt
may_lead stages.ReferenceLength b h k l m n = tt
may_lead stages.AuxiliaryCount b h k l m n = tt
may_lead (stages.References count) b h k l m n = tt

-- ---- the octets so far

pub staged_reached : (old new : Leaf) (t : List ℕ) → Continues (CompletesLeaf old) (CompletesLeaf new) t → ReachedBy new (Holds old) t
    → (holds : List ℕ → ℕ → Reason → Type 0) → Reaches (ReachedBy old holds) (ReachedBy new holds) t
staged_reached old new t f g holds s h p u c reason =
    let k = h (t ++ p.0, (f p.0).0 p.1) (t ++ u) c reason in
    let w = g p u c reason in
    rw append_assoc (λ x. w.0 (k.0 x), λ x. k.1 (w.1 x))

same_lowest : (holds other : Reason → Type 0) (refusal_reason : Reason) → ((reason : Reason) → holds reason ↔ other reason) → IsLowest other refusal_reason → IsLowest holds refusal_reason
same_lowest holds other refusal_reason f l = record { it = (f refusal_reason).1 l.it; first = λ reason h. l.first reason ((f reason).0 h) }

-- the reason of an octet after octets of the payload and octets of the state
pub staged_reason_at : (state : Leaf) (holds : List ℕ → ℕ → Reason → Type 0) (s t : List ℕ) (b : ℕ) (refusal_reason : Reason)
    → ReachedBy state holds s → Passes (CompletesLeaf state) → IsLowest (Holds state t b) refusal_reason → IsLowest (holds (s ++ t) b) refusal_reason
staged_reason_at state holds s t b refusal_reason h p l = same_lowest (holds (s ++ t) b) (Holds state t b) refusal_reason (h p t b) l

pub staged_reason : (state : Leaf) (b : ℕ) (refusal_reason : Reason) → (Passes (CompletesLeaf state) → IsLowest (Holds state [] b) refusal_reason) → (holds : List ℕ → ℕ → Reason → Type 0) (s : List ℕ) → ReachedBy state holds s
    → Passes (CompletesLeaf state) → IsLowest (holds s b) refusal_reason
staged_reason state b refusal_reason f holds s h p = let l = staged_reason_at state holds s [] b refusal_reason h p (f p) in rw append-nil at l

-- the reason of the octet after those that were stepped
pub taken_reason : (old new : Leaf) (bytes : List ℕ) (lo hi count : ℕ) (b : ℕ) (refusal_reason : Reason) → StepsAll (CompletesLeaf old) (CompletesLeaf new) bytes lo hi count → IsLowest (Holds old (take count bytes) b) refusal_reason
    → (holds : List ℕ → ℕ → Reason → Type 0) (s : List ℕ) → ReachedBy old holds s → IsLowest (holds (s ++ take count bytes) b) refusal_reason
taken_reason old new bytes lo hi count b refusal_reason t l holds s h = let p = t.fits in staged_reason_at old holds s (take count bytes) b refusal_reason h (take count bytes ++ p.rest, p.passed) l

-- the reason of the octet of a UTF-8 text after those that were stepped
pub utf8_staged_reason : (old new : Utf8Lang) (bytes : List ℕ) (lo hi count : ℕ) → StepsAll (CompletesUtf8 old) (CompletesUtf8 new) bytes lo hi count → count < length bytes → (holds : List ℕ → ℕ → Reason → Type 0) (s : List ℕ)
    → ReachedBy (Utf8 old) holds s → IsLowest (holds (s ++ take count bytes) (get_or bytes count 0)) (utf8_reason new)
utf8_staged_reason old new bytes lo hi count t l holds s h =
    let b = get_or bytes count 0 in
    let front = take count bytes in
    let p = t.fits in
    same_lowest (holds (s ++ front) b) (OneReason reasons.Utf8 (BeginNothing (CompletesUtf8 old) front b)) (utf8_reason new) (h (front ++ p.rest, p.passed) front b)
    (utf8_lowest (After (CompletesUtf8 old) front) new b (λ r. at_next r (t.stepped r)))
  where
    at_next : (r : List ℕ) → (CompletesUtf8 new r ↔ CompletesUtf8 old (take (count + 1) bytes ++ r)) → CompletesUtf8 new r ↔ CompletesUtf8 old (take count bytes ++ get_or bytes count 0 ∷ r)
    at_next r f = subst (λ x. CompletesUtf8 new r ↔ CompletesUtf8 old x) (ap (λ x. x ++ r) (take_more bytes count 0 l) ∙ append_assoc (take count bytes) (get_or bytes count 0 ∷ []) r) f

-- what was stepped of a payload is stepped of the state, from the first octet on
pub reached_first : (state : Leaf) → ReachedBy state (Holds state) []
reached_first state p u b reason = (λ h. h, λ h. h)

-- ---- octets that nothing can refuse

-- any octets to the end
pub any_front : (bytes : List ℕ) → AreOctets bytes → StepsFront AreOctets AreOctets bytes (length bytes)
any_front bytes a = record {
  within = omega arith;
  stepped = subst (Continues AreOctets AreOctets) (sym (take_all (length bytes) bytes (omega arith))) (octets_follow bytes a);
  fits = λ lo hi few p. (let least = p.least in let most = p.most in let t = some_octets (hi - length bytes) in record { rest = t.0; passed = t.1.0; least = omega (arith, t.1.1); most = omega (arith, t.1.1) });
}

-- octets of a field
pub field_front : (passes : ℕ → Type 0) (t : List ℕ) (left : ℕ) (next : List ℕ → Type 0) → AllByRecursion passes t → Continues (Octets passes (length t + left) next) (Octets passes left next) t
field_front passes [] left next a r = let e : 0 + left ≡ left = omega arith in rw e (λ h. h, λ h. h)
field_front passes (b ∷ t) left next a r =
    let e : suc (length t) + left ≡ suc (length t + left) = omega arith in
    let f = field_front passes t left next a.1 r in
    rw e (λ h. (a.0, f.0 h), λ h. f.1 h.1)

pub field_goes : (class : Class) (t : List ℕ) (left : ℕ) (next : Stage) (u : List ℕ) (b : ℕ) (reason : Reason) → FieldReason class (length t + left) next (t ++ u) b reason ↔ FieldReason class left next u b reason
field_goes class [] left next u b reason = let e : 0 + left ≡ left = omega arith in rw e (λ h. h, λ h. h)
field_goes class (c ∷ t) left next u b reason = let e : suc (length t) + left ≡ suc (length t + left) = omega arith in rw e (field_goes class t left next u b reason)

field_past : (passes : ℕ → Type 0) (n m left : ℕ) (next : List ℕ → Type 0) (r : List ℕ) → m ≡ n + left → Octets passes m next r → (rest : List ℕ) × (Octets passes left next rest × (length r ≡ n + length rest))
field_past passes zero m left next r e h = (r, (subst (λ k. Octets passes k next r) (let q : m ≡ left = omega arith in q) h, omega arith))
field_past passes (suc n) zero left next r e h = absurd (omega arith)
field_past passes (suc n) (suc m) left next [] e h = absurd h
field_past passes (suc n) (suc m) left next (b ∷ r) e h = let t = field_past passes n m left next r (omega arith) h.1 in (t.0, (t.1.0, omega (arith, t.1.1)))

pub field_steps : (passes : ℕ → Type 0) (bytes : List ℕ) (n left : ℕ) (next : List ℕ → Type 0) → AllByRecursion passes (take n bytes) → n ≤ length bytes → n ≤ left → StepsFront (Octets passes left next) (Octets passes (left - n) next) bytes n
field_steps passes bytes n left next a l m = record { within = l; stepped = stepped; fits = fits }
  where
    stepped : Continues (Octets passes left next) (Octets passes (left - n) next) (take n bytes)
    stepped = subst (λ k. Continues (Octets passes k next) (Octets passes (left - n) next) (take n bytes)) (let e : length (take n bytes) + (left - n) ≡ left = omega (arith, length-take-le n bytes l) in e) (field_front passes (take n bytes) (left - n) next a)

    fits : (lo hi : ℕ) → n ≤ lo → PassesBetween (Octets passes left next) lo hi → PassesBetween (Octets passes (left - n) next) (lo - n) (hi - n)
    fits lo hi few p =
        let least = p.least in
        let most = p.most in
        let t = field_past passes n left (left - n) next p.rest (omega arith) p.passed in
        record { rest = t.0; passed = t.1.0; least = omega (arith, t.1.1); most = omega (arith, t.1.1) }

pub field_goes_on : (class : Class) (bytes : List ℕ) (n left : ℕ) (next : Stage) → n ≤ length bytes → n ≤ left → (u : List ℕ) (b : ℕ) (reason : Reason)
    → FieldReason class left next (take n bytes ++ u) b reason ↔ FieldReason class (left - n) next u b reason
field_goes_on class bytes n left next l m u b reason =
    let e : length (take n bytes) + (left - n) ≡ left = omega (arith, length-take-le n bytes l) in
    subst (λ k. FieldReason class k next (take n bytes ++ u) b reason ↔ FieldReason class (left - n) next u b reason) e (field_goes class (take n bytes) (left - n) next u b reason)
