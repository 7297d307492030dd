-- A whole head at the front of some octets of a nested message.
use Rattle.std.proofs.Common.{◌≡◌, ◌≢◌, ℕ, ◌-◌, ◌<◌, ◌≤◌, ◌↔◌, inl, inr, Bool, true, false, List, [], ◌∷◌, ◌++◌, length, take, refl, sym, ◌∙◌, ap, subst, arith}
use Rattle.std.specs.Prelude.{◌==◌, ◌||◌, if◌then◌else◌, nat_lt, unwrap_or}
use Rattle.std.proofs.lemmas.Bool.{eq-eqb}
use Rattle.std.proofs.lemmas.Bool.Decides.{eqb_tells, nat_tests}
use Rattle.std.proofs.lemmas.List.{length-take-le}
use Rattle.ndef_format.specs.Records.{AreOctets}
use Rattle.ndef_format.specs.declared.profile.Profile.{Profile}
use Rattle.ndef_piece.specs.declared.head.Head.{Head}
use Rattle.ndef_piece.specs.Heads.{HeadsAreUnambiguous, IsWholeHead}
use Rattle.ndef_piece.specs.Whole.{BeginWithHead}
use Rattle.ndef_lang.specs.Language.{Continues, PassesBetween, Reaches, StepsAll}
use Rattle.ndef_lang.specs.StepLaws.{steps_whole}
use Rattle.ndef_format.specs.Nested.{IsPayload, kind_in}
use Rattle.ndef_format.specs.Kinds.{kind_of}
use Rattle.ndef_format.specs.declared.kind.Kind.{Kind}
use Rattle.ndef_format.specs.declared.kind.Kind.TheVariants.{Other}
use Rattle.ndef_lang.specs.Machine.Kind.{kind_after, missing_of}
use Rattle.ndef_nest.specs.declared.context.Context.{Context}
use Rattle.ndef_nest.specs.declared.demand.Demand.{Demand}
use Rattle.ndef_nest.specs.declared.phase.Name.{Name}
use Rattle.ndef_nest.specs.declared.phase.NestPhase.{NestPhase}
use Rattle.ndef_nest.specs.declared.phase.NestPhase.TheVariants as phases
use Rattle.ndef_nest.specs.Machine.Demands.{Allows, IsBody, IsTypeField, Later, RecordsToCome, Tail, demand_after, nested_spot}
use Rattle.ndef_nest.specs.Machine.Phases.{Completes, CompletesHeaded, CompletesNamed, IsBetween, fewer, is_first_octet, is_sound}
use Rattle.ndef_nest.specs.Machine.Reached.{HasCome, IsHeaded, IsInHead, IsInName, IsNamed}
use Rattle.ndef_nest.specs.Machine.SpanLaws.{some_records}
use Rattle.ndef_nest.specs.Machine.BodyLaws.{typed_end, typed_step}
use Rattle.ndef_nest.proofs.Reaching.{head_first, past_more, whole_head}
use Rattle.ndef_nest.proofs.Steps.{chain, head_whole}

-- where a record may begin, what completes the message with some octets is records
between_completes : (c : Context) (first : Bool) (xs : List ℕ) (phase : NestPhase) (t r : List ℕ) → IsBetween phase xs → 0 < length t
    → RecordsToCome c.profile c.table c.records (is_first_octet phase first) c.demand (t ++ r) ↔ Completes c first xs phase (t ++ r)
between_completes c first xs phases.Start [] r h some = absurd (omega arith)
between_completes c first xs phases.Start (b ∷ t) r h some = (λ x. inr x, λ z. (elim z [ inl x ↦ absurd (let e = x.1 in cc) | inr x ↦ x ]))
between_completes c first xs phases.Head t r h some = rw h (λ x. x, λ x. x)
between_completes c first xs _ t r h some = absurd h

-- where a record may begin, what has come of the message is whole records
between_come : (c : Context) (first : Bool) (xs : List ℕ) (phase : NestPhase) (records : ℕ) (m : List ℕ) → IsBetween phase xs → HasCome c first xs phase records m → IsInHead c (is_first_octet phase first) [] records m
between_come c first xs phases.Start records m h x = head_first c records m x.0 x.1
between_come c first xs phases.Head records m h x = rw h at x
between_come c first xs _ records m h x = absurd h

-- where a record may begin, one may come
pub between_some : (c : Context) (first : Bool) (xs : List ℕ) (phase : NestPhase) → IsBetween phase xs → is_sound c first xs phase ≡ true → 0 < c.records
between_some c first xs phases.Start h s = some_records c.records s
between_some c first xs phases.Head h s = some_records c.records s
between_some c first xs _ h s = absurd h

-- where a record may begin, the version octet has come
pub not_version : (phase : NestPhase) (xs : List ℕ) → IsBetween phase xs → phase ≢ phases.Version
not_version phases.Version xs h e = h
not_version _ xs h e = cc

-- after a head that isn't the last, another record may begin
pub head_followed : (profile : Profile) (first : Bool) (records : ℕ) (xs : List ℕ) (h : Head) → 0 < records → IsWholeHead (nested_spot profile first records) xs h → h.last || nat_lt 0 (records - 1) ≡ true
head_followed profile first records xs h some at = by_last h.last refl
  where
    one_piece : (chunked : Bool) → at.fields.chunked ≡ chunked → at.fields.chunked ≡ false
    one_piece true e = absurd (let x = (at.stands.chunked e).1 in cc)
    one_piece false e = e

    by_last : (last : Bool) → h.last ≡ last → h.last || nat_lt 0 (records - 1) ≡ true
    by_last true e = rw e refl
    by_last false e =
        let n : (records == 1) ≡ false = at.stands.followed (one_piece at.fields.chunked refl) (ap (λ g. g.last) at.read ∙ e) in
        let l : nat_lt 0 (records - 1) ≡ true = grind (arith, nat_tests, eqb_tells) in
        rw (e, l) refl

-- what completes the message after a whole head is what continues it
pub head_completes : (apart : HeadsAreUnambiguous) (c : Context) (first : Bool) (xs : List ℕ) (phase : NestPhase) (bytes : List ℕ) (h : Head) (count : ℕ) → IsBetween phase xs → 0 < c.records
    → BeginWithHead (nested_spot c.profile (is_first_octet phase first) c.records) bytes h count → Continues (Completes c first xs phase) (CompletesHeaded (fewer c) h) (take count bytes)
head_completes apart c first xs phase bytes h count between some at r =
    let t = take count bytes in
    chain (head_whole apart c.profile c.table c.records (is_first_octet phase first) c.demand [] t r h some at.whole)
    (between_completes c first xs phase t r between (omega (arith, at.some, length-take-le count bytes at.within)))

-- what has come of the message with a whole head
pub head_comes : (c : Context) (first : Bool) (xs : List ℕ) (phase : NestPhase) (bytes : List ℕ) (h : Head) (count records : ℕ) → IsBetween phase xs → 0 < c.records
    → BeginWithHead (nested_spot c.profile (is_first_octet phase first) c.records) bytes h count → Reaches (HasCome c first xs phase records) (IsHeaded (fewer c) h records) (take count bytes)
head_comes c first xs phase bytes h count records between some at m x =
    whole_head c (fewer c) (is_first_octet phase first) [] records m (nested_spot c.profile (is_first_octet phase first) c.records) (take count bytes) h some refl refl at.whole (between_come c first xs phase records m between x)

-- a whole type
pub typed_whole : (profile : Profile) (more : Demand → List ℕ → Type 0) (last : Bool) (demand : Demand) (of : List ℕ → Kind) (id payload : ℕ) (t r : List ℕ) → AreOctets t
    → (Allows demand (of t) × IsBody (IsPayload (of t) profile) id payload (Tail more last (demand_after demand (of t))) r) ↔ IsTypeField profile of more last demand (length t) id payload (t ++ r)
typed_whole profile more last demand of id payload [] r are = let w = typed_end profile more last demand of id payload r in (w.1, w.0)
typed_whole profile more last demand of id payload (b ∷ t) r are =
    chain (typed_whole profile more last demand (λ z. of (b ∷ z)) id payload t r are.1) (typed_step profile more last demand of (length t) id payload b (t ++ r) are.0)

module _ (c : Context) (h : Head) (n : Name) (kind : Kind) (t : List ℕ) (are : AreOctets t) (whole : length t ≡ h.kind_length) (is : kind_in c.table h.tnf t ≡ kind) (last : n.last ≡ h.last) (id : n.id ≡ unwrap_or h.id_length 0) (payload : n.payload ≡ h.payload_length) where
  -- what completes the message after a head and its type
  pub type_completes : Continues (CompletesHeaded c h) (CompletesNamed c kind n) t
  type_completes r =
      rw (sym is, last, id, payload, sym whole) (typed_whole c.profile (Later c.profile c.table c.records) h.last c.demand (kind_in c.table h.tnf) (unwrap_or h.id_length 0) h.payload_length t r are)

  -- what has come of it with them
  pub type_comes : (records : ℕ) → Reaches (IsHeaded c h records) (IsNamed c kind n records) t
  type_comes records m x = record {
    done = x.done;
    fields = x.fields;
    name = t;
    past = past_more c c.demand records x.done x.fields [] t m t refl x.past;
    are_octets = are;
    name_is = whole ∙ sym (ap (λ g. g.kind_length) x.read);
    last_is = ap (λ g. g.last) x.read ∙ sym last;
    id_is = ap (λ g. unwrap_or g.id_length 0) x.read ∙ sym id;
    payload_is = ap (λ g. g.payload_length) x.read ∙ sym payload;
    kind_is = ap (λ g. kind_in c.table g.tnf t) x.read ∙ is;
  }

-- before the first octet of its type
pub name_comes : (c : Context) (h : Head) (n : Name) → n.last ≡ h.last → n.id ≡ unwrap_or h.id_length 0 → n.payload ≡ h.payload_length → missing_of n.names ≡ h.kind_length
    → ((more : List ℕ) → kind_after n.names more ≡ (if length more == h.kind_length then kind_of h.tnf more else Other))
    → (records : ℕ) (m : List ℕ) → IsHeaded c h records m → IsInName c n records m
name_comes c h n last id payload missing kind records m x = record {
  done = x.done;
  fields = x.fields;
  name = [];
  past = x.past;
  are_octets = tt;
  left_is = omega (arith, missing, ap (λ g. g.kind_length) x.read);
  last_is = ap (λ g. g.last) x.read ∙ sym last;
  id_is = ap (λ g. unwrap_or g.id_length 0) x.read ∙ sym id;
  payload_is = ap (λ g. g.payload_length) x.read ∙ sym payload;
  kind_is = λ more l. kind more ∙ rw (eq-eqb (length more) h.kind_length (l ∙ missing)) (ap (λ g. kind_of g.tnf more) (sym x.read));
}

-- octets that are taken at once, where some list passes after them
pub front_taken : (old new : List ℕ → Type 0) (bytes : List ℕ) (lo hi count : ℕ) → count ≤ length bytes → Continues old new (take count bytes) → PassesBetween new (lo - count) (hi - count) → StepsAll old new (take count bytes) lo hi count
front_taken old new bytes lo hi count within f p =
    let t = take count bytes in
    let e : length t ≡ count = length-take-le count bytes within in
    subst (λ k. StepsAll old new t lo hi k) e (steps_whole old new t lo hi f (subst (λ k. PassesBetween new (lo - k) (hi - k)) (sym e) p))
