-- Octets of PAYLOAD that are taken at once.
use Rattle.std.proofs.Common.{◌≡◌, ℕ, ◌+◌, ◌-◌, ◌<◌, ◌≤◌, Bool, true, false, inl, inr, refl, sym, ◌∙◌, ap, subst, arith, List, [], ◌∷◌, ◌++◌, length, take, get_or, append_assoc, length-append, Option, Some, None}
use Rattle.std.specs.List.{AllByRecursion}
use Rattle.std.proofs.lemmas.List.{take_more, length-take-le}
use Rattle.ndef_format.specs.declared.tnf.Tnf.{Tnf}
use Rattle.ndef_value.specs.ListLaws.{octets_append, octets_taken}
use Rattle.ndef_lang.specs.RecordLanguage.{AreOfOctets, TakesOthers}
use Rattle.ndef_format.specs.Messages.{Item}
use Rattle.ndef_format.specs.Records.{HeadFields, AreOctets}
use Rattle.ndef_format.specs.Limits.{LimitValues, AreInRange}
use Rattle.ndef_format.specs.declared.profile.Profile.{Profile}
use Rattle.ndef_format.specs.declared.reason.Reason.{Reason}
use Rattle.ndef_lang.specs.Language.{Continues, Reaches, PassesBetween, After, StepsAll}
use Rattle.ndef_format.specs.Reasons.{IsLowest}
use Rattle.ndef_lang.specs.StepLaws.{steps_done}
use Rattle.ndef_lang.specs.declared.record_language.RecordLanguage.{Ghosts}
use Rattle.ndef_piece.specs.declared.head.Head.{Head}
use Rattle.ndef_piece.specs.Walk.{Before}
use Rattle.ndef_format.specs.Accepted.{IsMember, IsViable}
use Rattle.ndef_format.specs.Positions.{record_so_far}
use Rattle.ndef_message.specs.Machine.Points.{Point, InPayload, IsAtPoint}
use Rattle.ndef_message.specs.Machine.Moves.{given_next, point_next}
use Rattle.ndef_message.specs.Machine.Format.{FormatLaws}
use Rattle.ndef_message.specs.Machine.Payload.{most_left}
use Rattle.ndef_message.specs.Machine.State.{Speaks, IsConsistentAt, Stopped, InBody, Onward}
use Rattle.ndef_message.specs.declared.phase.Phase.TheVariants as phases
use Rattle.ndef_message.specs.declared.state.State.{State}
use Rattle.ndef_message.proofs.Entered.{given_members, body_counted, body_goes_on, body_went_on, stopped}
use Rattle.ndef_message.proofs.Octets.{AtPayload, at_with, payload_body, payload_on, moves_payload}

-- what a language has read, with these octets more
speaks_all : {L : Type 0} (language : Ghosts L) (limits : LimitValues) (old new : L) (m : Item) (t : List ℕ)
    → ((tnf : Tnf) (name : List ℕ) (n : ℕ) (profile : Profile) → Reaches (language.reached old tnf name n profile) (language.reached new tnf name n profile) t) → Continues (language.future old) (language.future new) t
    → Speaks language limits old m → Speaks language limits new (record m { payload = m.payload ++ t })
speaks_all language limits old new m t r f s = record {
  reached = r _ _ _ _ m.payload s.reached;
  future = λ z. (
    λ x. subst (λ y. language.payloads m.tnf m.kind limits.records limits.profile y) (sym (append_assoc m.payload t z)) ((s.future (t ++ z)).0 ((f z).0 x)),
    λ x. (f z).1 ((s.future (t ++ z)).1 (subst (λ y. language.payloads m.tnf m.kind limits.records limits.profile y) (append_assoc m.payload t z) x)),
  );
}

so_far_all : (m : Option Item) (f : HeadFields) (k i z t : List ℕ)
    → record (record_so_far m f k i z) { payload = (record_so_far m f k i z).payload ++ t } ≡ record_so_far m f k i (z ++ t)
so_far_all None f k i z t = refl
so_far_all (Some m) f k i z t = ap (λ y. record m { payload = y }) (append_assoc m.payload z t)

-- ---- after octets that no state of the language stands for

-- the language, each state of which stands after these octets
abbrev following : {L : Type 0} → Ghosts L → List ℕ → Ghosts L
following language t =
    record language { future = λ state. After (language.future state) t; reached = λ state tnf name n profile s. (before : List ℕ) × ((s ≡ before ++ t) × language.reached state tnf name n profile before) }

speaks_after : {L : Type 0} (language : Ghosts L) (limits : LimitValues) (state : L) (m : Item) (t : List ℕ) → Speaks language limits state m → Speaks (following language t) limits state (record m { payload = m.payload ++ t })
speaks_after language limits state m t s = record {
  reached = (m.payload, (refl, s.reached));
  future = λ z. (
    λ x. subst (λ y. language.payloads m.tnf m.kind limits.records limits.profile y) (sym (append_assoc m.payload t z)) ((s.future (t ++ z)).0 x),
    λ x. (s.future (t ++ z)).1 (subst (λ y. language.payloads m.tnf m.kind limits.records limits.profile y) (append_assoc m.payload t z) x),
  );
}

most_after : (v : Bool) (room n left k : ℕ) → k ≤ left → most_left v room n left - k ≡ most_left v room n (left - k)
most_after true room n left k h = omega arith
most_after false room n left k h = refl

between_at : {pass : List ℕ → Type 0} (a b c d : ℕ) → a ≡ c → b ≡ d → PassesBetween pass a b → PassesBetween pass c d
between_at {pass} a b c d e g p = subst (λ x. PassesBetween pass c x) g (subst (λ x. PassesBetween pass x b) e p)

module _ {L : Type 0} {language : Ghosts L} {limits : LimitValues} {state : State L}
    {bytes : List ℕ} {given : List Item} {h : Head} {left : ℕ} {point : Point} (a : AtPayload language limits state bytes given h left point) where
  -- the payload so far, with these octets more, by what has read them
  body_by : (other : Ghosts L) (read : L) (t : List ℕ) → AreOctets t → length t ≤ left → Speaks other limits read (record (record_so_far a.c.begun a.f a.kind a.id a.payload) { payload = (record_so_far a.c.begun a.f a.kind a.id a.payload).payload ++ t })
      → InBody other limits (record state { payload = read }) h 0 (left - length t) (bytes ++ t) given a.c a.f a.kind a.id (a.payload ++ t)
  body_by other read t are few s =
      let w = subst (IsAtPoint limits bytes given) a.point_is a.stands.at in
      let p = w.proper in
      let e = p.2 in
      let n = p.3 in
      let l = a.left_is in
      record {
        pieces = w.pieces;
        done = w.done;
        walked = w.walked;
        spelled = w.spelled;
        split = payload_on a.f w.done a.kind a.id a.payload t bytes w.split;
        part = record {
          goes_on = p.0.goes_on;
          stands = p.0.stands;
          kind_octets = p.0.kind_octets;
          id_octets = p.0.id_octets;
          payload_octets = octets_append a.payload t p.0.payload_octets are;
        };
        head_is = a.head_is;
        kind_whole = p.1;
        id_left_is = omega arith;
        id_fits = omega arith;
        left_is = omega (arith, length-append a.payload t);
        payload_fits = omega (arith, length-append a.payload t);
        in_turn = inl p.2;
        place_is = a.place_is;
        speaks = subst (Speaks other limits read) (so_far_all a.c.begun a.f a.kind a.id a.payload t) s;
      }

  -- .. by a state that has
  pub body_all : (payload' : L) (t : List ℕ) → AreOctets t → length t ≤ left
      → ((tnf : Tnf) (name : List ℕ) (n : ℕ) (profile : Profile) → Reaches (language.reached state.payload tnf name n profile) (language.reached payload' tnf name n profile) t) → Continues (language.future state.payload) (language.future payload') t
      → InBody language limits (record state { payload = payload' }) h 0 (left - length t) (bytes ++ t) given a.c a.f a.kind a.id (a.payload ++ t)
  body_all payload' t are few r f = body_by language payload' t are few (speaks_all language limits state.payload payload' (record_so_far a.c.begun a.f a.kind a.id a.payload) t r f a.speaks)

  -- .. by the one that stands before them
  body_after : (t : List ℕ) → AreOctets t → length t ≤ left → InBody (following language t) limits state h 0 (left - length t) (bytes ++ t) given a.c a.f a.kind a.id (a.payload ++ t)
  body_after t are few = body_by (following language t) state.payload t are few (speaks_after language limits state.payload (record_so_far a.c.begun a.f a.kind a.id a.payload) t a.speaks)

  -- .. and fewer than are left, they stand in its payload
  pub at_front : (t : List ℕ) → AreOctets t → length t < left → IsAtPoint limits (bytes ++ t) given (InPayload a.c a.f a.kind a.id (a.payload ++ t))
  at_front t are few =
      let l = a.left_is in
      at_with limits bytes given (InPayload a.c a.f a.kind a.id a.payload) t are (omega arith) (subst (IsAtPoint limits bytes given) a.point_is a.stands.at)

module _ (laws : FormatLaws) {L : Type 0} {language : Ghosts L} {limits : LimitValues} (range : AreInRange limits)
    (octets_of : AreOfOctets language.payloads)
    (others : TakesOthers language.payloads)
    {state : State L} {bytes : List ℕ} {given : List Item} {h : Head} {left : ℕ} {point : Point}
    (a : AtPayload language limits state bytes given h left point)
    (payload' : L) (t : List ℕ) (are : AreOctets t) (few : length t ≤ left) {most count : ℕ} (most_is : most ≡ most_left h.chunked state.place.room h.payload_length left)
    (steps : StepsAll (language.future state.payload) (language.future payload') t left most count)
  where
    members : AllByRecursion (IsMember language.payloads limits) given
    members = given_members laws language.payloads limits range bytes given point a.stands.at a.stands.viable

    -- the last of them doesn't end what was viable
    pub all_viable : (r : (tnf : Tnf) (name : List ℕ) (n : ℕ) (profile : Profile) → Reaches (language.reached state.payload tnf name n profile) (language.reached payload' tnf name n profile) t) → count ≡ length t → IsViable language.payloads limits (bytes ++ t)
    all_viable r e =
        let d = steps_done steps e in
        body_goes_on laws range (body_all a payload' t are few r d.0) octets_of others members
        (between_at (left - length t) (most - length t) (left - length t) (most_left h.chunked state.place.room h.payload_length (left - length t)) refl
        (ap (λ n. n - length t) most_is ∙ most_after h.chunked state.place.room h.payload_length left (length t) few) d.1)

    -- the octets before the refused one
    front_viable : (s : List ℕ) → AreOctets s → length s ≡ count → count ≤ left → PassesBetween (After (language.future state.payload) s) (left - count) (most - count) → IsViable language.payloads limits (bytes ++ s)
    front_viable s ok e l p =
        body_goes_on laws range (body_after a s ok (omega arith)) octets_of others members
        (between_at (left - count) (most - count) (left - length s) (most_left h.chunked state.place.room h.payload_length (left - length s)) (omega arith)
        (ap (λ n. n - count) most_is ∙ most_after h.chunked state.place.room h.payload_length left count l ∙ ap (λ n. most_left h.chunked state.place.room h.payload_length (left - n)) (sym e)) p)

    -- .. and it
    never_viable : (s : List ℕ) → AreOctets s → length s ≡ count + 1 → count + 1 ≤ left → ((tnf : Tnf) (name : List ℕ) (n : ℕ) (profile : Profile) → Reaches (language.reached state.payload tnf name n profile) (language.reached payload' tnf name n profile) s) → Continues (language.future state.payload) (language.future payload') s
        → (PassesBetween (language.future payload') (left - (count + 1)) (most - (count + 1)) → ⊥) → IsViable language.payloads limits (bytes ++ s) → ⊥
    never_viable s ok e l r f bad v =
        bad (between_at (left - length s) (most_left h.chunked state.place.room h.payload_length (left - length s)) (left - (count + 1)) (most - (count + 1)) (ap (λ n. left - n) e)
        (ap (λ n. most_left h.chunked state.place.room h.payload_length (left - n)) e ∙ sym (ap (λ n. n - (count + 1)) most_is ∙ most_after h.chunked state.place.room h.payload_length left (count + 1) l))
        (body_went_on laws range (body_all a payload' s ok (omega arith) r f) octets_of others members v))

    -- one of them is refused
    pub all_stopped : ((tnf : Tnf) (name : List ℕ) (n : ℕ) (profile : Profile) → Reaches (language.reached state.payload tnf name n profile) (language.reached payload' tnf name n profile) (take (count + 1) t)) → count < length t → {at : ℕ} {reason : Reason} → at ≡ length bytes
        → ((tnf : Tnf) (name : List ℕ) (n : ℕ) (profile : Profile) (s : List ℕ) → language.reached state.payload tnf name n profile s → IsLowest (language.reasons tnf name n profile (s ++ take count t) (get_or t count 0)) reason)
        → Onward language limits (record state { payload = payload'; phase = phases.Refused (record { at = at + count; reason = reason }) }) bytes given point (take (count + 1) t)
    all_stopped r l {at} {reason} at_is why =
        subst (λ x. Onward language limits (record state { payload = payload'; phase = phases.Refused (record { at = at + count; reason = reason }) }) bytes given x (take (count + 1) t)) (sym a.point_is)
        (inr (take count t, get_or t count 0, more, subst (λ x. Stopped language limits (record state { payload = payload'; phase = phases.Refused (record { at = at + count; reason = reason }) }) x given (InPayload a.c a.f a.kind a.id (a.payload ++ take count t))) split stop))
      where
        more : take (count + 1) t ≡ take count t ++ get_or t count 0 ∷ []
        more = take_more t count 0 l

        split : (bytes ++ take count t) ++ get_or t count 0 ∷ [] ≡ bytes ++ take (count + 1) t
        split = append_assoc bytes (take count t) (get_or t count 0 ∷ []) ∙ ap (λ x. bytes ++ x) (sym more)

        few_front : length (take count t) ≡ count
        few_front = length-take-le count t (omega arith)

        front_octets : AreOctets (take count t)
        front_octets = octets_taken count t are

        so_far : Item
        so_far = record_so_far a.c.begun a.f a.kind a.id a.payload

        stop : Stopped language limits (record state { payload = payload'; phase = phases.Refused (record { at = at + count; reason = reason }) }) ((bytes ++ take count t) ++ get_or t count 0 ∷ []) given (InPayload a.c a.f a.kind a.id (a.payload ++ take count t))
        stop =
            let fits = steps.fits in
            stopped (record state { payload = payload' }) (body_counted laws range (payload_body a))
            (λ v. never_viable (take (count + 1) t) (octets_taken (count + 1) t are) (length-take-le (count + 1) t (omega arith)) (omega arith) r steps.stepped (steps.refused l) (subst (IsViable language.payloads limits) split v))
            record {
              at_is = at_front a (take count t) front_octets (omega (arith, few_front));
              viable = front_viable (take count t) front_octets few_front (omega arith) fits;
              place_is = omega (arith, at_is, few_front, length-append bytes (take count t));
              reason_is = subst (λ m. IsLowest (language.reasons m.tnf m.kind limits.records limits.profile m.payload (get_or t count 0)) reason) (so_far_all a.c.begun a.f a.kind a.id a.payload (take count t))
                  (why so_far.tnf so_far.kind limits.records limits.profile so_far.payload a.speaks.reached);
            }

-- all of them were taken
pub all_taken : {L : Type 0} {language : Ghosts L} {limits : LimitValues} {state : State L}
    (bytes : List ℕ) (given : List Item) (point : Point) (c : Before) (f : HeadFields) (k i z t s : List ℕ) → point ≡ InPayload c f k i z → s ≡ t → length z + length t ≤ f.payload_length
    → IsConsistentAt language limits state (bytes ++ t) (given_next limits given c f k i (z ++ t)) (point_next limits c f k i (z ++ t)) → Onward language limits state bytes given point s
all_taken {language = language} {limits} {state} bytes given point c f k i z t s e g few x =
    subst (Onward language limits state bytes given point) (sym g)
    (inl (given_next limits given c f k i (z ++ t), point_next limits c f k i (z ++ t), moves_payload limits given point t c f k i z e few, x))
