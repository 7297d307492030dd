-- A whole record of a nested message after its head, and as much of it as fits.
use Rattle.std.proofs.Common.{◌≡◌, IsTrue, Bool, ℕ, ◌+◌, ◌-◌, ◌<◌, ◌≤◌, List, [], false, ◌^◌, ◌++◌, length, take, drop, refl, sym, ◌∙◌, ap, subst, arith, append_assoc}
use Rattle.std.specs.Prelude.{unwrap_or}
use Rattle.std.proofs.lemmas.Bool.Decides.{nat_tests}
use Rattle.std.proofs.lemmas.List.{length-drop, length-take-le, take-append-drop}
use Rattle.ndef_value.specs.ListLaws.{octets_back, octets_taken}
use Rattle.ndef_format.specs.Records.{AreOctets}
use Rattle.ndef_format.specs.Nested.{IsPayload, kind_in}
use Rattle.ndef_format.specs.declared.reason.Reason.TheVariants.{DoesNotFit}
use Rattle.ndef_piece.specs.declared.head.Head.{Head}
use Rattle.ndef_lang.specs.Language.{Continues, PassesBetween, StepsAll}
use Rattle.ndef_lang.specs.StepLaws.{follows_more, take_parts}
use Rattle.ndef_lang.specs.declared.leaf.Leaf.TheVariants.{Refused}
use Rattle.ndef_nest.specs.declared.context.Context.{Context}
use Rattle.ndef_nest.specs.declared.phase.Body.{Body}
use Rattle.ndef_nest.specs.declared.phase.NestPhase.{NestPhase}
use Rattle.ndef_nest.specs.declared.phase.NestPhase.TheVariants as phases
use Rattle.ndef_nest.specs.Machine.Demands.{Allows, IsBody, Later, Tail, demand_after}
use Rattle.ndef_nest.specs.Machine.Phases.{Completes, CompletesAfter, CompletesHeaded, IsSoundAfter, Suits, asking, meets_span, span_of}
use Rattle.ndef_nest.specs.Machine.Reached.{IsHeaded, IsInBody, IsReached}
use Rattle.ndef_nest.specs.Machine.SpanLaws.{fits_exactly}
use Rattle.ndef_nest.proofs.Ids.{ids_follow}
use Rattle.ndef_nest.proofs.Reaching.{past_more}
use Rattle.ndef_nest.proofs.Slices.{payload_ends}
use Rattle.ndef_nest.proofs.WholeHeads.{typed_whole}

-- the rest of some octets are octets
octets_dropped : (n : ℕ) (xs : List ℕ) → AreOctets xs → AreOctets (drop n xs)
octets_dropped n xs h = octets_back (take n xs) (drop n xs) (subst AreOctets (sym (take-append-drop n xs)) h)

-- its type, id and payload
three_parts : (bytes : List ℕ) (n i p : ℕ) → take (n + i + p) bytes ≡ take n bytes ++ (take i (drop n bytes) ++ take p (drop (n + i) bytes))
three_parts bytes n i p =
    take_parts bytes (n + i) p ∙ ap (λ x. x ++ take p (drop (n + i) bytes)) (take_parts bytes n i)
    ∙ append_assoc (take n bytes) (take i (drop n bytes)) (take p (drop (n + i) bytes))

-- the record when all of it has come
abbrev pub ended_body : Head → Body
ended_body h = record { leaf = Refused DoesNotFit; last = h.last; id = 0; payload = 0 }

module _ (c : Context) (h : Head) (name ids content : List ℕ) (named : AreOctets name) (id_are : AreOctets ids) (are : AreOctets content) (name_is : length name ≡ h.kind_length) (id_is : length ids ≡ unwrap_or h.id_length 0) (payload_is : length content ≡ h.payload_length) where
  -- what completes the message after it
  pub record_follows : Allows c.demand (kind_in c.table h.tnf name) → IsPayload (kind_in c.table h.tnf name) c.profile content
      → Continues (CompletesHeaded c h) (Tail (Later c.profile c.table c.records) h.last (demand_after c.demand (kind_in c.table h.tnf name))) (name ++ (ids ++ content))
  record_follows allowed member =
      let kind = kind_in c.table h.tnf name in
      let tail = Tail (Later c.profile c.table c.records) h.last (demand_after c.demand kind) in
      let mine = IsPayload kind c.profile in
      let id = unwrap_or h.id_length 0 in
      let typed : Continues (CompletesHeaded c h) (IsBody mine id h.payload_length tail) name =
      λ r. (let w = rw name_is at (typed_whole c.profile (Later c.profile c.table c.records) h.last c.demand (kind_in c.table h.tnf) id h.payload_length name r named) in (λ x. w.0 (allowed, x), λ y. (w.1 y).1)) in
      let none : id - length ids ≡ 0 = omega (arith, id_is) in
      let after_ids : Continues (IsBody mine id h.payload_length tail) (IsBody mine 0 h.payload_length tail) ids =
      subst (λ n. Continues (IsBody mine id h.payload_length tail) (IsBody mine n h.payload_length tail) ids) none (ids_follow mine tail id h.payload_length ids id_are (omega (arith, id_is))) in
      follows_more (CompletesHeaded c h) (IsBody mine id h.payload_length tail) tail name (ids ++ content) typed
      (follows_more (IsBody mine id h.payload_length tail) (IsBody mine 0 h.payload_length tail) tail ids content after_ids (payload_ends mine tail h.payload_length content payload_is member))

  -- what has come of the message with it
  pub record_comes : (records : ℕ) (m : List ℕ) → IsHeaded c h records m → IsInBody (asking c (demand_after c.demand (kind_in c.table h.tnf name))) (ended_body h) records (m ++ (name ++ (ids ++ content)))
  record_comes records m x = let z = past_more c c.demand records x.done x.fields [] (name ++ (ids ++ content)) m (name ++ (ids ++ content)) refl x.past in record {
    demand = c.demand;
    done = x.done;
    fields = x.fields;
    name = name;
    id_octets = ids;
    content = content;
    past = record { front = z.front; before = z.before; may = z.may; spelled = z.spelled };
    are_octets = (named, id_are, are);
    name_is = name_is ∙ sym (ap (λ g. g.kind_length) x.read);
    id_left = omega (arith, id_is, ap (λ g. unwrap_or g.id_length 0) x.read);
    payload_left = omega (arith, payload_is, ap (λ g. g.payload_length) x.read);
    in_order = λ some. absurd (omega (arith, some));
    last_is = ap (λ g. g.last) x.read;
    leaf_is = λ p. absurd p.1;
    demand_is = ap (λ g. demand_after c.demand (kind_in c.table g.tnf name)) x.read;
  }

-- what completes the message there has lengths in the range
pub after_passes : (c : Context) (phase : NestPhase) (lo hi : ℕ) → Suits c → IsSoundAfter c phase → hi < 2 ^ 32 → IsTrue (meets_span (span_of c false [] phase) lo hi) → PassesBetween (CompletesAfter c phase) lo hi
after_passes c phases.Version lo hi s i small h = absurd (grind (arith, nat_tests))
after_passes c phases.Start lo hi s i small h = absurd (grind (arith, nat_tests))
after_passes c phases.Head lo hi s i small h = (fits_exactly c false [] phases.Head lo hi s i tt small).0 h
after_passes c (phases.Name n) lo hi s i small h = (fits_exactly c false [] (phases.Name n) lo hi s i tt small).0 h
after_passes c (phases.Body b) lo hi s i small h = (fits_exactly c false [] (phases.Body b) lo hi s i tt small).0 h
after_passes c phases.Ended lo hi s i small h = (fits_exactly c false [] phases.Ended lo hi s i tt small).0 h
after_passes c phases.Refused lo hi s i small h = (fits_exactly c false [] phases.Refused lo hi s i tt small).0 h

-- the same in its bytes
module _ (c : Context) (h : Head) (bytes : List ℕ) (n i p : ℕ) (are : AreOctets bytes) (within : n + i + p ≤ length bytes) (named : n ≡ h.kind_length) (ids : i ≡ unwrap_or h.id_length 0) (payload : p ≡ h.payload_length) where
  name_length : length (take n bytes) ≡ h.kind_length
  name_length = length-take-le n bytes (omega (arith, within)) ∙ named

  id_length : length (take i (drop n bytes)) ≡ unwrap_or h.id_length 0
  id_length = length-take-le i (drop n bytes) (omega (arith, within, length-drop n bytes)) ∙ ids

  payload_length : length (take p (drop (n + i) bytes)) ≡ h.payload_length
  payload_length = length-take-le p (drop (n + i) bytes) (omega (arith, within, length-drop (n + i) bytes)) ∙ payload

  name_octets : AreOctets (take n bytes)
  name_octets = octets_taken n bytes are

  id_octets : AreOctets (take i (drop n bytes))
  id_octets = octets_taken i (drop n bytes) (octets_dropped n bytes are)

  payload_octets : AreOctets (take p (drop (n + i) bytes))
  payload_octets = octets_taken p (drop (n + i) bytes) (octets_dropped (n + i) bytes are)

  -- what completes the message after the record
  pub record_taken : Allows c.demand (kind_in c.table h.tnf (take n bytes)) → IsPayload (kind_in c.table h.tnf (take n bytes)) c.profile (take p (drop (n + i) bytes))
      → Continues (CompletesHeaded c h) (Tail (Later c.profile c.table c.records) h.last (demand_after c.demand (kind_in c.table h.tnf (take n bytes)))) (take (n + i + p) bytes)
  record_taken allowed member =
      subst (Continues (CompletesHeaded c h) (Tail (Later c.profile c.table c.records) h.last (demand_after c.demand (kind_in c.table h.tnf (take n bytes))))) (sym (three_parts bytes n i p))
      (record_follows c h (take n bytes) (take i (drop n bytes)) (take p (drop (n + i) bytes)) name_octets id_octets payload_octets name_length id_length payload_length allowed member)

  -- what has come of the message with it
  pub record_come : (records : ℕ) (m : List ℕ) → IsHeaded c h records m → IsInBody (asking c (demand_after c.demand (kind_in c.table h.tnf (take n bytes)))) (ended_body h) records (m ++ take (n + i + p) bytes)
  record_come records m x =
      subst (λ t. IsInBody (asking c (demand_after c.demand (kind_in c.table h.tnf (take n bytes)))) (ended_body h) records (m ++ t)) (sym (three_parts bytes n i p))
      (record_comes c h (take n bytes) (take i (drop n bytes)) (take p (drop (n + i) bytes)) name_octets id_octets payload_octets name_length id_length payload_length records m x)

-- a reader that has just begun
pub fresh_taken : (old : List ℕ → Type 0) (c : Context) (first : Bool) (xs : List ℕ) (phase : NestPhase) (bytes : List ℕ) (lo hi count : ℕ) → xs ≡ [] → first ≡ false → StepsAll old (CompletesAfter c phase) bytes lo hi count
    → StepsAll old (Completes c first xs phase) bytes lo hi count
fresh_taken old c first xs phase bytes lo hi count e f h = rw (e, f) h

pub fresh_reached : (c : Context) (first : Bool) (xs : List ℕ) (phase : NestPhase) (records : ℕ) (s t : List ℕ) → xs ≡ [] → first ≡ false → t ≡ s → IsReached c false [] phase records s → IsReached c first xs phase records t
fresh_reached c first xs phase records s t e f g h = rw (e, f, g) h
