-- Octets of a nested record's payload that are taken at once.
use Rattle.std.proofs.Common.{◌≡◌, IsTrue, ℕ, zero, suc, ◌+◌, ◌-◌, ◌<◌, ◌≤◌, ◌↔◌, Bool, false, List, [], ◌∷◌, ◌++◌, length, take, get_or, length-append, refl, sym, ◌∙◌, ap, subst, arith, append_assoc}
use Rattle.std.proofs.lemmas.List.{append-nil, take_all, take-take, length-take, length-take-le, get_or-take}
use Rattle.ndef_value.specs.ListLaws.{octets_append}
use Rattle.ndef_format.specs.Records.{AreOctets, octets, tnf_of}
use Rattle.ndef_format.specs.declared.profile.Profile.{Profile}
use Rattle.ndef_format.specs.declared.reason.Reason.{Reason}
use Rattle.ndef_lang.specs.Language.{Continues, Reaches, PassesBetween, After, StepsAll}
use Rattle.ndef_format.specs.Reasons.{IsLowest}
use Rattle.ndef_format.specs.PayloadReasons.{PayloadReason}
use Rattle.ndef_lang.specs.Machine.Leaf.{CompletesLeaf, LeafReached, leaf_lengths}
use Rattle.ndef_lang.specs.Lengths.{meets}
use Rattle.ndef_lang.specs.StepLaws.{rest, follows_none, follows_more, reaches_more, passes_none, steps_done, steps_whole, steps_refused, take_rests}
use Rattle.ndef_format.specs.declared.kind.Kind.{Kind}
use Rattle.ndef_lang.specs.declared.leaf.Leaf.{Leaf}
use Rattle.ndef_nest.specs.declared.context.Context.{Context}
use Rattle.ndef_nest.specs.declared.phase.Body.{Body}
use Rattle.ndef_nest.specs.declared.phase.NestPhase.{NestPhase}
use Rattle.ndef_format.specs.Nested.{kind_in}
use Rattle.ndef_nest.specs.Machine.Phases.{Completes}
use Rattle.ndef_nest.specs.Machine.Demands.{IsBody}
use Rattle.ndef_piece.specs.Field.{OneField}
use Rattle.ndef_format.specs.NestedReasons.{MessageReason}
use Rattle.ndef_nest.specs.Machine.Reached.{IsInBody}
use Rattle.ndef_nest.specs.Machine.BodyLaws.{payload_step, body_as, body_end}
use Rattle.ndef_nest.specs.Machine.SpanLaws.{leaf_at}
use Rattle.ndef_nest.proofs.Reaching.{stands_in_payload}
use Rattle.ndef_nest.proofs.Reasons.{reason_of_payload}
use Rattle.ndef_nest.proofs.Steps.{chain}

-- ---- what completes them

payload_steps : (member tail : List ℕ → Type 0) (payload : ℕ) (t r : List ℕ) → length t ≤ payload → IsBody (λ s. member (t ++ s)) 0 (payload - length t) tail r ↔ IsBody member 0 payload tail (t ++ r)
payload_steps member tail payload [] r h = subst (λ n. IsBody member 0 n tail r ↔ IsBody member 0 payload tail r) (let e : payload ≡ payload - 0 = omega arith in e) (λ x. x, λ x. x)
payload_steps member tail zero (b ∷ t) r h = absurd (omega arith)
payload_steps member tail (suc payload) (b ∷ t) r h =
    subst (λ n. IsBody (λ s. member ((b ∷ t) ++ s)) 0 n tail r ↔ IsBody member 0 (suc payload) tail ((b ∷ t) ++ r)) (let e : payload - length t ≡ suc payload - length (b ∷ t) = omega arith in e)
    (chain (payload_steps (λ s. member (b ∷ s)) tail payload t r (omega arith)) (payload_step member tail payload b (t ++ r)))

pub payload_follows : (member next tail : List ℕ → Type 0) (payload : ℕ) (t : List ℕ) → length t ≤ payload → Continues member next t → Continues (IsBody member 0 payload tail) (IsBody next 0 (payload - length t) tail) t
payload_follows member next tail payload t h f r =
    let w = payload_steps member tail payload t r h in (
      λ x. w.0 (body_as next (λ s. member (t ++ s)) tail 0 (payload - length t) r (λ s. (f s).0) x),
      λ x. body_as (λ s. member (t ++ s)) next tail 0 (payload - length t) r (λ s. (f s).1) (w.1 x),
    )

-- the whole payload at once: what follows the record
pub payload_ends : (member tail : List ℕ → Type 0) (payload : ℕ) (bytes : List ℕ) → length bytes ≡ payload → member bytes → Continues (IsBody member 0 payload tail) tail bytes
payload_ends member tail payload bytes e h r =
    let w = payload_steps member tail payload bytes r (omega arith) in
    let z : payload - length bytes ≡ 0 = omega arith in
    let v = body_end (λ s. member (bytes ++ s)) tail r in
    let u : IsBody (λ s. member (bytes ++ s)) 0 (payload - length bytes) tail r ↔ tail r = rw z (λ x. (v.0 x).1, λ x. v.1 (subst member (sym (append-nil bytes)) h, x)) in
    (λ x. w.0 (u.1 x), λ x. u.0 (w.1 x))

-- what the leaf takes, the message takes
pub body_steps : (member next tail : List ℕ → Type 0) (payload : ℕ) (bytes : List ℕ) (lo hi count : ℕ) → length bytes ≤ payload → StepsAll member next bytes payload payload count → PassesBetween (IsBody member 0 payload tail) lo hi
    → StepsAll (IsBody member 0 payload tail) (IsBody next 0 (payload - length (take (count + 1) bytes)) tail) bytes lo hi count
body_steps member next tail payload bytes lo hi count few steps p =
    let within = steps.within in
    record {
      within = steps.within;
      stepped = payload_follows member next tail payload (take (count + 1) bytes) (omega (arith, length-take (count + 1) bytes)) steps.stepped;
      fits = fitting steps.fits p.passed p.least p.most (length-take-le count bytes steps.within);
      refused = λ l q. refusing l (length-take-le (count + 1) bytes (omega arith)) q.passed;
    }
  where
    refusing : count < length bytes → length (take (count + 1) bytes) ≡ count + 1 → {r : List ℕ} → IsBody next 0 (payload - length (take (count + 1) bytes)) tail r → ⊥
    refusing l e y = let n = y.length in steps.refused l (record { rest = y.content; passed = y.belongs; least = omega arith; most = omega arith })

    fitting : PassesBetween (After member (take count bytes)) (payload - count) (payload - count) → {r : List ℕ} → IsBody member 0 payload tail r → lo ≤ length r → length r ≤ hi → length (take count bytes) ≡ count
        → PassesBetween (After (IsBody member 0 payload tail) (take count bytes)) (lo - count) (hi - count)
    fitting c x l h e =
        let n0 = x.id_length in
        let n1 = x.length in
        let n2 = ap length x.spelled in
        let c0 = c.least in
        let c1 = c.most in
        let within = steps.within in
        let n3 = length-append x.id_octets (x.content ++ x.later) in
        let n4 = length-append x.content x.later in
        let n5 = length-append c.rest x.later in
        let n6 = length-append (take count bytes) c.rest in
        record {
          rest = c.rest ++ x.later;
          passed = record {
            id_octets = [];
            content = take count bytes ++ c.rest;
            later = x.later;
            spelled = sym (append_assoc (take count bytes) c.rest x.later);
            octets = tt;
            id_length = refl;
            length = omega arith;
            belongs = c.passed;
            then = x.then;
          };
          least = omega arith;
          most = omega arith;
        }

-- a state that passes alike takes the same octets
pub steps_as : (old next new : List ℕ → Type 0) (bytes : List ℕ) (lo hi count : ℕ) → ((r : List ℕ) → new r ↔ next r) → StepsAll old next bytes lo hi count → StepsAll old new bytes lo hi count
steps_as old next new bytes lo hi count same s = record {
  within = s.within;
  stepped = λ r. chain (same r) (s.stepped r);
  fits = s.fits;
  refused = λ l p. s.refused l (record { rest = p.rest; passed = (same p.rest).0 p.passed; least = p.least; most = p.most });
}

-- the payload of the leaf can be completed, where the message can
pub leaf_fits : (leaf : Leaf) (tail : List ℕ → Type 0) (id payload lo hi : ℕ) → PassesBetween (IsBody (CompletesLeaf leaf) id payload tail) lo hi → IsTrue (meets (leaf_lengths leaf) payload payload)
leaf_fits leaf tail id payload lo hi p = (leaf_at leaf payload).1 (p.passed.content, p.passed.belongs, p.passed.length)

-- ---- what has come

pub payload_come : (c : Context) (body : Body) (leaf : Leaf) (left records : ℕ) (m t : List ℕ) → body.id ≡ 0 → AreOctets t → length t + left ≡ body.payload
    → ((kind : Kind) → Reaches (LeafReached body.leaf kind c.profile) (LeafReached leaf kind c.profile) t)
    → IsInBody c body records m → IsInBody c (record body { leaf = leaf; payload = left }) records (m ++ t)
payload_come c body leaf left records m t none are few step x = record {
  demand = x.demand;
  done = x.done;
  fields = x.fields;
  name = x.name;
  id_octets = x.id_octets;
  content = x.content ++ t;
  past = record {
    front = x.past.front;
    before = x.past.before;
    may = x.past.may;
    spelled = ap (λ z. z ++ t) x.past.spelled ∙ regroup x.past.front (octets x.fields) x.name x.id_octets x.content t;
  };
  are_octets = (x.are_octets.0, x.are_octets.1, octets_append x.content t x.are_octets.2 are);
  name_is = x.name_is;
  id_left = x.id_left;
  payload_left = omega (arith, x.payload_left, length-append x.content t);
  in_order = λ h. absurd (omega (arith, h, none));
  last_is = x.last_is;
  leaf_is = step (kind_in c.table (tnf_of x.fields.tnf) x.name) x.content x.leaf_is;
  demand_is = x.demand_is;
}
  where
    regroup : (d h k i z w : List ℕ) → (d ++ (h ++ (k ++ (i ++ z)))) ++ w ≡ d ++ (h ++ (k ++ (i ++ (z ++ w))))
    regroup d h k i z w = simp append_assoc

-- why the octet after these is refused
pub reason_after_payload : (one : OneField) (c : Context) (body : Body) (records : ℕ) (m t : List ℕ) (b : ℕ) (r : Reason) → body.id ≡ 0 → AreOctets t → length t < body.payload
    → ((kind : Kind) (profile : Profile) (s : List ℕ) → LeafReached body.leaf kind profile s → IsLowest (PayloadReason kind profile (s ++ t) b) r)
    → IsInBody c body records m → IsLowest (MessageReason c.table records c.profile (m ++ t) b) r
reason_after_payload one c body records m t b r none are few why x =
    reason_of_payload one c.table records c.profile (m ++ t) b x.done x.fields x.name x.id_octets (x.content ++ t) r (stands_in_payload c body records m t none are few x)
    (why (kind_in c.table (tnf_of x.fields.tnf) x.name) c.profile x.content x.leaf_is)

-- ---- a front of the octets

-- one of the first n octets is refused
pub steps_front : (old new : List ℕ → Type 0) (bytes : List ℕ) (lo hi n count : ℕ) → n ≤ length bytes → count < n → StepsAll old new (take n bytes) lo hi count → StepsAll old new bytes lo hi count
steps_front old new bytes lo hi n count l less s =
    let e1 : take (count + 1) (take n bytes) ≡ take (count + 1) bytes = take-take (count + 1) n bytes (omega arith) in
    let e0 : take count (take n bytes) ≡ take count bytes = take-take count n bytes (omega arith) in
    record {
      within = omega arith;
      stepped = subst (Continues old new) e1 s.stepped;
      fits = subst (λ x. PassesBetween (After old x) (lo - count) (hi - count)) e0 s.fits;
      refused = λ h. s.refused (omega (arith, length-take-le n bytes l));
    }

pub reaches_front : (old new : List ℕ → Type 0) (bytes : List ℕ) (n count : ℕ) → count < n → Reaches old new (take (count + 1) (take n bytes)) → Reaches old new (take (count + 1) bytes)
reaches_front old new bytes n count less r = subst (Reaches old new) (take-take (count + 1) n bytes (omega arith)) r

pub reason_front : (holds : List ℕ → ℕ → Reason → Type 0) (reason : Reason) (bytes s : List ℕ) (n count : ℕ) → count < n → IsLowest (holds (s ++ take count (take n bytes)) (get_or (take n bytes) count 0)) reason
    → IsLowest (holds (s ++ take count bytes) (get_or bytes count 0)) reason
reason_front holds reason bytes s n count less h =
    subst (λ b. IsLowest (holds (s ++ take count bytes) b) reason) (get_or-take n bytes count 0 less)
    (subst (λ x. IsLowest (holds (s ++ x) (get_or (take n bytes) count 0)) reason) (take-take count n bytes (omega arith)) h)

-- ---- between records no octet of a head was read

pub fresh_steps : (c : Context) (first : Bool) (xs : List ℕ) (old new : NestPhase) (bytes : List ℕ) (lo hi count : ℕ) → xs ≡ [] → first ≡ false → StepsAll (Completes c false [] old) (Completes c false [] new) bytes lo hi count
    → StepsAll (Completes c first xs old) (Completes c first xs new) bytes lo hi count
fresh_steps c first xs old new bytes lo hi count e f h = rw (e, f) h

-- ---- one octet

pub one_taken : (old new : List ℕ → Type 0) (bytes : List ℕ) (lo hi : ℕ) → 0 < length bytes → Continues old new (get_or bytes 0 0 ∷ []) → PassesBetween new (lo - 1) (hi - 1) → StepsAll old new (take 1 bytes) lo hi 1
one_taken old new [] lo hi h f p = absurd (omega arith)
one_taken old new (x ∷ xs) lo hi h f p = steps_whole old new (x ∷ []) lo hi f p

pub one_refused : (old new : List ℕ → Type 0) (bytes : List ℕ) (lo hi : ℕ) → 0 < length bytes → PassesBetween old lo hi → Continues old new (get_or bytes 0 0 ∷ []) → (PassesBetween new (lo - 1) (hi - 1) → ⊥) → StepsAll old new (take 1 bytes) lo hi 0
one_refused old new [] lo hi h p f bad = absurd (omega arith)
one_refused old new (x ∷ xs) lo hi h p f bad = steps_refused old old new (x ∷ []) lo hi 0 (omega arith) (follows_none old) (passes_none p) f bad

pub one_reached : (old new : List ℕ → Type 0) (bytes : List ℕ) → 0 < length bytes → Reaches old new (get_or bytes 0 0 ∷ []) → Reaches old new (take 2 (take 1 bytes)) × Reaches old new (take 1 (take 1 bytes))
one_reached old new [] h r = absurd (omega arith)
one_reached old new (x ∷ xs) h r = (r, r)

pub one_reason : (holds : List ℕ → ℕ → Reason → Type 0) (reason : Reason) (bytes s : List ℕ) → 0 < length bytes → IsLowest (holds s (get_or bytes 0 0)) reason → IsLowest (holds (s ++ []) (get_or (take 1 bytes) 0 0)) reason
one_reason holds reason [] s h l = absurd (omega arith)
one_reason holds reason (x ∷ xs) s h l = subst (λ y. IsLowest (holds y x) reason) (sym (append-nil s)) l

-- ---- a run of fronts

pub run_on : (old mid new : List ℕ → Type 0) (bytes : List ℕ) (lo hi at n count : ℕ) → n ≤ length (rest bytes at) → n ≤ count → Continues old mid (take at bytes) → StepsAll mid new (take n (rest bytes at)) (lo - at) (hi - at) count
    → Continues old new (take (at + n) bytes) × PassesBetween new (lo - (at + n)) (hi - (at + n))
run_on old mid new bytes lo hi at n count l all f s =
    let whole = length-take-le n (rest bytes at) l in
    let within = s.within in
    let d = steps_done s (omega arith) in
    let e : lo - at - length (take n (rest bytes at)) ≡ lo - (at + n) = omega arith in
    let g : hi - at - length (take n (rest bytes at)) ≡ hi - (at + n) = omega arith in (
      subst (Continues old new) (take_rests bytes at n) (follows_more old mid new (take at bytes) (take n (rest bytes at)) f d.0),
      subst (λ x. PassesBetween new x (hi - (at + n))) e (subst (λ x. PassesBetween new (lo - at - length (take n (rest bytes at))) x) g d.1),
    )

pub run_reached : (old mid new : List ℕ → Type 0) (bytes : List ℕ) (at n count : ℕ) → n ≤ length (rest bytes at) → n ≤ count → Reaches old mid (take at bytes) → Reaches mid new (take (count + 1) (take n (rest bytes at))) → Reaches old new (take (at + n) bytes)
run_reached old mid new bytes at n count l all r s =
    let whole = length-take-le n (rest bytes at) l in
    subst (Reaches old new) (take_rests bytes at n)
    (reaches_more old mid new (take at bytes) (take n (rest bytes at)) r (subst (Reaches mid new) (take_all (count + 1) (take n (rest bytes at)) (omega arith)) s))
