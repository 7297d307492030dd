-- The rest of a message, from one step of its writing to the next.
use Rattle.std.proofs.Common.{◌≡◌, ℕ, zero, suc, ◌+◌, ◌-◌, ◌≤◌, ◌==◌, Bool, false, List, [], ◌∷◌, ◌++◌, length, take, drop, refl, sym, ap, ◌∙◌, subst, arith, length-append, length-drop, append-nil, append_assoc, ne_eqb, take_all}
use Rattle.std.proofs.lemmas.Grind.{flat_map-append}
use Rattle.std.proofs.lemmas.List.{drop-drop, drop_more}
use Rattle.std.proofs.lemmas.Option.{slice_get_within, get_or_from_slice_get}
use Rattle.std.specs.List.{AllByRecursion, slice_get}
use Rattle.std.specs.Option.{ForSome}
use Rattle.std.specs.Prelude.{Option, Some, unwrap_or}
use Rattle.ndef_format.specs.Messages.{Item, all_pieces}
use Rattle.ndef_format.specs.Records.{pieces}
use Rattle.ndef_format.specs.Canonical.{IsItem, is_nil}
use Rattle.ndef_message.specs.Cut.{cut_run, cut_runs}
use Rattle.ndef_message.specs.Machine.Encoding.{IsSpot, message_left, plan_of, records_left, records_octets}
use Rattle.ndef_message.specs.Machine.Stepping.{IsWaiting}
use Rattle.ndef_message.specs.Steps.{AreLeft, CanBeWritten, Steps, octets_left, unstarted}
use Rattle.ndef_message.specs.Written.{written_piece}
use Rattle.ndef_message.specs.declared.encoder.Spot.{Spot}
use Rattle.ndef_message.specs.declared.form.Form.{Form}
use Rattle.ndef_message.specs.declared.plan.Progress.{Progress}
use Rattle.ndef_message.specs.declared.plan.RecordPlan.{RecordPlan}
use Rattle.ndef_message.proofs.RecordBegins.{leaves_all, wants_payload}
use Rattle.ndef_message.proofs.RecordSteps.{some_size}
use Rattle.ndef_message.proofs.WrittenRuns.{is_nil_at}

-- ---- records of which nothing is written

planned : (form : Form) (size : Option ℕ) (first last : Bool) (m : Item) → IsItem m → CanBeWritten (plan_of form size first last m)
planned form size first last m is = record {
  changed = is.shaped.changed;
  shape = is.shaped.shape;
  kind = is.lengths.kind;
  id = is.lengths.id;
  payload = is.lengths.payload;
}

pub begun_left : (form : Form) (size : Option ℕ) (first : Bool) (m : List Item) → ForSome size (λ n. 1 ≤ n) → AllByRecursion IsItem m
    → records_left form size first unstarted m ≡ records_octets form size first m
begun_left form size first [] sized items = refl
begun_left form size first (m ∷ ms) sized items =
    let p = plan_of form size first (is_nil ms) m in
    ap (λ l. l ++ records_octets form size false ms)
    (leaves_all p (planned form size first (is_nil ms) m items.0) (some_size size sized) m.kind m.id m.payload (record { kind_length = refl; id_length = refl }) refl)
    ∙ sym (flat_map-append (written_piece form) (pieces (cut_run first (is_nil ms) size m)) (all_pieces (cut_runs false size ms)))

all_drop : (n : ℕ) (m : List Item) → AllByRecursion IsItem m → AllByRecursion IsItem (drop n m)
all_drop zero m items = items
all_drop (suc n) [] items = tt
all_drop (suc n) (x ∷ m) items = all_drop n m items.1

-- ---- one of its records

record_here : (form : Form) (size : Option ℕ) (m : List Item) (spot : Spot) (r : Item) → slice_get m spot.index ≡ Some r
    → message_left form size m spot
    ≡ octets_left (plan_of form size (spot.index == 0) (spot.index + 1 == length m) r) spot.progress r.kind r.id (drop spot.progress.taken r.payload)
    ++ records_octets form size false (drop (spot.index + 1) m)
record_here form size m spot r h =
    let i = spot.index in
    let within = slice_get_within m i r h in
    let split : drop i m ≡ r ∷ drop (i + 1) m = drop_more m i r within ∙ ap (λ x. x ∷ drop (i + 1) m) (get_or_from_slice_get m i r r h) in
    ap (records_left form size (i == 0) spot.progress) split
    ∙ ap (λ b. octets_left (plan_of form size (i == 0) b r) spot.progress r.kind r.id (drop spot.progress.taken r.payload)
    ++ records_octets form size false (drop (i + 1) m)) (is_nil_at m (i + 1) (omega (arith, within)))

-- a record of the message is written on
pub record Goes (form : Form) (size : Option ℕ) (m : List Item) (spot : Spot) (r : Item) (p : RecordPlan) : Type 0 where
  pub is : IsSpot form size m spot
  pub there : slice_get m spot.index ≡ Some r
  pub plan : p ≡ plan_of form size (spot.index == 0) (spot.index + 1 == length m) r

pub rest_length : {form : Form} {size : Option ℕ} {m : List Item} {spot : Spot} {r : Item} {p : RecordPlan}
    → Goes form size m spot r p → spot.progress.taken + length (drop spot.progress.taken r.payload) ≡ p.payload_length
rest_length {spot = spot} {r = r} g =
    let most = (g.is.is r g.there).taken in
    let d = length-drop spot.progress.taken r.payload in
    let e = ap (λ q. q.payload_length) g.plan in
    omega (arith, most, d, e)

pub went_on : {form : Form} {size : Option ℕ} {m : List Item} {spot : Spot} {r : Item} {p : RecordPlan} {new : Progress} {text : List ℕ}
    → Goes form size m spot r p → Steps p r.kind r.id (drop spot.progress.taken r.payload) spot.progress new text
    → message_left form size m spot
    ≡ text ++ (octets_left p new r.kind r.id (drop new.taken r.payload) ++ records_octets form size false (drop (spot.index + 1) m))
went_on {form} {size} {m} {spot} {r} {p} {new} {text} g s =
    let at = spot.progress in
    let rest = drop at.taken r.payload in
    let later = records_octets form size false (drop (spot.index + 1) m) in
    let n = length-append rest [] in
    let e = rest_length g in
    let f = s.from in
    let back : at.taken + (new.taken - at.taken) ≡ new.taken = omega (arith, f) in
    let on : octets_left p at r.kind r.id rest ≡ text ++ octets_left p new r.kind r.id (drop new.taken r.payload) =
    ap (octets_left p at r.kind r.id) (sym (append-nil rest)) ∙ s.octets [] (omega (arith, n, e))
    ∙ ap (λ l. text ++ octets_left p new r.kind r.id l)
    (ap (drop (new.taken - at.taken)) (append-nil rest) ∙ drop-drop (new.taken - at.taken) at.taken r.payload ∙ ap (λ n. drop n r.payload) back) in
    record_here form size m spot r g.there
    ∙ ap (λ q. octets_left q at r.kind r.id rest ++ later) (sym g.plan)
    ∙ ap (λ l. l ++ later) on
    ∙ append_assoc text (octets_left p new r.kind r.id (drop new.taken r.payload)) later

-- it isn't whole yet
pub stays : {form : Form} {size : Option ℕ} {m : List Item} {spot : Spot} {r : Item} {p : RecordPlan} {new : Progress} {text : List ℕ}
    → Goes form size m spot r p → Steps p r.kind r.id (drop spot.progress.taken r.payload) spot.progress new text
    → message_left form size m spot ≡ text ++ message_left form size m (record { index = spot.index; progress = new })
stays {form} {size} {m} {spot} {r} {p} {new} {text} g s =
    went_on g s ∙ ap (λ l. text ++ l)
    (ap (λ q. octets_left q new r.kind r.id (drop new.taken r.payload) ++ records_octets form size false (drop (spot.index + 1) m)) g.plan
    ∙ sym (record_here form size m (record { index = spot.index; progress = new }) r g.there))

-- it is whole
pub next_record : {form : Form} {size : Option ℕ} {m : List Item} {spot : Spot} {r : Item} {p : RecordPlan} {new : Progress} {text : List ℕ}
    → Goes form size m spot r p → Steps p r.kind r.id (drop spot.progress.taken r.payload) spot.progress new text
    → octets_left p new r.kind r.id (drop new.taken r.payload) ≡ []
    → message_left form size m spot ≡ text ++ message_left form size m (record { index = spot.index + 1; progress = unstarted })
next_record {form} {size} {m} {spot} {r} {p} {new} {text} g s none =
    let later : (spot.index + 1 == 0) ≡ false = ne_eqb (spot.index + 1) 0 (omega arith) in
    went_on g s ∙ ap (λ l. text ++ l)
    (ap (λ l. l ++ records_octets form size false (drop (spot.index + 1) m)) none
    ∙ sym (begun_left form size false (drop (spot.index + 1) m) g.is.sized (all_drop (spot.index + 1) m g.is.items.each))
    ∙ ap (λ b. records_left form size b unstarted (drop (spot.index + 1) m)) (sym later))

-- what is left of its payload
pub rest_is : {form : Form} {size : Option ℕ} {m : List Item} {spot : Spot} {r : Item} {p : RecordPlan} {new : Progress} {text : List ℕ}
    → Goes form size m spot r p → Steps p r.kind r.id (drop spot.progress.taken r.payload) spot.progress new text
    → AreLeft (record { plan = p; progress = new }) r.kind r.id (drop new.taken r.payload)
rest_is {spot = spot} {r = r} {p = p} {new = new} g s =
    let e = ap (λ q. q.payload_length) g.plan in
    let d = length-drop new.taken r.payload in
    let n = length-drop spot.progress.taken r.payload in
    let most = (g.is.is r g.there).taken in
    let to = s.to in
    record {
      names = record { kind_length = sym (ap (λ q. q.kind_length) g.plan); id_length = sym (ap (λ q. q.id_length) g.plan) };
      all = omega (arith, e, d, n, most, to);
    }

-- where there is space after the whole payload, nothing of it is left
pub all_out : {form : Form} {size : Option ℕ} {m : List Item} {spot : Spot} {r : Item} {p : RecordPlan} {new : Progress} {text : List ℕ}
    → Goes form size m spot r p → Steps p r.kind r.id (drop spot.progress.taken r.payload) spot.progress new text
    → new.taken ≡ spot.progress.taken + length (drop spot.progress.taken r.payload) → IsWaiting p new
    → octets_left p new r.kind r.id (drop new.taken r.payload) ≡ []
all_out {size = size} {spot = spot} {r = r} {p = p} {new = new} g s all waits =
    let left = rest_is g s in
    let e = rest_length g in
    let some : 1 ≤ unwrap_or p.size 4294967295 = some_size p.size (subst (λ q. ForSome q.size (λ n. 1 ≤ n)) (sym g.plan) g.is.sized) in
    let wants = wants_payload p new some waits r.kind r.id (drop new.taken r.payload) left.names left.all in
    let n = left.all in
    let none : drop new.taken r.payload ≡ [] = sym (take_all 0 (drop new.taken r.payload) (omega (arith, n, all, e))) in
    no_octet (octets_left p new r.kind r.id (drop new.taken r.payload)) (wants ∙ ap (take 1) none)
  where
    no_octet : (xs : List ℕ) → take 1 xs ≡ [] → xs ≡ []
    no_octet [] h = refl
    no_octet (x ∷ xs) h = absurd (cc)
