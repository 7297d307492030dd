-- The records of a message, each written in one piece.
use Rattle.std.proofs.Common.{◌≡◌, ℕ, ◌+◌, ◌*◌, ◌≤◌, Bool, true, false, List, [], ◌∷◌, ◌++◌, None, length, length-append, refl, sym, ◌∙◌, ap, ap₂, subst, arith, append-nil, append_assoc}
use Rattle.std.specs.List.{AllByRecursion}
use Rattle.std.proofs.lemmas.List.{append_cancel_left, map-append}
use Rattle.std.specs.Prelude.{option_map, unwrap_or}
use Rattle.ndef_value.specs.ListLaws.{all_append, all_back}
use Rattle.ndef_format.specs.Canonical.{written_id}
use Rattle.ndef_format.specs.Messages.{Item, payload_of, run_record}
use Rattle.ndef_format.specs.Records.{Run, body, fields, id_length_octets, octets, payload_length_octets, tnf_of}
use Rattle.ndef_format.specs.declared.tnf.Tnf.{Tnf}
use Rattle.ndef_piece.specs.Whole.{shown}
use Rattle.ndef_piece.specs.Heads.{written_fields}
use Rattle.ndef_piece.specs.declared.head.Head.{Head}
use Rattle.ndef_message.specs.declared.form.Form.{Form}
use Rattle.ndef_message.specs.Cut.{first_piece}
use Rattle.ndef_message.specs.Written.{is_short}
use Rattle.ndef_c.specs.Links.{BeginsWithRuns}
use Rattle.ndef_c.specs.Normalizing.{IsWhole, IsWritable, run_records}
use Rattle.ndef_c.specs.Runs.{IsFirstRun}
use Rattle.ndef_c.specs.Walks.{BeginsWithRun, is_last_run}
use Rattle.ndef_c.specs.Writes.{one_by_one, octets_of_piece, record_octets}
use Rattle.ndef_c.specs.declared.run.FirstRun.{FirstRun}
use Rattle.ndef_c.proofs.Listed.{sized}
use Rattle.ndef_c.proofs.PendingRecord.{whole_as}
use Rattle.ndef_c.proofs.Messages.{Left, Onward, id_of}

-- the octets of the first of some records, and of the others
next_octets : (form : Form) (first : Bool) (run : Run) (more : List Run)
    → one_by_one form first None (run_records (run ∷ more)) ≡ record_octets form first (is_last_run more) None (run_record run) ++ one_by_one form false None (run_records more)
next_octets form first run [] = refl
next_octets form first run (r ∷ more) = refl

-- the front of the piece, and the joined payload after it, are the octets of the record
front_and_payload : {bytes : List ℕ} {found : FirstRun} (x : IsFirstRun bytes found) (form : Form) (first : Bool) (head : Head)
    → written_fields head ≡ fields (first_piece first found.last false (run_record x.run) (run_record x.run).payload) (is_short form (length (run_record x.run).payload))
    → octets_of_piece head found.first.kind.now found.first.id.now [] ++ (run_record x.run).payload ≡ record_octets form first found.last None (run_record x.run)
front_and_payload {bytes} {found} x form first head e =
    ap₂ (λ k i. octets_of_piece head k i [] ++ (run_record x.run).payload) (ap (λ q. q.kind) x.initial) (sym (id_of found x))
    ∙ whole_as form first found.last (run_record x.run) head (run_record x.run).payload refl e

-- what is written of a record, and of those after it
pub record Part (form : Form) (first : Bool) (left : List Run) (run : Run) (more : List Run) (part : List ℕ) : Type 0 where
  pub are : left ≡ run ∷ more
  pub octets : one_by_one form first None (run_records left) ≡ part ++ one_by_one form false None (run_records more)

pub part_of : {bytes found_at : List ℕ} {runs done : List Run} {at next : ℕ} {found : FirstRun} (l : Left bytes runs at done) (x : IsFirstRun found_at found) (o : Onward bytes runs next done x.run) (form : Form) (first : Bool) (head : Head)
    → written_fields head ≡ fields (first_piece first found.last false (run_record x.run) (run_record x.run).payload) (is_short form (length (run_record x.run).payload))
    → Part form first l.more x.run o.more (octets_of_piece head found.first.kind.now found.first.id.now [] ++ (run_record x.run).payload)
part_of {bytes} {found_at} {runs} {done} {at} {next} {found} l x o form first head e =
    let are : l.more ≡ x.run ∷ o.more = append_cancel_left done l.more (x.run ∷ o.more) (sym l.all ∙ o.all) in
    record {
      are = are;
      octets = ap (λ rs. one_by_one form first None (run_records rs)) are ∙ next_octets form first x.run o.more
          ∙ ap (λ b. record_octets form first b None (run_record x.run) ++ one_by_one form false None (run_records o.more)) (sym (x.last ∙ o.ends))
          ∙ ap (λ y. y ++ one_by_one form false None (run_records o.more)) (sym (front_and_payload x form first head e));
    }

-- those that are left after it
pub left_are : {bytes : List ℕ} {runs done : List Run} {run : Run} {next : ℕ} (o : Onward bytes runs next done run) (k : Left bytes runs next (done ++ run ∷ [])) → k.more ≡ o.more
left_are {bytes} {runs} {done} {run} {next} o k =
    append_cancel_left (done ++ run ∷ []) k.more o.more (sym k.all ∙ o.all ∙ sym (append_assoc done (run ∷ []) o.more))

-- after the last there are none
pub none_more : (more : List Run) → is_last_run more ≡ true → more ≡ []
none_more [] e = refl
none_more (r ∷ more) e = absurd (cc)

-- ---- records that can be in one piece

pub writable_on : (done : List Run) (run : Run) → AllByRecursion IsWritable (run_records done) → IsWritable (run_record run) → AllByRecursion IsWritable (run_records (done ++ run ∷ []))
writable_on done run h p = subst (AllByRecursion IsWritable) (sym (map-append run_record done (run ∷ []))) (all_append IsWritable (run_records done) (run_record run ∷ []) h (p, tt))

pub writable_there : (runs done : List Run) (run : Run) (more : List Run) → runs ≡ done ++ run ∷ more → AllByRecursion IsWritable (run_records runs) → IsWritable (run_record run)
writable_there runs done run more e h =
    (all_back IsWritable (run_records done) (run_records (run ∷ more)) (subst (AllByRecursion IsWritable) (ap run_records e ∙ map-append run_record done (run ∷ more)) h)).0

-- ---- the number of bytes

one_at_least : (short : Bool) (n : ℕ) (x : List ℕ) → 1 ≤ length (payload_length_octets short n ++ x)
one_at_least true n x = omega arith
one_at_least false n x = omega arith

-- a run has three octets at least beside its parts
run_least : (run : Run) (rest bytes : List ℕ) → BeginsWithRun run rest bytes
    → 3 + length (run_record run).kind + length (run_record run).id + length (run_record run).payload + length rest ≤ length bytes
run_least run rest bytes b =
    let p = run.initial in
    let id = unwrap_or p.id [] in
    let s = b.spelled in
    let a = ap length b.joined ∙ length-append b.front rest in
    let c = ap length s.3 ∙ length-append s.1 s.2 in
    let d = ap length s.4.spelled ∙ length-append (octets (fields p s.0)) (body p) in
    let e = one_at_least s.0 (length p.payload) (id_length_octets (option_map length p.id)) in
    let f = length-append p.kind (id ++ p.payload) in
    let g = length-append id p.payload in
    let h = sized run.later s.2 s.5 in
    let n = length-append p.payload (payload_of run.later) in
    omega (arith, a, c, d, e, f, g, h, n)

four_at_most : (short : Bool) (n : ℕ) (x : List ℕ) → length (payload_length_octets short n ++ x) ≤ 4 + length x
four_at_most true n x = omega arith
four_at_most false n x = omega arith

id_at_most : (id : List ℕ) → length (id_length_octets (option_map length (written_id id))) ≤ length id
id_at_most [] = omega arith
id_at_most (x ∷ id) = omega arith

-- it is written in twice as many at most
pub part_most : {bytes : List ℕ} {found : FirstRun} (x : IsFirstRun bytes found) (form : Form) (first : Bool) (head : Head)
    → written_fields head ≡ fields (first_piece first found.last false (run_record x.run) (run_record x.run).payload) (is_short form (length (run_record x.run).payload))
    → length (octets_of_piece head found.first.kind.now found.first.id.now [] ++ (run_record x.run).payload) + 2 * length found.rest.now ≤ 2 * length bytes
part_most {bytes} {found} x form first head e =
    let m : Item = run_record x.run in
    let kind = ap (λ q. length q.kind) x.initial in
    let id = ap length (id_of found x) in
    let h = ap (λ f. length (octets f)) e in
    let front = octets_of_piece head found.first.kind.now found.first.id.now [] in
    let a = length-append front m.payload in
    let b = length-append (octets (written_fields head)) (found.first.kind.now ++ (found.first.id.now ++ [])) in
    let c = length-append found.first.kind.now (found.first.id.now ++ []) in
    let d = length-append found.first.id.now [] in
    let f = four_at_most (is_short form (length m.payload)) (length m.payload) (id_length_octets (option_map length (written_id m.id))) in
    let g = id_at_most m.id in
    let n = run_least x.run found.rest.now bytes x.begins in
    omega (arith, kind, id, h, a, b, c, d, f, g, n)

-- ---- what is written so far

pub octets_on : {form : Form} {first : Bool} {left : List Run} {run : Run} {more : List Run} {part : List ℕ} → Part form first left run more part → (done whole : List ℕ)
    → done ++ one_by_one form first None (run_records left) ≡ whole → (done ++ part) ++ one_by_one form false None (run_records more) ≡ whole
octets_on {form} {first} {left} {run} {more} {part} p done whole e =
    append_assoc done part (one_by_one form false None (run_records more)) ∙ ap (λ y. done ++ y) (sym p.octets) ∙ e

pub octets_all : (form : Form) (more : List Run) (done whole : List ℕ) → more ≡ [] → done ++ one_by_one form false None (run_records more) ≡ whole → done ≡ whole
octets_all form more done whole none e = sym (append-nil done) ∙ ap (λ rs. done ++ one_by_one form false None (run_records rs)) (sym none) ∙ e

-- ---- whether a record can be in one piece

pub to_record : {bytes : List ℕ} {found : FirstRun} (x : IsFirstRun bytes found) (tnf : Tnf) (kind id : ℕ) → tnf ≡ tnf_of (shown found.first).tnf → kind ≡ length found.first.kind.now → id ≡ length found.first.id.now
    → IsWhole tnf kind id found.payload → IsWritable (run_record x.run)
to_record {bytes} {found} x tnf kind id t k i h =
    let m : Item = run_record x.run in
    let is = subst (IsWhole m.tnf (length m.kind) (length m.id)) x.payload
    (subst (λ n. IsWhole m.tnf (length m.kind) n found.payload) (i ∙ ap length (sym (id_of found x)))
    (subst (λ n. IsWhole m.tnf n id found.payload) (k ∙ ap (λ q. length q.kind) x.initial)
    (subst (λ u. IsWhole u kind id found.payload) (t ∙ ap (λ q. tnf_of q.tnf) x.initial) h))) in
    record {
      shaped = record { changed = is.changed; shape = is.shape };
      lengths = record { kind = is.kind_fits; id = is.id_fits; payload = is.payload_fits };
    }

pub from_record : {bytes : List ℕ} {found : FirstRun} (x : IsFirstRun bytes found) (tnf : Tnf) (kind id : ℕ) → tnf ≡ tnf_of (shown found.first).tnf → kind ≡ length found.first.kind.now → id ≡ length found.first.id.now
    → IsWritable (run_record x.run) → IsWhole tnf kind id found.payload
from_record {bytes} {found} x tnf kind id t k i h =
    let m : Item = run_record x.run in
    let is : IsWhole m.tnf (length m.kind) (length m.id) (length m.payload) =
    record { changed = h.shaped.changed; shape = h.shaped.shape; kind_fits = h.lengths.kind; id_fits = h.lengths.id; payload_fits = h.lengths.payload } in
    subst (λ u. IsWhole u kind id found.payload) (sym (t ∙ ap (λ q. tnf_of q.tnf) x.initial))
    (subst (λ n. IsWhole m.tnf n id found.payload) (sym (k ∙ ap (λ q. length q.kind) x.initial))
    (subst (λ n. IsWhole m.tnf (length m.kind) n found.payload) (sym (i ∙ ap length (sym (id_of found x))))
    (subst (IsWhole m.tnf (length m.kind) (length m.id)) (sym x.payload) is)))

-- ---- at the start

pub at_start : (bytes : List ℕ) (runs : List Run) → BeginsWithRuns runs bytes → (k : Left bytes runs 0 []) × (k.more ≡ runs)
at_start bytes runs b = (record { more = runs; all = refl; some = b.some; end = b.end; walked = b.walked }, refl)
