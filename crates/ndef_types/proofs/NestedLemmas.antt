-- A nested message is a message of one piece a record, whatever its payloads.
use Rattle.std.proofs.Common.{◌≡◌, ℕ, ◌≤◌, List, [], ◌∷◌, ◌++◌, length, map, refl, sym, subst, ◌<◌, ◌^◌, ◌∙◌, ap, arith, append-nil, suc, take, Ok, Err}
use Rattle.std.specs.List.{AllByRecursion, flat_map}
use Rattle.ndef_format.specs.Messages.{Item, IsMessage, IsShaped, SpellsBy, SpellsPieces, all_pieces, payload_of, run_record}
use Rattle.ndef_format.specs.Records.{Piece, Run, IsPiece, pieces, AreOctets}
use Rattle.ndef_format.specs.Canonical.{AreItems, IsItem}
use Rattle.ndef_format.specs.Limits.{LimitValues}
use Rattle.ndef_format.specs.declared.profile.Profile.{Profile}
use Rattle.ndef_format.specs.Nested.{IsPayload, Nested, IsNestedBy, kind_in}
use Rattle.ndef_lang.specs.Machine.LeafLaws.{payload_octets}
use Rattle.ndef_format.specs.Payloads.{Sets}
use Rattle.ndef_format.specs.Reasons.{Conditions}
use Rattle.ndef_format.specs.NestedReasons.{nested_limits}
use Rattle.ndef_format.specs.declared.table.Table.{Table}
use Rattle.ndef_format.specs.declared.refusal.Refusal.{Refusal}
use Rattle.ndef_message.specs.Views.{NeverRefusedInView, OneView, Viewed, Views}
use Rattle.std.proofs.Math.Seq.{take-length}
use Rattle.ndef_format.specs.Accepted.{Accepted, IsMember}

-- what every list of octets is in
abbrev pub opaque : Sets
opaque tnf name records profile s = AreOctets s

are_pieces : (ps : List Piece) (bytes : List ℕ) → SpellsPieces ps bytes → AllByRecursion IsPiece ps
are_pieces [] bytes h = tt
are_pieces (p ∷ ps) bytes h = (h.4.piece, are_pieces ps h.2 h.5)

map_length : (runs : List Run) → length (map run_record runs) ≡ length runs
map_length [] = refl
map_length (r ∷ runs) = ap suc (map_length runs)

few : (runs : List Run) → AllByRecursion (λ r. r.later ≡ []) runs → AllByRecursion (λ r. length (pieces r) ≤ 1) runs
few [] h = tt
few (r ∷ runs) h = (omega (arith, ap length h.0), few runs h.1)

append_parts : (ps qs : List Piece) → AllByRecursion IsPiece (ps ++ qs) → AllByRecursion IsPiece ps × AllByRecursion IsPiece qs
append_parts [] qs h = (tt, h)
append_parts (p ∷ ps) qs h = let k = append_parts ps qs h.1 in ((h.0, k.0), k.1)

one_payload : (r : Run) → r.later ≡ [] → payload_of (pieces r) ≡ r.initial.payload
one_payload r e = ap (λ ps. r.initial.payload ++ flat_map (λ (q : Piece). q.payload) ps) e ∙ append-nil r.initial.payload

small : (runs : List Run) → AllByRecursion (λ r. r.later ≡ []) runs → AllByRecursion IsPiece (all_pieces runs) → AllByRecursion (λ r. length (payload_of (pieces r)) ≤ 4294967295) runs
small [] h k = tt
small (r ∷ runs) h k =
    let p = append_parts (pieces r) (all_pieces runs) k in
    let l = p.0.0.payload_length in
    (omega (arith, ap length (one_payload r h.0), l), small runs h.1 p.1)

are_members : (table : Table) (profile : Profile) (items : List Item) → AllByRecursion (λ i. IsPayload (kind_in table i.tnf i.kind) profile i.payload) items
    → AllByRecursion (IsMember opaque (nested_limits 65535 profile)) items
are_members table profile [] h = tt
are_members table profile (i ∷ items) h = (payload_octets (kind_in table i.tnf i.kind) profile i.payload h.0, are_members table profile items h.1)

-- the bytes, by their name or as all of themselves
nested_is_deep : (table : Table) (profile : Profile) (runs : List Run) (items : List Item) (bytes whole : List ℕ) → bytes ≡ whole → IsNestedBy table 65535 profile runs items bytes → Accepted opaque (nested_limits 65535 profile) items whole
nested_is_deep table profile runs items bytes whole e h = record {
  runs = runs;
  spelling = subst (SpellsBy profile runs items) e h.spelling;
  within = record {
    few_records = omega (arith, h.few, map_length runs, ap length h.spelling.message.items);
    few_pieces = few runs h.single;
    small = small runs h.single (are_pieces (all_pieces runs) bytes h.spelling.spelled);
  };
  members = are_members table profile items h.contents.members;
}

-- ---- the records of a nested message

is_item : (r : Run) → r.later ≡ [] → IsPiece r.initial → IsShaped (run_record r) → IsItem (run_record r)
is_item r e p s =
    let same = sym (one_payload r e) in
    record {
      shaped = s;
      lengths = record { kind = p.kind_length; id = p.id_length; payload = subst (λ x. length x < 2 ^ 32) same p.payload_length };
      kind = p.kind;
      id = p.id;
      payload = subst AreOctets same p.payload;
    }

are_items : (runs : List Run) → AllByRecursion (λ r. r.later ≡ []) runs → AllByRecursion IsPiece (all_pieces runs) → AllByRecursion IsShaped (map run_record runs) → AllByRecursion IsItem (map run_record runs)
are_items [] h p s = tt
are_items (r ∷ runs) h p s = let q = append_parts (pieces r) (all_pieces runs) p in (is_item r h.0 q.0.0 s.0, are_items runs h.1 q.1 s.1)

some : (profile : Profile) (runs : List Run) (items : List Item) → IsMessage profile runs items → 1 ≤ length items
some profile [] items h = absurd h.begins
some profile (r ∷ runs) items h = omega (arith, ap length h.items)

pub nested_items : (table : Table) (profile : Profile) (runs : List Run) (items : List Item) (bytes : List ℕ) → IsNestedBy table 65535 profile runs items bytes → AreItems items
nested_items table profile runs items bytes h =
    let m = h.spelling.message in
    record {
      some = some profile runs items m;
      few = h.few;
      each = subst (AllByRecursion IsItem) m.items (are_items runs h.single (are_pieces (all_pieces runs) bytes h.spelling.spelled) (subst (AllByRecursion IsShaped) (sym m.items) m.shaped));
    }

-- ---- what is seen

pub is_seen : (holds : Conditions) (limits : LimitValues) (table : Table) (profile : Profile) (runs : List Run) (items : List Item) (bytes : List ℕ) (v : Viewed)
    → OneView opaque holds → limits ≡ nested_limits 65535 profile → Views opaque holds limits bytes (Ok v) → IsNestedBy table 65535 profile runs items bytes → (v.runs ≡ runs) × (map run_record v.runs ≡ items)
unfolding nested_is_deep
is_seen holds limits table profile runs items bytes v one l r h =
    let seen = one (nested_limits 65535 profile) bytes v items (length bytes) (subst (λ x. Views opaque holds x bytes (Ok v)) l r) (omega arith)
    (nested_is_deep table profile runs items bytes (take (length bytes) bytes) (sym (take-length bytes)) h) in
    (sym seen.runs_are, sym seen.items_are)

pub is_not_refused : (holds : Conditions) (limits : LimitValues) (table : Table) (profile : Profile) (bytes : List ℕ) (refusal : Refusal)
    → NeverRefusedInView opaque holds → limits ≡ nested_limits 65535 profile → Nested table 65535 profile bytes → Views opaque holds limits bytes (Err refusal) → ⊥
is_not_refused holds limits table profile bytes refusal never l h r =
    let whole = nested_is_deep table profile h.0 h.1 bytes (take (length bytes) bytes) (sym (take-length bytes)) h.2 in
    never (nested_limits 65535 profile) bytes refusal (length bytes) (subst (λ x. Views opaque holds x bytes (Err refusal)) l r) (h.1, whole)
