-- The records of the message within a payload, which may be given.
use Rattle.std.proofs.Common.{◌≡◌, ℕ, ◌+◌, ◌≤◌, List, [], ◌∷◌, ◌++◌, length, length-append, append-nil, drop, map, refl, sym, ◌∙◌, ap, subst, arith, Bool, true, inl, inr, drop_at}
use Rattle.std.specs.List.{AllByRecursion}
use Rattle.std.specs.Prelude.{filter}
use Rattle.std.proofs.lemmas.List.{length-map}
use Rattle.ndef_format.specs.Messages.{BeginsOnce, Item, all_pieces, run_record}
use Rattle.ndef_format.specs.Nested.{IsNest, IsPayload, Nested, kind_in}
use Rattle.ndef_format.specs.Records.{Run}
use Rattle.ndef_format.specs.declared.profile.Profile.{Profile}
use Rattle.ndef_format.specs.declared.table.Table.{Table}
use Rattle.ndef_format.specs.declared.table.Table.TheVariants.{SmartPoster, Request, Select}
use Rattle.ndef_c.specs.Items.{AreListed, HoldsRuns, MayBeItem, MayHaveValue, item_kind, message_at}
use Rattle.ndef_c.specs.Kinds.{kind_number, kind_with}
use Rattle.ndef_c.specs.Nested.{MayBeInPieces}
use Rattle.ndef_c.specs.Walks.{AreWalked}
use Rattle.ndef_c.specs.declared.items.Listing.{Listing}
use Rattle.ndef_c.proofs.Listed.{kind_value}
use Rattle.ndef_c.proofs.Walked.{walked}

-- the number of the kind of payloads that hold it
abbrev pub number_with : Table → ℕ
number_with table = kind_number (kind_with table)

-- a record of the message
there : (table : Table) (profile : Profile) (i : Item) → IsPayload (kind_in table i.tnf i.kind) profile i.payload → MayHaveValue profile (item_kind (number_with table) i) i.payload
there SmartPoster profile i m = kind_value (kind_in SmartPoster i.tnf i.kind) profile i.payload m
there Request profile i m = kind_value (kind_in Request i.tnf i.kind) profile i.payload m
there Select profile i m = kind_value (kind_in Select i.tnf i.kind) profile i.payload m

each_there : (table : Table) (profile : Profile) (runs : List Run) → AllByRecursion (λ i. IsPayload (kind_in table i.tnf i.kind) profile i.payload) (map run_record runs) → AllByRecursion (λ r. MayBeItem true (number_with table) profile (run_record r)) runs
each_there table profile [] m = tt
each_there table profile (r ∷ runs) m = (λ _. there table profile (run_record r) m.0, each_there table profile runs m.1)

-- all pass a test that takes any
pub all_pass : (items : List Item) → filter (λ i. true) items ≡ items
all_pass [] = refl
all_pass (i ∷ items) = ap (λ xs. i ∷ xs) (all_pass items)

-- the records of a message within a payload, from a place on
pub record Within (table : Table) (profile : Profile) (payload : List ℕ) (start : ℕ) : Type 0 where
  pub inside : start ≤ length payload
  pub runs : List Run
  pub items : List Item
  pub message : HoldsRuns profile runs (drop start payload)
  pub pieces : MayBeInPieces profile items (drop start payload)
  pub count : length items ≡ length runs
  pub few : length items ≤ 65535
  pub walked : AreWalked payload start runs (length payload)
  pub each : AllByRecursion (λ r. MayBeItem true (number_with table) profile (run_record r)) runs

-- .. after the octets before it
after : (table : Table) (profile : Profile) (front s : List ℕ) → Nested table 65535 profile s → Within table profile (front ++ s) (length front)
after table profile front s (runs, items, by) =
    let m = by.spelling.message in
    let bytes = front ++ s in
    let back : s ≡ drop (length front) bytes = sym (drop_at front s (length front) refl) in
    let some : runs ≡ [] → ⊥ = λ e. subst (λ rs. BeginsOnce (all_pieces rs)) e m.begins in
    let w : AreWalked bytes (length front) runs (length front + length s) =
    walked profile runs bytes front s (length front) m.each_run by.spelling.spelled some m.ends [] (ap (λ x. front ++ x) (sym (append-nil s))) refl in
    record {
      inside = let n = length-append front s in omega (arith, n);
      runs = runs;
      items = items;
      message = subst (HoldsRuns profile runs) back (inr (items, by.spelling));
      pieces = subst (MayBeInPieces profile items) back (inr (record { runs = runs; spelling = by.spelling; single = by.single }));
      count = ap length (sym m.items) ∙ length-map runs run_record;
      few = by.few;
      walked = subst (AreWalked bytes (length front) runs) (sym (length-append front s)) w;
      each = each_there table profile runs (subst (AllByRecursion (λ i. IsPayload (kind_in table i.tnf i.kind) profile i.payload)) (sym m.items) by.contents.members);
    }

pub within_of : (table : Table) (profile : Profile) (payload : List ℕ) → IsNest table 65535 profile payload → Within table profile payload (message_at table)
within_of SmartPoster profile payload h = after SmartPoster profile [] payload h
within_of Request profile [] h = absurd h
within_of Request profile (version ∷ s) h = after Request profile (version ∷ []) s h.1
within_of Select profile [] h = absurd h
within_of Select profile (version ∷ s) (v, inl none) = record {
  inside = omega arith;
  runs = [];
  items = [];
  message = inl (refl, none);
  pieces = inl (refl, none);
  count = refl;
  few = omega arith;
  walked = let n = ap length none in omega (arith, n);
  each = tt;
}
within_of Select profile (version ∷ s) (v, inr n) = after Select profile (version ∷ []) s n

-- they may be given
pub listed : (table : Table) (profile : Profile) (m : Listing) (start : ℕ) → (w : Within table profile m.bytes.now (message_at table)) → m.looks ≡ true → m.within ≡ number_with table → start ≡ message_at table → AreListed profile m start w.runs (length m.bytes.now)
listed table profile m start w looks within at =
    let bytes = m.bytes.now in
    let each : (l : Bool) (k : ℕ) → l ≡ true → k ≡ number_with table → AllByRecursion (λ r. MayBeItem l k profile (run_record r)) w.runs = λ l k e f.
    subst (λ b. AllByRecursion (λ r. MayBeItem b k profile (run_record r)) w.runs) (sym e) (subst (λ n. AllByRecursion (λ r. MayBeItem true n profile (run_record r)) w.runs) (sym f) w.each) in
    record { walked = subst (λ k. AreWalked bytes k w.runs (length bytes)) (sym at) w.walked; inside = omega arith; each = each m.looks m.within looks within }

-- the number of those that are counted
pub counted : (table : Table) (profile : Profile) (payload : List ℕ) (count : ℕ) → (w : Within table profile payload (message_at table)) → count ≡ length (filter (λ i. true) w.items) → count ≡ length w.runs
counted table profile payload count w e = e ∙ ap length (all_pass w.items) ∙ w.count
