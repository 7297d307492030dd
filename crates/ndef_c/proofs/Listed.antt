-- The records of a message, given one after another.
use Rattle.std.proofs.Common.{◌≡◌, ℕ, ◌+◌, ◌<◌, ◌≤◌, ◌∷◌, [], drop, refl, sym, ◌∙◌, ap, subst, arith, List, ◌++◌, length, length-append, length-drop, append-nil, Bool, true, map, Option, Some, None, inl, inr}
use Rattle.std.proofs.Math.Seq.{take-length}
use Rattle.std.specs.List.{AllByRecursion}
use Rattle.ndef_format.specs.Accepted.{IsMember}
use Rattle.ndef_format.specs.Kinds.{kind_of, outer_kind}
use Rattle.ndef_format.specs.Limits.{LimitValues}
use Rattle.ndef_format.specs.Messages.{SpellsPieces, payload_of, run_record}
use Rattle.ndef_format.specs.Nested.{IsPayload, table_in}
use Rattle.ndef_format.specs.Payloads.{IsTypedBy, Sets}
use Rattle.ndef_format.specs.Records.{Piece, Run, pieces}
use Rattle.ndef_format.specs.declared.kind.Kind.{Kind}
use Rattle.ndef_format.specs.declared.kind.Kind.TheVariants as kinds
use Rattle.ndef_format.specs.declared.profile.Profile.{Profile}
use Rattle.ndef_format.specs.declared.table.Table.{Table}
use Rattle.ndef_format.specs.Reasons.{Conditions}
use Rattle.ndef_c.specs.Checks.{ChecksTo, TakesMessage}
use Rattle.ndef_c.specs.Items.{AreItems, AreListed, AreTyped, HasValue, MayBeItem, MayHaveValue}
use Rattle.ndef_c.specs.Kinds.{kind_number}
use Rattle.ndef_c.specs.Walks.{AreWalked, BeginsWithRun, IsRecordAt}
use Rattle.ndef_c.specs.declared.checking.NdefChecked.{NdefChecked}
use Rattle.ndef_c.specs.declared.items.Listing.{Listing}
use Rattle.ndef_c.specs.declared.items.NdefItem.{NdefItem}
use Rattle.ndef_c.specs.declared.items.Value.{Value}
use Rattle.ndef_c.specs.declared.record.NdefRecord.{NdefRecord}
use Rattle.ndef_c.specs.declared.status.TheConstants.{OK}
use Rattle.ndef_c.proofs.Followed.{initial_of, one_record, split_size}
use Rattle.ndef_c.proofs.Walked.{checks_walked}

-- ---- sizes

-- some pieces have more bytes than their payloads
pub sized : (ps : List Piece) (bytes : List ℕ) → SpellsPieces ps bytes → length (payload_of ps) + length ps ≤ length bytes
sized [] bytes s = omega arith
sized (p ∷ ps) bytes (short, front, rest, e, s, more) =
    let n = split_size p short rest bytes (record { front = front; spells = s; joined = e }) in
    let m = sized ps rest more in
    let a = length-append p.payload (payload_of ps) in
    omega (arith, n, m, a)

-- the payload of a record and its pieces are no more than its bytes
pub record_size : (bytes : List ℕ) (at : ℕ) (r : NdefRecord) → IsRecordAt bytes at r → r.payload_length + r.chunks ≤ length bytes
record_size bytes at r x =
    let n = sized (pieces x.run) x.begins.front x.begins.spelled in
    let j = ap length x.begins.joined in
    let a = length-append x.begins.front (drop r.end bytes) in
    let d = length-drop at bytes in
    let p = x.payload in
    let k = x.pieces_are in
    omega (arith, n, j, a, d, p, k)

-- the payload of a record in one piece
pub only_piece : (p : Piece) (ps : List Piece) → length (p ∷ ps) ≡ 1 → payload_of (p ∷ ps) ≡ p.payload
only_piece p [] e = append-nil p.payload
only_piece p (q ∷ ps) e = absurd (omega (arith, e))

-- ---- values

-- a payload of another kind has none
other_value : (profile : Profile) (kind : ℕ) (s : List ℕ) → 2 < kind → MayHaveValue profile kind s
other_value profile kind s h = (λ e. absurd (omega (arith, e, h)), λ e. absurd (omega (arith, e, h)))

-- a payload of a kind may have the value of that kind
pub kind_value : (kind : Kind) (profile : Profile) (s : List ℕ) → IsPayload kind profile s → MayHaveValue profile (kind_number kind) s
kind_value kinds.Other profile s m = (λ e. absurd (omega (arith, e)), λ e. absurd (omega (arith, e)))
kind_value kinds.Text profile s m = (λ e. m, λ e. absurd (omega (arith, e)))
kind_value kinds.Uri profile s m = (λ e. absurd (omega (arith, e)), λ e. m)
kind_value kinds.SmartPoster profile s m = other_value profile 3 s (omega arith)
kind_value kinds.Request profile s m = other_value profile 4 s (omega arith)
kind_value kinds.Select profile s m = other_value profile 5 s (omega arith)
kind_value kinds.Carrier profile s m = other_value profile 6 s (omega arith)
kind_value kinds.Action profile s m = other_value profile 7 s (omega arith)
kind_value kinds.Size profile s m = other_value profile 8 s (omega arith)
kind_value kinds.MediaType profile s m = other_value profile 9 s (omega arith)
kind_value kinds.Alternative profile s m = other_value profile 10 s (omega arith)
kind_value kinds.Collision profile s m = other_value profile 11 s (omega arith)
kind_value kinds.Error profile s m = other_value profile 12 s (omega arith)

-- .. also one that holds a message
typed_value : (kind : Kind) (table : Option Table) (records : ℕ) (profile : Profile) (s : List ℕ) → table_in kind ≡ table → IsTypedBy table kind records profile s → MayHaveValue profile (kind_number (outer_kind kind)) s
typed_value kind None records profile s e m = kind_value (outer_kind kind) profile s m
typed_value kinds.SmartPoster (Some t) records profile s e m = other_value profile 3 s (omega arith)
typed_value kinds.Request (Some t) records profile s e m = other_value profile 4 s (omega arith)
typed_value kinds.Select (Some t) records profile s e m = other_value profile 5 s (omega arith)
typed_value _ (Some t) records profile s e m = absurd (cc)

-- the payloads of a message that was checked
each_value : (looks : Bool) (set : Sets) (limits : LimitValues) → (looks ≡ true → AreTyped set) → (runs : List Run) → AllByRecursion (IsMember set limits) (map run_record runs) → AllByRecursion (λ r. MayBeItem looks 0 limits.profile (run_record r)) runs
each_value looks set limits t [] m = tt
each_value looks set limits t (r ∷ runs) m =
    let i = run_record r in
    let kind = kind_of i.tnf i.kind in
    (λ l. typed_value kind (table_in kind) limits.records limits.profile i.payload refl (t l limits i m.0), each_value looks set limits t runs m.1)

-- its records may be given
pub listed_of : (set : Sets) (holds : Conditions) (limits : LimitValues) (m : Listing) (out : NdefChecked) → m.within ≡ 0 → (m.looks ≡ true → AreTyped set) → (t : TakesMessage set holds limits m.bytes.now out)
    → AreListed limits.profile m 0 t.viewed.runs t.viewed.taken
listed_of set holds limits m out e typed t =
    let v = t.viewed in
    let bytes = m.bytes.now in
    record {
      walked = subst (λ s. AreWalked s 0 v.runs v.taken) (take-length bytes) (checks_walked set holds limits bytes v (length bytes) t.views t.views.0);
      inside = t.views.0;
      each = subst (λ k. AllByRecursion (λ r. MayBeItem m.looks k limits.profile (run_record r)) v.runs) (sym e)
          (each_value m.looks set limits typed v.runs t.views.1.0.members);
    }

-- ---- the walk

-- one more item
pub items_on : (Is : ℕ → Run → NdefItem → Type 0) (from at : ℕ) (runs : List Run) (items : List NdefItem) (r : Run) (i : NdefItem) → AreItems Is from runs items at → Is at r i → AreItems Is from (runs ++ r ∷ []) (items ++ i ∷ []) i.end
items_on Is from at [] [] r i a h = (subst (λ k. Is k r i) (sym a) h, refl)
items_on Is from at [] (j ∷ items) r i a h = absurd a
items_on Is from at (q ∷ runs) [] r i a h = absurd a
items_on Is from at (q ∷ runs) (j ∷ items) r i a h = (a.0, items_on Is j.end at runs items r i a.1 h)

-- there is one for each run
pub items_count : (Is : ℕ → Run → NdefItem → Type 0) (from at : ℕ) (runs : List Run) (items : List NdefItem) → AreItems Is from runs items at → length items ≡ length runs
items_count Is from at [] [] a = refl
items_count Is from at [] (j ∷ items) a = absurd a
items_count Is from at (q ∷ runs) [] a = absurd a
items_count Is from at (q ∷ runs) (j ∷ items) a = let n = items_count Is j.end at runs items a.1 in omega (arith, n)

-- what is walked begins within the bytes
walk_within : (bytes : List ℕ) (at : ℕ) (rs : List Run) (end : ℕ) → AreWalked bytes at rs end → end ≤ length bytes → at ≤ length bytes
walk_within bytes at [] end w h = omega (arith, w, h)
walk_within bytes at (r ∷ rs) end w h =
    let i = initial_of r (drop w.0 bytes) (drop at bytes) w.1 in
    let n = split_size r.initial i.short i.following (drop at bytes) i.split in
    let k = length-drop at bytes in
    omega (arith, n, k)

-- the record that begins where others are left is the first of them
pub record Step (bytes : List ℕ) (at : ℕ) (left : List Run) (end : ℕ) (r : NdefRecord) (x : IsRecordAt bytes at r) : Type 0 where
  pub more : List Run
  pub are : left ≡ x.run ∷ more
  pub walked : AreWalked bytes r.end more end

pub step : (bytes : List ℕ) (at : ℕ) (left : List Run) (end : ℕ) (r : NdefRecord) → AreWalked bytes at left end → end ≤ length bytes → 0 < length left → (x : IsRecordAt bytes at r) → Step bytes at left end r x
step bytes at [] end r w h some x = absurd (omega (arith, some))
step bytes at (q ∷ more) end r w h some x =
    let o = one_record q x.run (drop w.0 bytes) (drop r.end bytes) (drop at bytes) w.1 x.begins in
    let n = walk_within bytes w.0 more end w.3 h in
    let e = ap length o.1 in
    let a = length-drop w.0 bytes in
    let b = length-drop r.end bytes in
    let m = x.within in
    let k : w.0 ≡ r.end = omega (arith, n, e, a, b, m) in
    record { more = more; are = ap (λ y. y ∷ more) o.0; walked = subst (λ y. AreWalked bytes y more end) k w.3 }

pub there : (bytes : List ℕ) (at : ℕ) (left : List Run) (end : ℕ) → AreWalked bytes at left end → 0 < length left → (run : Run) × (rest : List ℕ) × BeginsWithRun run rest (drop at bytes)
there bytes at [] end w some = absurd (omega (arith, some))
there bytes at (q ∷ more) end w some = (q, drop w.0 bytes, w.1)

-- at a place is one record, which ends at one place
pub same_end : (bytes : List ℕ) (at : ℕ) (r s : NdefRecord) → IsRecordAt bytes at r → IsRecordAt bytes at s → r.end ≡ s.end
same_end bytes at r s x y =
    let o = one_record x.run y.run (drop r.end bytes) (drop s.end bytes) (drop at bytes) x.begins y.begins in
    let e = ap length o.1 in
    let a = length-drop r.end bytes in
    let b = length-drop s.end bytes in
    let m = x.within in
    let n = y.within in
    omega (arith, e, a, b, m, n)

-- where none are left, all are told
pub all_reported : (Is : ℕ → Run → NdefItem → Type 0) (bytes : List ℕ) (start at : ℕ) (runs done left : List Run) (reported : List NdefItem) (end : ℕ) → AreItems Is start done reported at → runs ≡ done ++ left → AreWalked bytes at left end → length left ≡ 0
    → AreItems Is start runs reported end
all_reported Is bytes start at runs done [] reported end a e w n = subst (λ rs. AreItems Is start rs reported end) (sym (e ∙ append-nil done)) (subst (AreItems Is start done reported) w a)
all_reported Is bytes start at runs done (q ∷ left) reported end a e w n = absurd (omega (arith, n))

-- what is said of a value, of the same words
pub same_value : (looks : Bool) (profile : Profile) (k l a b p q : ℕ) (payload : List ℕ) (v w : Value) → l ≡ k → b ≡ a → q ≡ p → w ≡ v → HasValue looks profile k a p payload v → HasValue looks profile l b q payload w
same_value looks profile k l a b p q payload v w e f g h x =
    subst (λ y. HasValue looks profile l b q payload y) (sym h)
    (subst (λ y. HasValue looks profile l b y payload v) (sym g) (subst (λ y. HasValue looks profile l y p payload v) (sym f) (subst (λ y. HasValue looks profile y a p payload v) (sym e) x)))

-- a check that answers so took a message
pub taken_of : (set : Sets) (holds : Conditions) (limits : LimitValues) (bytes : List ℕ) (status : ℕ) (out : NdefChecked) → ChecksTo set holds limits bytes status out → status ≡ OK → TakesMessage set holds limits bytes out
taken_of set holds limits bytes status out (inl c) e = c.1
taken_of set holds limits bytes status out (inr c) e = let r = c.0 in absurd (omega (arith, r, e))
