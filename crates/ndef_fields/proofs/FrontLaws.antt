-- The fields of a message, of a front of one and of a payload: there is one list of them, and it covers them.
use Rattle.std.proofs.Common.{◌≡◌, ℕ, ◌+◌, ◌<◌, Option, Some, None, refl, sym, ◌∙◌, ap, ap₂, subst, arith, List, [], ◌∷◌, ◌++◌, length, length-append, length-take-le, map, take, drop, take_at, drop_at, append_assoc}
use Rattle.std.specs.List.{AllByRecursion}
use Rattle.std.proofs.lemmas.List.{append-nil, drop-drop, take-append-drop}
use Rattle.ndef_piece.specs.ComeLaws.{same_front}
use Rattle.ndef_format.specs.Messages.{SpellsPieces, all_pieces}
use Rattle.ndef_format.specs.Kinds.{outer_kind}
use Rattle.ndef_format.specs.Nested.{kind_in, table_in}
use Rattle.ndef_format.specs.Records.{Piece}
use Rattle.ndef_format.specs.declared.kind.Kind.{Kind}
use Rattle.ndef_format.specs.declared.table.Table.{Table}
use Rattle.ndef_message.specs.Machine.SeenLaws.{same_split}
use Rattle.ndef_piece.specs.Whole.{BeginWithPiece, IsSplit}
use Rattle.ndef_fields.specs.declared.name.FieldName.TheVariants as names
use Rattle.ndef_fields.specs.Fronts.{AreFrontBy, AreFrontParts, AreNestedFront, ArePayloadFront, content_come, front_parts, inner_come, kind_begun, kind_come, tnf_come}
use Rattle.ndef_fields.specs.Messages.{AreNestedParts, AreParts, ArePartsBy, IsInnerOwn, version_length}
use Rattle.ndef_fields.specs.Parts.{Part, joined, placed, reported}
use Rattle.ndef_message.specs.Machine.Seen.{ArePieces}
use Rattle.ndef_fields.specs.Refusals.{AreWholeBefore}
use Rattle.ndef_fields.specs.Reports.{AreFields}
use Rattle.ndef_fields.specs.Walks.{inner_in, outer_in}
use Rattle.ndef_fields.specs.declared.field.Field.{Field}
use Rattle.ndef_format.specs.Limits.{LimitValues}
use Rattle.ndef_fields.specs.FieldLaws.{AreGapless, FieldsAreSlices, FieldsFollow, FrontFieldsAreSlices, FrontFieldsFollow, OneFrontReport, OnePayloadReport, PayloadFieldsAreSlices, PayloadFieldsFollow, PayloadsAreExact}
use Rattle.ndef_fields.proofs.Filled.{Anywhere, Fill, fill_append, fill_cut, fill_front, fill_inner, fill_leaf, fill_outer, nothing}
use Rattle.ndef_fields.proofs.Members.{HoldsPiecesBy, payload_holds}
use Rattle.ndef_fields.proofs.Pieces.{inner_are, outer_are}
use Rattle.ndef_fields.proofs.Walks.{empty_begins}

-- ---- what lies before one rest

-- the whole pieces at the front of some bytes, and what follows them
pub record SameWhole (ps qs : List Piece) (x y r t : List ℕ) : Type 0 where
  pub pieces : ps ≡ qs
  pub front : x ≡ y
  pub rest : r ≡ t

begins_on : (p : Piece) (ps : List Piece) (x y r t : List ℕ) → SpellsPieces (p ∷ ps) x → y ≡ [] → x ++ r ≡ y ++ t → BeginWithPiece t
begins_on p ps x y r t (short, front, rest, ex, sp, s) none e = record {
  piece = p;
  short = short;
  rest = rest ++ r;
  split = record { front = front; spells = sp; joined = sym (ap (λ z. z ++ t) none) ∙ sym e ∙ ap (λ z. z ++ r) ex ∙ append_assoc front rest r };
}

pub same_pieces : (ps qs : List Piece) (x y r t : List ℕ) → SpellsPieces ps x → SpellsPieces qs y → x ++ r ≡ y ++ t
    → ¬ BeginWithPiece r → ¬ BeginWithPiece t → SameWhole ps qs x y r t
same_pieces [] [] x y r t a b e h k = record { pieces = refl; front = a ∙ sym b; rest = sym (ap (λ z. z ++ r) a) ∙ e ∙ ap (λ z. z ++ t) b }
same_pieces (p ∷ ps) [] x y r t a b e h k = absurd (k (begins_on p ps x y r t a b e))
same_pieces [] (q ∷ qs) x y r t a b e h k = absurd (h (begins_on q qs y x t r b a (sym e)))
same_pieces (p ∷ ps) (q ∷ qs) x y r t (short, front, rest, ex, sp, s) (form, first, later, ey, tp, u) e h k =
    let a : IsSplit p short (rest ++ r) (x ++ r) = record { front = front; spells = sp; joined = ap (λ z. z ++ r) ex ∙ append_assoc front rest r } in
    let b : IsSplit q form (later ++ t) (x ++ r) = record { front = first; spells = tp; joined = e ∙ ap (λ z. z ++ t) ey ∙ append_assoc first later t } in
    let same = same_split p q short form (rest ++ r) (later ++ t) (x ++ r) a b in
    let i = same_pieces ps qs rest later r t s u same.1 h k in
    record { pieces = ap₂ (λ p ps. p ∷ ps) same.0 i.pieces; front = same_front x y t (y ++ t) (sym e ∙ ap (λ z. x ++ z) i.rest) refl; rest = i.rest }

same_whole : (bytes r t : List ℕ) (a : AreWholeBefore bytes r) (b : AreWholeBefore bytes t) → SameWhole a.pieces b.pieces a.front b.front r t
same_whole bytes r t a b = same_pieces a.pieces b.pieces a.front b.front r t a.spelled b.spelled (sym a.split ∙ b.split) a.ended b.ended

-- ---- there is one list

one_nested : (table : Table) (bytes : List ℕ) (xs ys : List Part) → AreNestedFront table bytes xs → AreNestedFront table bytes ys → xs ≡ ys
one_nested table bytes xs ys a b =
    let same = same_whole bytes a.rest b.rest a.whole b.whole in
    let before : a.before ≡ b.before =
    inner_are table a.whole.pieces a.whole.front a.before a.spelled ∙ ap (inner_in table) same.front ∙ sym (inner_are table b.whole.pieces b.whole.front b.before b.spelled) in
    a.parts_are ∙ ap₂ (λ x r. x ++ front_parts 1 r (inner_come table r)) before same.rest ∙ sym b.parts_are

one_by : (table : Option Table) (kind : Kind) (s : List ℕ) (xs ys : List Part) → AreFrontBy table kind s xs → AreFrontBy table kind s ys → xs ≡ ys
one_by (Some table) kind s xs ys (x, e, a) (y, f, b) =
    let k = version_length table in
    e ∙ ap (λ z. reported 0 names.Version (take k s) ++ z) (one_nested table (drop k s) x y a b) ∙ sym f
one_by None kind s xs ys a b = a ∙ sym b

one_payload : (kind : Kind) (s : List ℕ) (xs ys : List Part) → ArePayloadFront kind s xs → ArePayloadFront kind s ys → xs ≡ ys
one_payload kind = one_by (table_in kind) kind

one_front : (bytes : List ℕ) (xs ys : List Part) → AreFrontParts bytes xs → AreFrontParts bytes ys → xs ≡ ys
one_front bytes xs ys a b =
    let same = same_whole bytes a.rest b.rest a.whole b.whole in
    let before : a.before ≡ b.before =
    outer_are a.whole.pieces a.whole.front a.before a.spelled ∙ ap outer_in same.front ∙ sym (outer_are b.whole.pieces b.whole.front b.before b.spelled) in
    let content = subst (λ r. ArePayloadFront (kind_begun r) (content_come r) a.payload) same.rest a.content in
    a.parts_are
    ∙ ap₂ (λ x y. x ++ y) before (ap₂ (front_parts 0) same.rest (one_payload (kind_begun b.rest) (content_come b.rest) a.payload b.payload content b.content))
    ∙ sym b.parts_are

-- ---- they fill the bytes

-- parts before the last front, and its own
filled : (bytes front rest : List ℕ) (parts before last : List Part) → bytes ≡ front ++ rest → parts ≡ before ++ last → Fill Anywhere front before → Fill Anywhere rest last
    → Fill Anywhere bytes parts
filled bytes front rest parts before last e p f l = rw (e, p) (fill_append Anywhere front rest before last f l)

nested_fill : (table : Table) (bytes : List ℕ) (parts : List Part) → AreNestedFront table bytes parts → Fill Anywhere bytes parts
nested_fill table bytes parts n =
    let w = n.whole in
    filled bytes w.front n.rest parts n.before (front_parts 1 n.rest (inner_come table n.rest)) w.split n.parts_are
    (subst (Fill Anywhere w.front) (sym (inner_are table w.pieces w.front n.before n.spelled)) (fill_inner Anywhere tt table w.front))
    (fill_front Anywhere 1 tt n.rest (inner_come table n.rest) (fill_leaf Anywhere 1 tt (kind_in table (tnf_come n.rest) (kind_come n.rest)) (content_come n.rest)))

by_fill : (table : Option Table) (kind : Kind) (s : List ℕ) (parts : List Part) → AreFrontBy table kind s parts → Fill Anywhere s parts
by_fill (Some table) kind s parts (inner, e, n) =
    let k = version_length table in
    subst (Fill Anywhere s) (sym e) (fill_cut Anywhere 0 tt names.Version k s inner (nested_fill table (drop k s) inner n))
by_fill None kind s parts h = subst (Fill Anywhere s) (sym h) (fill_leaf Anywhere 0 tt (outer_kind kind) s)

pub payload_fill : (kind : Kind) (s : List ℕ) (parts : List Part) → ArePayloadFront kind s parts → Fill Anywhere s parts
payload_fill kind = by_fill (table_in kind) kind

front_fill : (bytes : List ℕ) (parts : List Part) → AreFrontParts bytes parts → Fill Anywhere bytes parts
front_fill bytes parts f =
    let w = f.whole in
    filled bytes w.front f.rest parts f.before (front_parts 0 f.rest f.payload) w.split f.parts_are
    (subst (Fill Anywhere w.front) (sym (outer_are w.pieces w.front f.before f.spelled)) (fill_outer Anywhere tt tt w.front))
    (fill_front Anywhere 0 tt f.rest f.payload (payload_fill (kind_begun f.rest) (content_come f.rest) f.payload f.content))

message_fill : (limits : LimitValues) (input : List ℕ) (fields : List Field) (a : AreFields limits input fields) → Fill Anywhere (take a.count input) a.parts
message_fill limits input fields a =
    let bytes = take a.count input in
    subst (Fill Anywhere bytes) (sym (outer_are (all_pieces a.accepted.runs) bytes a.parts a.spelled)) (fill_outer Anywhere tt tt bytes)

-- ---- so they follow one another, and are slices

follow_from : (at : ℕ) (parts : List Part) → AllByRecursion (λ part. (0 < length part.octets) × Anywhere part.depth) parts
    → AreGapless at (placed at parts) (at + length (joined parts))
follow_from at [] h = omega arith
follow_from at (part ∷ parts) h =
    let n = length-append part.octets (joined parts) in
    let e : at + length part.octets + length (joined parts) ≡ at + length (part.octets ++ joined parts) = omega (arith, n) in
    (refl, h.0.0, subst (AreGapless (at + length part.octets) (placed (at + length part.octets) parts)) e (follow_from (at + length part.octets) parts h.1))

follow : (s : List ℕ) (parts : List Part) (fields : List Field) → Fill Anywhere s parts → fields ≡ placed 0 parts → AreGapless 0 fields (length s)
follow s parts fields f e =
    let n = ap length f.octets_are in
    let m : 0 + length (joined parts) ≡ length s = omega (arith, n) in
    rw e (subst (AreGapless 0 (placed 0 parts)) m (follow_from 0 parts f.each))

slices_from : (at : ℕ) (parts : List Part) (input rest : List ℕ) → drop at input ≡ joined parts ++ rest
    → map (λ f. take f.length (drop f.at input)) (placed at parts) ≡ map (λ part. part.octets) parts
slices_from at [] input rest e = refl
slices_from at (part ∷ parts) input rest e =
    let whole : drop at input ≡ part.octets ++ (joined parts ++ rest) = e ∙ append_assoc part.octets (joined parts) rest in
    let first : take (length part.octets) (drop at input) ≡ part.octets = ap (take (length part.octets)) whole ∙ take_at part.octets (joined parts ++ rest) _ refl in
    let next : drop (at + length part.octets) input ≡ joined parts ++ rest =
    sym (drop-drop (length part.octets) at input) ∙ ap (drop (length part.octets)) whole ∙ drop_at part.octets (joined parts ++ rest) _ refl in
    ap₂ (λ x y. x ∷ y) first (slices_from (at + length part.octets) parts input rest next)

slices : (input s rest : List ℕ) (parts : List Part) (fields : List Field) → input ≡ s ++ rest → Fill Anywhere s parts → fields ≡ placed 0 parts
    → map (λ f. take f.length (drop f.at input)) fields ≡ map (λ part. part.octets) parts
slices input s rest parts fields e f p = rw p (slices_from 0 parts input rest (e ∙ ap (λ x. x ++ rest) (sym f.octets_are)))

-- ---- the laws

pub fields_follow : FieldsFollow
fields_follow limits input fields a =
    subst (AreGapless 0 fields) (length-take-le a.count input a.within) (follow (take a.count input) a.parts fields (message_fill limits input fields a) a.placed)

pub fields_are_slices : FieldsAreSlices
fields_are_slices limits input fields a =
    slices input (take a.count input) (drop a.count input) a.parts fields (sym (take-append-drop a.count input)) (message_fill limits input fields a) a.placed

pub one_front_report : OneFrontReport
one_front_report bytes reported other a b = a.placed ∙ ap (placed 0) (one_front bytes a.parts b.parts a.spelled b.spelled) ∙ sym b.placed

pub front_fields_follow : FrontFieldsFollow
front_fields_follow bytes reported a = follow bytes a.parts reported (front_fill bytes a.parts a.spelled) a.placed

pub front_fields_are_slices : FrontFieldsAreSlices
front_fields_are_slices bytes reported a = slices bytes bytes [] a.parts reported (sym (append-nil bytes)) (front_fill bytes a.parts a.spelled) a.placed

pub one_payload_report : OnePayloadReport
one_payload_report kind s reported other a b = a.placed ∙ ap (placed 0) (one_payload kind s a.parts b.parts a.spelled b.spelled) ∙ sym b.placed

pub payload_fields_follow : PayloadFieldsFollow
payload_fields_follow kind s reported a = follow s a.parts reported (payload_fill kind s a.parts a.spelled) a.placed

pub payload_fields_are_slices : PayloadFieldsAreSlices
payload_fields_are_slices kind s reported a = slices s s [] a.parts reported (sym (append-nil s)) (payload_fill kind s a.parts a.spelled) a.placed

-- ---- payloads

-- where all bytes are those of whole pieces, nothing follows them
no_rest : (ps : List Piece) (bytes rest : List ℕ) → SpellsPieces ps bytes → (w : AreWholeBefore bytes rest) → SameWhole w.pieces ps w.front bytes rest []
no_rest ps bytes rest s w =
    same_pieces w.pieces ps w.front bytes rest [] w.spelled s (sym w.split ∙ sym (append-nil bytes)) w.ended empty_begins

-- a front of a nested message that is all of it
nested_whole : (table : Table) (bytes : List ℕ) (parts : List Part) → ArePieces bytes → AreNestedFront table bytes parts → AreNestedParts table bytes parts
nested_whole table bytes parts (ps, s) n =
    let same = no_rest ps bytes n.rest s n.whole in
    let e : parts ≡ n.before =
    n.parts_are ∙ ap (λ r. n.before ++ front_parts 1 r (inner_come table r)) same.rest
    ∙ ap (λ x. n.before ++ x) (nothing Anywhere (inner_come table []) (fill_leaf Anywhere 1 tt (kind_in table (tnf_come []) []) []))
    ∙ append-nil n.before in (
      n.whole.pieces,
      subst (AreParts 1 (IsInnerOwn table) n.whole.pieces bytes) (sym e)
          (subst (λ x. AreParts 1 (IsInnerOwn table) n.whole.pieces x n.before) same.front n.spelled),
    )

whole_by : (table : Option Table) (kind : Kind) (s : List ℕ) (parts : List Part) → HoldsPiecesBy table s → AreFrontBy table kind s parts → ArePartsBy table kind s parts
whole_by (Some table) kind s parts a (inner, e, n) = (inner, e, nested_whole table (drop (version_length table) s) inner a n)
whole_by None kind s parts a h = h

pub payload_reported_so : PayloadsAreExact
payload_reported_so kind records profile s reported valid a = whole_by (table_in kind) kind s a.parts (payload_holds kind records profile s valid) a.spelled
