-- Whole records at once.
use Rattle.std.proofs.Common.{◌≡◌, ℕ, ◌+◌, ◌-◌, ◌<◌, ◌≤◌, ◌^◌, append_assoc, inl, inr, Bool, true, false, refl, sym, ◌∙◌, ap, subst, arith, List, [], ◌∷◌, ◌++◌, length, take, length-append, Option, Some, None}
use Rattle.std.specs.Prelude.{is_some, if◌then◌else◌}
use Rattle.std.proofs.lemmas.List.{length-take-le, append-nil}
use Rattle.std.proofs.Math.Seq.{take-append_seam, take-append-add}
use Rattle.ndef_format.specs.declared.tnf.Tnf.TheVariants.{Empty}
use Rattle.ndef_format.specs.declared.tnf.Tnf.{Tnf}
use Rattle.ndef_lang.specs.RecordLanguage.{TakesOthers}
use Rattle.ndef_format.specs.Records.{HasShape, Piece, AreOctets, SpellsPiece, body, fields, octets, tnf_of}
use Rattle.ndef_format.specs.Canonical.{IsItem}
use Rattle.ndef_format.specs.Messages.{Item, SpellsPieces}
use Rattle.ndef_format.specs.Limits.{LimitValues, AreInRange}
use Rattle.ndef_value.specs.ListLaws.{octets_append}
use Rattle.ndef_value.specs.TnfLaws.{changed_name}
use Rattle.ndef_format.specs.declared.profile.Profile.{Profile}
use Rattle.ndef_lang.specs.declared.record_language.RecordLanguage.{Ghosts}
use Rattle.ndef_format.specs.Payloads.{Sets}
use Rattle.ndef_lang.specs.StepLaws.{rest, rest_length, take_rests}
use Rattle.ndef_format.specs.HeadReasons.{is_set, tnf_number}
use Rattle.ndef_format.specs.Positions.{IsOpen}
use Rattle.ndef_format.specs.Positions as pieces
use Rattle.ndef_piece.specs.Walk.{Before, start, spot, ending_record, record_with, after, inside, outside, Walked}
use Rattle.ndef_piece.specs.Whole.{IsSplit, shown}
use Rattle.ndef_piece.specs.declared.head_reader.Step.TheVariants as steps
use Rattle.ndef_piece.specs.declared.whole.WholePiece.{WholePiece}
use Rattle.ndef_format.specs.Accepted.{IsMember, IsViable}
use Rattle.ndef_message.specs.Machine.Fronts.{Fronts, IsReachable, ForEachInput}
use Rattle.ndef_message.specs.Machine.Points.{Point, InHead, AtEnd, IsAtPoint}
use Rattle.ndef_message.specs.Machine.Accepted.{AreTakenRecords, BeginsWith, Comes, EndsRecords, EndsRun, RunGoesOn, IsAfter, IsFresh, IsTakenRecord, IsRunEnd, IsReachableBetween, record_of, with_payload}
use Rattle.ndef_message.specs.Machine.Format.{FormatLaws}
use Rattle.ndef_message.specs.Machine.State.{numbers, spot_of, past_chunk, after_record, IsConsistentAt, MatchesInput}
use Rattle.ndef_message.specs.declared.phase.Place.{Place}
use Rattle.ndef_message.specs.declared.phase.Phase.TheVariants as phases
use Rattle.ndef_message.specs.declared.state.State.{State}
use Rattle.ndef_message.proofs.Bodies.{Finished, nothing, close, ended_none, ended_one, after_chunk, after_end}
use Rattle.ndef_message.proofs.Ended.{viable_bounded, greatest_small}
use Rattle.ndef_message.proofs.Entered.{given_members}
use Rattle.ndef_message.proofs.Octets.{at_head}
use Rattle.ndef_message.proofs.Rests.{spell_append, walked_snoc, members_append}
use Rattle.ndef_message.proofs.Viable.{viable}

-- a member, by the same kind and limits
pub member_at : (set : Sets) (tnf tnf' : Tnf) (name : List ℕ) (records records' : ℕ) (profile profile' : Profile) (s : List ℕ) → tnf ≡ tnf' → records ≡ records' → profile ≡ profile' → set tnf name records profile s → set tnf' name records' profile' s
member_at set tnf tnf' name records records' profile profile' s et en ep h =
    subst (λ t. set t name records' profile' s) et (subst (λ n. set tnf name n profile' s) en (subst (λ p. set tnf name records p s) ep h))

-- ---- pieces

-- what is in front of what is left
pub front_of : (bytes front rest : List ℕ) (n : ℕ) → bytes ≡ front ++ rest → n ≡ length bytes - length rest → (n ≤ length bytes) × (take n bytes ≡ front)
front_of bytes front rest n e is =
    let l : length bytes ≡ length front + length rest = omega (arith, ap length e, length-append front rest) in
    let m : n ≡ length front = omega arith in
    (omega arith, ap (λ n. take n bytes) m ∙ ap (take (length front)) e ∙ take-append_seam front rest)

-- what is in front of what is left, and more of it
front_and : (bytes front rest : List ℕ) (n k : ℕ) → bytes ≡ front ++ rest → n ≡ length bytes - length rest → k ≤ length rest → (n + k ≤ length bytes) × (take (n + k) bytes ≡ front ++ take k rest)
front_and bytes front rest n k e is small =
    let l : length bytes ≡ length front + length rest = omega (arith, ap length e, length-append front rest) in
    let m : n ≡ length front = omega arith in
    (omega arith, ap (λ n. take (n + k) bytes) m ∙ ap (take (length front + k)) e ∙ take-append-add front rest k)

pub spelled_one : (p : Piece) (short : Bool) (front : List ℕ) → SpellsPiece p short front → SpellsPieces (p ∷ []) front
spelled_one p short front s = (short, front, [], sym (append-nil front), s, refl)

pub walked_append : (limits : LimitValues) (ps qs : List Piece) (b c d : Before) (given items : List Item) → Walked limits b ps given c → Walked limits c qs items d → Walked limits b (ps ++ qs) (given ++ items) d
walked_append limits [] qs b c d given items w x =
    subst (λ g. Walked limits b qs (g ++ items) d) (sym w.0) (subst (λ y. Walked limits y qs items d) w.1 x)
walked_append limits (p ∷ ps) qs b c d given items w x =
    (w.0, w.1, w.2 ++ items, ap (λ z. z ++ items) w.3 ∙ append_assoc (ending_record b p) w.2 items, walked_append limits ps qs (after limits b p) c d w.2 items w.4 x)

-- a piece that ends its record
walked_end : (limits : LimitValues) (c : Before) (p : Piece) → c.over ≡ false → pieces.IsConsistentAt (spot limits.profile c) p → p.chunked ≡ false
    → Walked limits c (p ∷ []) (record_with c.begun p ∷ []) (outside limits false p.last (c.records - 1))
walked_end limits c p o s e =
    let w = walked_snoc limits [] c c [] p (refl, refl) o s in
    subst (Walked limits c (p ∷ []) (record_with c.begun p ∷ [])) (after_end limits c p e) (subst (λ x. Walked limits c (p ∷ []) x (after limits c p)) (ended_one c p e) w)

-- a piece that doesn't end its record
walked_on : (limits : LimitValues) (c : Before) (p : Piece) → c.over ≡ false → pieces.IsConsistentAt (spot limits.profile c) p → p.chunked ≡ true
    → Walked limits c (p ∷ []) [] (inside c.records (c.pieces - 1) (c.room - length p.payload) (record_with c.begun p))
walked_on limits c p o s e =
    let w = walked_snoc limits [] c c [] p (refl, refl) o s in
    subst (Walked limits c (p ∷ []) []) (after_chunk limits c p e) (subst (λ x. Walked limits c (p ∷ []) x (after limits c p)) (ended_none c p e) w)

-- the bytes after a piece are fewer
pub split_shorter : (p : Piece) (short : Bool) (rest bytes : List ℕ) → IsSplit p short rest bytes → length rest + 1 ≤ length bytes
split_shorter p short rest bytes split =
    let long : 1 ≤ length (octets (fields p short) ++ body p) = omega arith in
    omega (arith, long, ap length split.spells.spelled, ap length split.joined, length-append split.front rest)

-- ---- a record in one piece

-- what it is
pub record_is : (w : WholePiece) → (is_set 3 w.header ≡ false → w.id.now ≡ []) → record_of w ≡ record_with None (shown w)
record_is w none = by_flag (is_set 3 w.header) refl
  where
    by_flag : (there : Bool) → is_set 3 w.header ≡ there → record_of w ≡ record_with None (shown w)
    by_flag true e = rw e refl
    by_flag false e = rw e (ap (λ id. record { tnf = tnf_of (tnf_number w.header); kind = w.kind.now; id = id; payload = w.payload.now }) (none e))

module _ (set : Sets) (limits : LimitValues) (place : Place) (bytes : List ℕ) (w : WholePiece) (taken : ℕ) (b : BeginsWith set limits place bytes w) (is : taken ≡ length bytes - length w.rest.now) where
  abbrev p : Piece
  p = shown w

  pub one_record : (c : Before) → place ≡ numbers c → c.begun ≡ None → c.over ≡ false → EndsRecords set limits c (record_of w ∷ []) (c.records - 1) (is_set 6 w.header) (take taken bytes)
  one_record c e none over =
      let f = front_of bytes b.split.front w.rest.now taken b.split.joined is in
      let item : record_with c.begun p ≡ record_of w = ap (λ m. record_with m p) none ∙ sym (record_is w b.no_id) in
      record {
        pieces = p ∷ [];
        spelled = subst (SpellsPieces (p ∷ [])) (sym f.1) (spelled_one p (is_set 4 w.header) b.split.front b.split.spells);
        walked = subst (λ m. Walked limits c (p ∷ []) (m ∷ []) (outside limits false p.last (c.records - 1))) item
            (walked_end limits c p over (subst (λ x. pieces.IsConsistentAt (spot_of limits.profile x) p) e b.stands) b.one);
        members = (b.member, tt);
      }

  pub record_from : IsTakenRecord set limits place bytes taken (is_set 6 w.header)
  record_from =
      let short = split_shorter p (is_set 4 w.header) w.rest.now bytes b.split in
      record { some = omega arith; within = omega arith; outer = b.outer; ends = λ c e none over. (record_of w, one_record c e none over) }

  -- its parts are those of a record
  pub is_item : IsItem (record_of w)
  is_item =
      let q = b.split.spells.piece in
      let initial = b.stands.initial b.outer in
      let same = record_is w b.no_id in
      let id = ap (λ m. m.id) same in
      record {
        shaped = record {
          changed = changed_name p.tnf q.tnf initial.0.changed;
          shape = subst (λ m. HasShape m.tnf (length m.kind) (length m.id) (length m.payload)) (sym same) initial.1;
        };
        lengths = record { kind = q.kind_length; id = subst (λ x. length x < 256) (sym id) q.id_length; payload = q.payload_length };
        kind = q.kind;
        id = subst AreOctets (sym id) q.id;
        payload = q.payload;
      }

-- ---- a record in pieces
pub run_start : (limits : LimitValues) (records count room : ℕ) (m : Item) (place : Place) (bytes : List ℕ) → place ≡ numbers (inside records count room m) → RunGoesOn limits (inside records count room m) m place bytes bytes
run_start limits records count room m place bytes e =
    let same : with_payload m [] ≡ m = ap (λ z. record { tnf = m.tnf; kind = m.kind; id = m.id; payload = z }) (append-nil m.payload) in
    record {
      later = [];
      payload = [];
      front = [];
      pieces_left = count;
      room_left = room;
      place_is = e;
      joined = refl;
      octets = tt;
      spelled = refl;
      walked = (refl, ap (inside records count room) same);
    }

module _ (limits : LimitValues) (records count room : ℕ) (m : Item) (bytes rest : List ℕ) (place : Place) (g : RunGoesOn limits (inside records count room m) m place bytes rest)
    (p : Piece) (short : Bool) (following : List ℕ) (split : IsSplit p short following rest) (stands : pieces.IsConsistentAt (spot_of limits.profile place) p) where
  abbrev c : Before
  c = inside records g.pieces_left g.room_left (with_payload m g.payload)

  abbrev more : Item
  more = with_payload m (g.payload ++ p.payload)

  more_is : record_with (Some (with_payload m g.payload)) p ≡ more
  more_is = ap (λ z. record { tnf = m.tnf; kind = m.kind; id = m.id; payload = z }) (append_assoc m.payload g.payload p.payload)

  at_c : pieces.IsConsistentAt (spot limits.profile c) p
  at_c = subst (λ x. pieces.IsConsistentAt (spot_of limits.profile x) p) g.place_is stands

  all_joined : bytes ≡ (g.front ++ split.front) ++ following
  all_joined = g.joined ∙ ap (λ x. g.front ++ x) split.joined ∙ sym (append_assoc g.front split.front following)

  all_spelled : SpellsPieces (g.later ++ p ∷ []) (g.front ++ split.front)
  all_spelled = spell_append g.later (p ∷ []) g.front split.front g.spelled (spelled_one p short split.front split.spells)

  pub run_on : (place' : Place) → p.chunked ≡ true → place' ≡ past_chunk place (length p.payload) → RunGoesOn limits (inside records count room m) m place' bytes following
  run_on place' e is = record {
    later = g.later ++ p ∷ [];
    payload = g.payload ++ p.payload;
    front = g.front ++ split.front;
    pieces_left = g.pieces_left - 1;
    room_left = g.room_left - length p.payload;
    place_is = is ∙ ap (λ x. past_chunk x (length p.payload)) g.place_is;
    joined = all_joined;
    octets = octets_append g.payload p.payload g.octets split.spells.piece.payload;
    spelled = all_spelled;
    walked = walked_append limits g.later (p ∷ []) (inside records count room m) c (inside records (g.pieces_left - 1) (g.room_left - length p.payload) more) [] [] g.walked
        (subst (λ x. Walked limits c (p ∷ []) [] (inside records (g.pieces_left - 1) (g.room_left - length p.payload) x)) more_is (walked_on limits c p refl at_c e));
  }

  pub run_end : (n : ℕ) → p.chunked ≡ false → n ≡ length bytes - length following → (n ≤ length bytes) × EndsRun limits records count room m (take n bytes) p.last
  run_end n e is =
      let f = front_of bytes (g.front ++ split.front) following n all_joined is in (
        f.0,
        record {
          later = g.later ++ p ∷ [];
          payload = g.payload ++ p.payload;
          octets = octets_append g.payload p.payload g.octets split.spells.piece.payload;
          spelled = subst (SpellsPieces (g.later ++ p ∷ [])) (sym f.1) all_spelled;
          walked = walked_append limits g.later (p ∷ []) (inside records count room m) c (outside limits false p.last (records - 1)) [] (more ∷ []) g.walked
              (subst (λ x. Walked limits c (p ∷ []) (x ∷ []) (outside limits false p.last (records - 1))) more_is (walked_end limits c p refl at_c e));
        },
      )

-- a piece that begins a run, and the run
pub run_from : (set : Sets) (limits : LimitValues) (place : Place) (bytes : List ℕ) (p : Piece) (short : Bool) (rest : List ℕ) (taken k : ℕ) (last : Bool) (next : Place) → IsSplit p short rest bytes
    → pieces.IsConsistentAt (spot_of limits.profile place) p → p.chunked ≡ true → place.inside ≡ false → ((s : List ℕ) → AreOctets s → set (tnf_of p.tnf) p.kind limits.records limits.profile s) → taken ≡ length bytes - length rest
    → next ≡ past_chunk place (length p.payload) → k ≤ length rest → IsRunEnd limits next (take k rest) last → IsTakenRecord set limits place bytes (taken + k) last
run_from set limits place bytes p short rest taken k last next split stands chunked outer any is ne small run =
    let f = front_and bytes split.front rest taken k split.joined is small in
    let shorter = split_shorter p short rest bytes split in
    let m = record_with None p in
    record {
      some = omega arith;
      within = f.0;
      outer = outer;
      ends = λ c e none over.
          let d = inside c.records (c.pieces - 1) (c.room - length p.payload) m in
          let r = run c.records (c.pieces - 1) (c.room - length p.payload) m (ne ∙ ap (λ x. past_chunk x (length p.payload)) e) in
          let w : Walked limits c (p ∷ []) [] d = subst (λ b. Walked limits c (p ∷ []) [] (inside c.records (c.pieces - 1) (c.room - length p.payload) (record_with b p))) none
          (walked_on limits c p over (subst (λ x. pieces.IsConsistentAt (spot_of limits.profile x) p) e stands) chunked) in (
            with_payload m r.payload,
            record {
              pieces = p ∷ r.later;
              spelled = subst (SpellsPieces (p ∷ r.later)) (sym f.1) (spell_append (p ∷ []) r.later split.front (take k rest) (spelled_one p short split.front split.spells) r.spelled);
              walked = walked_append limits (p ∷ []) r.later c d (outside limits false last (c.records - 1)) [] (with_payload m r.payload ∷ []) w r.walked;
              members = (any (p.payload ++ r.payload) (octets_append p.payload r.payload split.spells.piece.payload r.octets), tt);
            },
          );
    }

-- ---- records
pub records_start : (set : Sets) (limits : LimitValues) (place : Place) (bytes : List ℕ) → AreTakenRecords set limits place bytes 0 place false
records_start set limits place bytes = record {
  within = omega arith;
  comes = λ c e none over. record { there = c; place_is = e; no_run = none; over = over; some = λ h. absurd (omega arith); pieces = []; items = []; spelled = refl; walked = (refl, refl); members = tt };
}

pub records_on : (set : Sets) (limits : LimitValues) (place mid place' : Place) (bytes : List ℕ) (at n : ℕ) (last : Bool) → AreTakenRecords set limits place bytes at mid false → IsTakenRecord set limits mid (rest bytes at) n last
    → place' ≡ after_record limits mid → AreTakenRecords set limits place bytes (at + n) place' last
records_on set limits place mid place' bytes at n last g r is =
    let small = g.within in
    let more = r.within in
    record {
      within = omega (arith, rest_length bytes at);
      comes = λ c e none over.
          let x = g.comes c e none over in
          let y = r.ends x.there x.place_is x.no_run x.over in
          let d = outside limits false last (x.there.records - 1) in
          record {
            there = d;
            place_is = is ∙ ap (after_record limits) x.place_is;
            no_run = refl;
            over = refl;
            some = λ h. refl;
            pieces = x.pieces ++ y.1.pieces;
            items = x.items ++ y.0 ∷ [];
            spelled = subst (SpellsPieces (x.pieces ++ y.1.pieces)) (take_rests bytes at n) (spell_append x.pieces y.1.pieces (take at bytes) (take n (rest bytes at)) x.spelled y.1.spelled);
            walked = walked_append limits x.pieces y.1.pieces c x.there d x.items (y.0 ∷ []) x.walked y.1.walked;
            members = members_append set limits x.items (y.0 ∷ []) x.members y.1.members;
          };
    }

-- all that came, where some did
pub records_come : {set : Sets} {limits : LimitValues} {c : Before} {bytes : List ℕ} {place : Place} {last : Bool} (x : Comes set limits c bytes place last) → 0 < length bytes
    → EndsRecords set limits c x.items x.there.records last bytes
records_come {limits = limits} {c = c} x some =
    record { pieces = x.pieces; spelled = x.spelled; walked = subst (Walked limits c x.pieces x.items) (x.some some) x.walked; members = x.members }

-- ---- a checker

none_of : (o : Option Item) → is_some o ≡ false → o ≡ None
none_of None e = refl
none_of (Some m) e = cc

module _ {L : Type 0} (language : Ghosts L) (limits : LimitValues) (state : State L) (bytes : List ℕ) (given : List Item) (point : Point) where
  -- no record is begun
  pub record AtBetween : Type 0 where
    pub c : Before
    pub point_is : point ≡ InHead c []
    pub place_is : state.place ≡ numbers c
    pub none : c.begun ≡ None
    pub over : c.over ≡ false
    pub at : IsAtPoint limits bytes given (InHead c [])
    pub viable : IsViable language.payloads limits bytes

  pub between : IsFresh state → IsConsistentAt language limits state bytes given point → AtBetween
  between fresh s =
      let a = at_head point fresh.phase_is s in
      let nil : a.xs ≡ [] = sym (ap (λ x. x.octets) a.reader_is) ∙ fresh.empty in
      let is : point ≡ InHead a.c [] = a.point_is ∙ ap (InHead a.c) nil in
      let at = subst (IsAtPoint limits bytes given) is s.at in
      record {
        c = a.c;
        point_is = is;
        place_is = a.place_is;
        none = none_of a.c.begun (sym (ap (λ x. x.inside) a.place_is) ∙ fresh.outer);
        over = at.proper.0;
        at = at;
        viable = s.viable;
      }

-- after whole records an empty one ends the message, or nothing does
finished_by : (laws : FormatLaws) (set : Sets) (limits : LimitValues) → IsMember set limits nothing → (last : Bool) (left : ℕ) → Finished laws limits set (outside limits false last left) []
finished_by laws set limits empty true left = ([], [], tt, (laws.rests_end limits (outside limits false true left) [] [] refl).1 (refl, refl))
finished_by laws set limits empty false left = let x = close limits false left in (x.0, nothing ∷ [], (empty, tt), x.1)

module _ (laws : FormatLaws) {L : Type 0} {language : Ghosts L} {limits : LimitValues} (range : AreInRange limits)
    (others : TakesOthers language.payloads)
    {bytes : List ℕ} {given : List Item} {c : Before} (at : IsAtPoint limits bytes given (InHead c [])) (v : IsViable language.payloads limits bytes)
    {items : List Item} {left : ℕ} (last : Bool) {t : List ℕ} (ends : EndsRecords language.payloads limits c items left last t)
    (new : State L) {place : Place} (is : place ≡ numbers (outside limits false last left)) (following : IsAfter limits new place last) where
  -- the records lead after them
  pub reaches_after : IsReachableBetween (IsConsistentAt language limits new) (bytes ++ t) (given ++ items)
  reaches_after =
      let ps = at.pieces ++ ends.pieces in
      let d = outside limits false last left in
      let start_is : bytes ≡ at.done = at.split ∙ append-nil at.done in
      let w = walked_append limits at.pieces ends.pieces (start limits) c d given items at.walked ends.walked in
      let s = spell_append at.pieces ends.pieces at.done t at.spelled ends.spelled in
      let m = members_append language.payloads limits given items (given_members laws language.payloads limits range bytes given (InHead c []) at v) ends.members in
      let all : bytes ++ t ≡ (at.done ++ t) ++ [] = ap (λ x. x ++ t) start_is ∙ sym (append-nil (at.done ++ t)) in
      let more : IsViable language.payloads limits (bytes ++ t) = subst (IsViable language.payloads limits) (sym all) (viable laws limits language.payloads range ps d (given ++ items) (at.done ++ t) w s [] m (finished_by laws language.payloads limits (others Empty [] (inl refl) limits.records limits.profile [] tt) last left)) in
      let reader : last ≡ false → new.reader ≡ record { spot = spot limits.profile d; octets = []; answer = steps.More } = λ e. following.reader_is e ∙ ap (λ x. record { spot = spot_of limits.profile x; octets = []; answer = steps.More }) is in
      let opens : last ≡ false → IsOpen (spot limits.profile d) [] = λ e. subst (λ x. IsOpen (spot_of limits.profile x) []) is (following.opens e) in
      by_end last ps w s all more (following.place_is ∙ is) reader opens following.phase_is
    where
      by_end : (last : Bool) (ps : List Piece) → Walked limits (start limits) ps (given ++ items) (outside limits false last left) → SpellsPieces ps (at.done ++ t) → bytes ++ t ≡ (at.done ++ t) ++ []
          → IsViable language.payloads limits (bytes ++ t) → new.place ≡ numbers (outside limits false last left)
          → (last ≡ false → new.reader ≡ record { spot = spot limits.profile (outside limits false last left); octets = []; answer = steps.More }) → (last ≡ false → IsOpen (spot limits.profile (outside limits false last left)) [])
          → new.phase ≡ (if last then phases.Done else phases.Head) → IsReachableBetween (IsConsistentAt language limits new) (bytes ++ t) (given ++ items)
      by_end true ps w s e v e1 e2 o ee =
          let d = outside limits false true left in
          (AtEnd d, (d, refl, inr refl), record { at = record { pieces = ps; done = at.done ++ t; walked = w; spelled = s; split = e; proper = refl }; viable = v; matches = (e1, ee) })
      by_end false ps w s e v e1 e2 o ee =
          let d = outside limits false false left in
          (InHead d [], (d, refl, inl refl), record { at = record { pieces = ps; done = at.done ++ t; walked = w; spelled = s; split = e; proper = (refl, o refl) }; viable = v; matches = (e1, ee, e2 refl, tt) })

-- the record in one piece leads after it
pub record_passed : (laws : FormatLaws) {L : Type 0} {language : Ghosts L} (limits : LimitValues) → AreInRange limits → (TakesOthers language.payloads)
    → (old new : State L) (input : List ℕ) (w : WholePiece) (taken : ℕ) → IsFresh old → BeginsWith language.payloads limits old.place input w → taken ≡ length input - length w.rest.now
    → IsAfter limits new (after_record limits old.place) (is_set 6 w.header)
    → ForEachInput (IsConsistentAt language limits old) (λ bytes given point. IsReachableBetween (IsConsistentAt language limits new) (bytes ++ take taken input) (given ++ record_of w ∷ []))
record_passed laws {language = language} limits range others old new input w taken fresh begins is following bytes given point s =
    let a = between language limits old bytes given point fresh s in
    let ends = one_record language.payloads limits old.place input w taken begins is a.c a.place_is a.none a.over in
    reaches_after laws range others a.at a.viable (is_set 6 w.header) ends new (ap (after_record limits) a.place_is) following

-- ---- this number of bytes

module _ {L : Type 0} (language : Ghosts L) (limits : LimitValues) (state : State L) (front bytes : List ℕ) (n taken : ℕ) (most : n ≤ length bytes) (is : taken ≡ length front)
    (given : List Item) (point : Point) (s : IsConsistentAt language limits state (front ++ take n bytes) given point) where
  -- .. led there
  pub taken_matches_input : MatchesInput language limits state (taken + n) (front ++ take n bytes) given point
  taken_matches_input = (omega (arith, length-append front (take n bytes), length-take-le n bytes most), inl s)

  -- .. are no more than a message has
  pub taken_bounded : FormatLaws → AreInRange limits → taken + n < 2 ^ 60
  taken_bounded laws range = omega (arith, viable_bounded laws language.payloads limits (front ++ take n bytes) s.viable, greatest_small limits range, length-append front (take n bytes), length-take-le n bytes most)

-- ---- from front to front

-- nothing was taken
pub none_taken : (reached : Fronts Point) (bytes : List ℕ) (given : List Item) (point : Point) → reached bytes given point → IsReachable reached (bytes ++ [])
none_taken reached bytes given point r = (given, point, subst (λ y. reached y given point) (sym (append-nil bytes)) r)
