-- Pieces of an open run at once, where any octets complete its payload.
use Rattle.std.proofs.Common.{◌≡◌, ℕ, ◌-◌, ◌<◌, ◌^◌, Bool, true, false, refl, sym, ◌∙◌, ap, subst, arith, List, [], ◌∷◌, ◌++◌, length, take, append_assoc, Option, Some, None}
use Rattle.std.specs.Prelude.{is_some}
use Rattle.std.proofs.lemmas.List.{append-nil}
use Rattle.ndef_value.specs.ListLaws.{octets_append, octets_back}
use Rattle.ndef_format.specs.Messages.{Item, SpellsPieces}
use Rattle.ndef_format.specs.Limits.{LimitValues, AreInRange}
use Rattle.ndef_format.specs.Records.{AreOctets, body, fields, octets}
use Rattle.ndef_format.specs.Payloads.{Sets}
use Rattle.ndef_lang.specs.Language.{AllPass}
use Rattle.ndef_lang.specs.RecordLanguage.{AllLead}
use Rattle.ndef_lang.specs.declared.record_language.RecordLanguage.{Ghosts}
use Rattle.ndef_format.specs.Positions.{IsOpen}
use Rattle.ndef_piece.specs.Walk.{Before, start, record_with, inside, Walked}
use Rattle.ndef_piece.specs.declared.head_reader.Step.TheVariants as steps
use Rattle.ndef_format.specs.Accepted.{IsMember, IsViable}
use Rattle.ndef_message.specs.Machine.Fronts.{IsReachable, ForEachInput}
use Rattle.ndef_message.specs.Machine.Accepted.{AreChunks, RunGoesOn, IsAtChunk, IsAfterChunks, with_payload}
use Rattle.ndef_message.specs.Machine.Format.{FormatLaws}
use Rattle.ndef_message.specs.Machine.Payload.{completes}
use Rattle.ndef_message.specs.Machine.Points.{Point, InHead, IsAtPoint}
use Rattle.ndef_message.specs.Machine.State.{numbers, spot_of, Speaks, SpeaksIf, IsConsistentAt}
use Rattle.ndef_message.specs.declared.phase.Place.{Place}
use Rattle.ndef_message.specs.declared.state.State.{State}
use Rattle.ndef_message.proofs.Accepting.{front_of, spelled_one, walked_append}
use Rattle.ndef_message.proofs.Befores.{good_at}
use Rattle.ndef_message.proofs.Bodies.{Finished}
use Rattle.ndef_message.proofs.Entered.{given_members}
use Rattle.ndef_message.proofs.Octets.{AtHead, at_head}
use Rattle.ndef_message.proofs.Rests.{spell_append}
use Rattle.ndef_message.proofs.Viable.{viable}

-- the run as far as it has come, without the bytes to come
pub run_cut : (limits : LimitValues) (records count room : ℕ) (m : Item) (bytes rest : List ℕ) (place : Place) → RunGoesOn limits (inside records count room m) m place bytes rest
    → (n : ℕ) → n ≡ length bytes - length rest → RunGoesOn limits (inside records count room m) m place (take n bytes) []
run_cut limits records count room m bytes rest place g n is = record {
  later = g.later;
  payload = g.payload;
  front = g.front;
  pieces_left = g.pieces_left;
  room_left = g.room_left;
  place_is = g.place_is;
  joined = (front_of bytes g.front rest n g.joined is).1 ∙ sym (append-nil g.front);
  octets = g.octets;
  spelled = g.spelled;
  walked = g.walked;
}

-- ---- the payload

-- the language has read more of a payload that any octets complete
speaks_on : {L : Type 0} (language : Ghosts L) (limits : LimitValues) (payload : L) → ((r : List ℕ) → language.future payload r → AreOctets r) → AllPass (language.future payload) → AllLead (language.reached payload)
    → (m : Item) (z : List ℕ) → AreOctets z → Speaks language limits payload m → Speaks language limits payload (with_payload m z)
speaks_on language limits payload octets_of all reach m z o s = record {
  reached = reach z o m.tnf m.kind limits.records limits.profile m.payload s.reached;
  future = λ r. (
    λ x. subst set_of (sym (append_assoc m.payload z r)) ((s.future (z ++ r)).0 (all (z ++ r) (octets_append z r o (octets_of r x)))),
    λ y. all r (octets_back z r (octets_of (z ++ r) ((s.future (z ++ r)).1 (subst set_of (append_assoc m.payload z r) y)))),
  );
}
  where
    set_of : List ℕ → Type 0
    set_of = language.payloads m.tnf m.kind limits.records limits.profile

-- a run whose payload may end is ended by an empty piece, and its message with it
finished_inside : (laws : FormatLaws) (set : Sets) (limits : LimitValues) (records count room : ℕ) (m : Item) → room < 2 ^ 32 → completes set limits m [] → Finished laws limits set (inside records count room m) []
finished_inside laws set limits records count room m small x =
    let c = inside records count room m in
    let t = laws.walks_end limits c [] refl tt (omega arith) small in
    let p = t.0 in
    let item = record_with (Some m) p in
    let bytes = octets (fields p false) ++ body p in
    let member : IsMember set limits item = subst (λ v. set m.tnf m.kind limits.records limits.profile (m.payload ++ v)) (sym t.2) x in
    (bytes, item ∷ [], (member, tt), (p ∷ [], t.3, spelled_one p false bytes (record { piece = t.1; form = tt; spelled = refl })))

-- ---- a checker

-- what is known within a run
inside_is : (c : Before) (m : Item) → c.first ≡ false → c.over ≡ false → c.begun ≡ Some m → c ≡ inside c.records c.pieces c.room m
inside_is c m f o b =
    ap (λ v. record { first = v; over = c.over; records = c.records; pieces = c.pieces; room = c.room; begun = c.begun }) f
    ∙ ap (λ v. record { first = false; over = v; records = c.records; pieces = c.pieces; room = c.room; begun = c.begun }) o
    ∙ ap (λ v. record { first = false; over = false; records = c.records; pieces = c.pieces; room = c.room; begun = v }) b

not_first : (first : Bool) (o : Option Item) (m : Item) → (first ≡ true → o ≡ None) → o ≡ Some m → first ≡ false
not_first false o m h e = refl
not_first true o m h e = absurd (let q = sym e ∙ h refl in cc)

module _ {L : Type 0} (language : Ghosts L) (limits : LimitValues) (range : AreInRange limits) (state : State L) (bytes : List ℕ) (given : List Item) (point : Point) where
  -- a run is open, and the head of its next piece to come
  record AtChunk : Type 0 where
    records : ℕ
    pieces : ℕ
    room : ℕ
    m : Item
    place_is : state.place ≡ numbers (inside records pieces room m)
    at : IsAtPoint limits bytes given (InHead (inside records pieces room m) [])
    viable_is : IsViable language.payloads limits bytes
    speaks : Speaks language limits state.payload m

  at_chunk : IsAtChunk language state → IsConsistentAt language limits state bytes given point → AtChunk
  at_chunk fresh s = by_begun a.c.begun refl
    where
      a : AtHead language limits state bytes given point
      a = at_head point fresh.phase_is s

      at : IsAtPoint limits bytes given (InHead a.c [])
      at = subst (IsAtPoint limits bytes given) (a.point_is ∙ ap (InHead a.c) (sym (ap (λ x. x.octets) a.reader_is) ∙ fresh.empty)) s.at

      by_begun : (o : Option Item) → a.c.begun ≡ o → AtChunk
      by_begun None e = absurd (let q = sym (ap (λ x. x.inside) a.place_is) ∙ fresh.inner in let r = ap is_some e in cc)
      by_begun (Some m) e =
          let first = not_first a.c.first a.c.begun m (good_at limits range at.pieces a.c given at.walked).first e in
          let is = inside_is a.c m first at.proper.0 e in
          record {
            records = a.c.records;
            pieces = a.c.pieces;
            room = a.c.room;
            m = m;
            place_is = a.place_is ∙ ap numbers is;
            at = subst (λ c. IsAtPoint limits bytes given (InHead c [])) is at;
            viable_is = s.viable;
            speaks = subst (SpeaksIf language limits state.payload) e a.speaks;
          }

-- the pieces lead after them
pub chunks_are_reachable : (laws : FormatLaws) {L : Type 0} (language : Ghosts L) (limits : LimitValues) → AreInRange limits → (old new : State L) (place : Place) (t : List ℕ)
    → ((r : List ℕ) → language.future old.payload r → AreOctets r) → IsAtChunk language old → AreChunks limits old.place t place → IsAfterChunks limits old new place
    → ForEachInput (IsConsistentAt language limits old) (λ bytes given point. IsReachable (IsConsistentAt language limits new) (bytes ++ t))
chunks_are_reachable laws language limits range old new place t octets_of fresh chunks following bytes given point s =
    let a = at_chunk language limits range old bytes given point fresh s in
    let g = chunks a.records a.pieces a.room a.m a.place_is in
    let c = inside a.records a.pieces a.room a.m in
    let m = with_payload a.m g.payload in
    let d = inside a.records g.pieces_left g.room_left m in
    let ps = a.at.pieces ++ g.later in
    let done = a.at.done ++ g.front in
    let w : Walked limits (start limits) ps given d = subst (λ x. Walked limits (start limits) ps x d) (append-nil given) (walked_append limits a.at.pieces g.later (start limits) c d given [] a.at.walked g.walked) in
    let spelled : SpellsPieces ps done = spell_append a.at.pieces g.later a.at.done g.front a.at.spelled g.spelled in
    let split : bytes ++ t ≡ done ++ [] = ap (λ x. x ++ t) (a.at.split ∙ append-nil a.at.done) ∙ ap (λ x. a.at.done ++ x) (g.joined ∙ append-nil g.front) ∙ sym (append-nil done) in
    let members = given_members laws language.payloads limits range bytes given (InHead c []) a.at a.viable_is in
    let speaks = speaks_on language limits old.payload octets_of fresh.future fresh.reached a.m g.payload g.octets a.speaks in
    let room = (good_at limits range ps d given w).room in
    let most = range.payload.1 in
    let finished = finished_inside laws language.payloads limits a.records g.pieces_left g.room_left m (omega arith) ((speaks.future []).0 (fresh.future [] tt)) in
    let reader = following.reader_is ∙ ap (λ x. record { spot = spot_of limits.profile x; octets = []; answer = steps.More }) g.place_is in (
      given,
      InHead d [],
      record {
        at = record { pieces = ps; done = done; walked = w; spelled = spelled; split = split; proper = (refl, subst (λ x. IsOpen (spot_of limits.profile x) []) g.place_is following.opens) };
        viable = subst (IsViable language.payloads limits) (sym split) (viable laws limits language.payloads range ps d given done w spelled [] members finished);
        matches = (following.place_is ∙ g.place_is, following.phase_is ∙ fresh.phase_is, reader, subst (λ x. Speaks language limits x m) (sym following.payload_is) speaks);
      },
    )
