-- A whole record that a decoder takes at once.
use Rattle.std.proofs.Common.{◌≡◌, ℕ, ◌+◌, ◌-◌, ◌<◌, inl, inr, Bool, true, false, refl, sym, ◌∙◌, ap, subst, arith, List, [], ◌∷◌, ◌++◌, length, length-append, length-drop, take, drop, append_assoc, Option, None}
use Rattle.std.specs.Prelude.{unwrap_or, if◌then◌else◌}
use Rattle.std.proofs.lemmas.List.{append-nil, length-take-le, take-append-drop}
use Rattle.std.proofs.Math.Seq.{take-append_seam}
use Rattle.ndef_value.specs.ListLaws.{octets_taken}
use Rattle.ndef_format.specs.Messages.{Item}
use Rattle.ndef_format.specs.Records.{Piece, HeadFields, AreOctets, fields, octets, body}
use Rattle.ndef_format.specs.Limits.{AreInRange}
use Rattle.ndef_lang.specs.declared.record_language.RecordLanguage.{Ghosts}
use Rattle.ndef_format.specs.HeadReasons.{is_set}
use Rattle.ndef_format.specs.Positions.{MayOccur}
use Rattle.ndef_format.specs.Positions as pieces
use Rattle.ndef_piece.specs.Walk.{start, spot, Walked}
use Rattle.ndef_piece.specs.Whole.{shown}
use Rattle.ndef_piece.specs.declared.whole.WholePiece.{WholePiece}
use Rattle.ndef_message.specs.Decoding.{EndsThere, Wants}
use Rattle.ndef_format.specs.Accepted.{IsViable}
use Rattle.ndef_message.specs.Machine.Fronts.{ForEachInput}
use Rattle.ndef_message.specs.Machine.Points.{Point, field_of, IsAtPoint, InType, InId, InPayload, before, octets_at, IsPartAt, IsProperAt, opened_at, IsBetweenRecords}
use Rattle.ndef_message.specs.Machine.Accepted.{BeginsWith, IsFresh, IsReachableBetween, record_of}
use Rattle.ndef_message.specs.Machine.Checkers.{CheckerReached}
use Rattle.ndef_message.specs.Machine.DecoderState.{DecoderMatchesInput}
use Rattle.ndef_message.specs.Machine.Format.{FormatLaws}
use Rattle.ndef_message.specs.Machine.Open.{AsksMemory}
use Rattle.ndef_message.specs.Machine.State.{answer_of, is_done, spot_of, IsConsistentAt, Reached}
use Rattle.ndef_message.specs.Opened.{Opened, opened_head, no_octets, MayGrow, AreRecords}
use Rattle.ndef_message.specs.declared.checker.Checker.{Checker}
use Rattle.ndef_message.specs.declared.phase.Phase.TheVariants as phases
use Rattle.ndef_message.proofs.Accepting.{AtBetween, between, front_of, record_is}
use Rattle.ndef_message.proofs.Feeding.{going}
use Rattle.ndef_piece.specs.HeaderLaws.{id_count}
use Rattle.ndef_message.proofs.Placed.{placed, records_there}
use Rattle.ndef_message.proofs.Rests.{viable_front}
use Rattle.ndef_message.proofs.Taking.{ends_there}

-- ---- octets of a record, cut within one of its parts

in_kind : (o k r : List ℕ) (n : ℕ) → o ++ (k ++ r) ≡ (o ++ (take n k ++ [])) ++ (drop n k ++ r)
in_kind o k r n = ap (λ y. o ++ (y ++ r)) (sym (take-append-drop n k)) ∙ regroup o (take n k) (drop n k) r
  where
    regroup : (o a d r : List ℕ) → o ++ ((a ++ d) ++ r) ≡ (o ++ (a ++ [])) ++ (d ++ r)
    regroup o a d r = simp (append_assoc, append-nil)

in_id : (o k i z : List ℕ) (n : ℕ) → o ++ (k ++ (i ++ z)) ≡ (o ++ (k ++ (take n i ++ []))) ++ (drop n i ++ z)
in_id o k i z n = ap (λ y. o ++ (k ++ (y ++ z))) (sym (take-append-drop n i)) ∙ regroup o k (take n i) (drop n i) z
  where
    regroup : (o k a d z : List ℕ) → o ++ (k ++ ((a ++ d) ++ z)) ≡ (o ++ (k ++ (a ++ []))) ++ (d ++ z)
    regroup o k a d z = simp (append_assoc, append-nil)

before_payload : (o k i z : List ℕ) → o ++ (k ++ (i ++ z)) ≡ (o ++ (k ++ (i ++ []))) ++ z
before_payload o k i z = simp (append_assoc, append-nil)

-- ---- what is kept between records

between_opened : (point : Point) → IsBetweenRecords point → opened_at point ≡ no_octets
between_opened point (c, none, inl e) = ap opened_at e ∙ ap (λ b. opened_head b []) none
between_opened point (c, none, inr e) = ap opened_at e

done_by : (last : Bool) → is_done (if last then phases.Done else phases.Head) ≡ last
done_by true = refl
done_by false = refl

module _ (laws : FormatLaws) {L : Type 0} {language : Ghosts L} (old new : Checker L language) (same : new.limits ≡ old.limits) (range : AreInRange old.limits)
    {failed : Option ℕ} (unfailed : failed ≡ None) (o : Opened) (input : List ℕ) (w : WholePiece) (fresh : IsFresh old.state) (begins : BeginsWith language.payloads old.limits old.state.place input w)
    (phase_is : new.state.phase ≡ (if is_set 6 w.header then phases.Done else phases.Head))
    (onward : ForEachInput (CheckerReached old) (λ front given point. IsReachableBetween (CheckerReached new) (front ++ take (length input - length w.rest.now) input) (given ++ record_of w ∷ [])))
    (bytes : List ℕ) (given : List Item) (point : Point) (was : DecoderMatchesInput old failed o bytes given point) where
  abbrev p : Piece
  p = shown w

  abbrev t : List ℕ
  t = take (length input - length w.rest.now) input

  known : CheckerReached old bytes given point × (o ≡ opened_at point)
  known = subst (λ z. DecoderMatchesInput old z o bytes given point) unfailed was

  stood : AtBetween language old.limits old.state bytes given point
  stood = between language old.limits old.state bytes given point fresh (going language old.limits old.state 0 bytes given point (ap (λ p. answer_of p 0) fresh.phase_is) known.0.1)

  led : IsReachableBetween (CheckerReached new) (bytes ++ t) (given ++ record_of w ∷ [])
  led = onward bytes given point known.0

  stands : IsConsistentAt language new.limits new.state (bytes ++ t) (given ++ record_of w ∷ []) led.0
  stands = by_side (is_set 6 w.header) phase_is led.2.1
    where
      by_side : (last : Bool) → new.state.phase ≡ (if last then phases.Done else phases.Head) → Reached language new.limits new.state (bytes ++ t) (given ++ record_of w ∷ []) led.0
          → IsConsistentAt language new.limits new.state (bytes ++ t) (given ++ record_of w ∷ []) led.0
      by_side last e (inl s) = s
      by_side true e (inr s) = absurd (let q = sym e ∙ s.phase_is in cc)
      by_side false e (inr s) = absurd (let q = sym e ∙ s.phase_is in cc)

  none_open : o ≡ opened_at led.0
  none_open = known.1 ∙ between_opened point (stood.c, stood.none, inl stood.point_is) ∙ sym (between_opened led.0 led.1)

  -- the record has come
  pub whole_passed : {item : Item} → item ≡ record_of w → {last : Bool} → last ≡ is_set 6 w.header → EndsThere language.payloads old.limits (bytes ++ t) (given ++ item ∷ []) last
      × AreRecords old.limits (bytes ++ t) (given ++ item ∷ []) × ((next : Point) × DecoderMatchesInput new failed o (bytes ++ t) (given ++ item ∷ []) next)
  whole_passed {item} is {last} e =
      let ends = ends_there laws language new.limits (subst AreInRange (sym same) range) new.state (bytes ++ t) (given ++ record_of w ∷ []) led.0 stands last (ap is_done phase_is ∙ done_by (is_set 6 w.header) ∙ sym e) in
      subst (λ z. EndsThere language.payloads old.limits (bytes ++ t) (given ++ z ∷ []) last
      × AreRecords old.limits (bytes ++ t) (given ++ z ∷ []) × ((next : Point) × DecoderMatchesInput new failed o (bytes ++ t) (given ++ z ∷ []) next)) (sym is) (
        subst (λ l. EndsThere language.payloads l (bytes ++ t) (given ++ record_of w ∷ []) last) same ends,
        subst (λ l. AreRecords l (bytes ++ t) (given ++ record_of w ∷ [])) same (records_there laws.counted new.limits (bytes ++ t) (given ++ record_of w ∷ []) led.0 led.1 stands.at),
        (led.0, subst (λ z. DecoderMatchesInput new z o (bytes ++ t) (given ++ record_of w ∷ []) led.0) (sym unfailed) (led.2, none_open)),
      )

  -- ---- memory was refused for a copy

  abbrev f : HeadFields
  f = fields p (is_set 4 w.header)

  front_is : t ≡ octets f ++ body p
  front_is = (front_of input begins.split.front w.rest.now (length input - length w.rest.now) begins.split.joined refl).1 ∙ begins.split.spells.spelled

  may_occur : MayOccur (spot old.limits.profile stood.c) f
  may_occur =
      let s = begins.split.spells in
      (laws.to_heads (spot old.limits.profile stood.c) p (is_set 4 w.header) s.piece s.form).0 (subst (λ x. pieces.IsConsistentAt (spot_of old.limits.profile x) p) stood.place_is begins.stands)

  part : (k i z : List ℕ) → AreOctets k → AreOctets i → AreOctets z → IsPartAt old.limits stood.c f k i z
  part k i z a b d = record { goes_on = stood.over; stands = may_occur; kind_octets = a; id_octets = b; payload_octets = d }

  -- at the field of one of its bytes
  wants_at : (point' : Point) (more : List ℕ) → before point' ≡ stood.c → t ≡ octets_at point' ++ more → 0 < length more → IsProperAt old.limits point' → MayGrow (field_of point') → Wants language.payloads old.limits bytes given t
  wants_at point' more at_c e some proper grows =
      let so_far = octets_at point' in
      let count = length so_far in
      let cut : take count t ≡ so_far = ap (take count) e ∙ take-append_seam so_far more in
      let start_is : bytes ≡ stood.at.done = stood.at.split ∙ append-nil stood.at.done in
      let all : bytes ++ t ≡ (bytes ++ take (count + 1) t) ++ drop (count + 1) t = sym (append_assoc bytes (take (count + 1) t) (drop (count + 1) t) ∙ ap (λ y. bytes ++ y) (take-append-drop (count + 1) t)) in
      let at : IsAtPoint old.limits (bytes ++ take count t) given point' = record {
        pieces = stood.at.pieces;
        done = stood.at.done;
        walked = subst (Walked old.limits (start old.limits) stood.at.pieces given) (sym at_c) stood.at.walked;
        spelled = stood.at.spelled;
        split = ap (λ y. bytes ++ y) cut ∙ ap (λ y. y ++ so_far) start_is;
        proper = proper;
      } in
      let p = placed laws.counted old.limits (bytes ++ take count t) given point' at in
      record {
        count = count;
        within = omega (arith, ap length e, length-append so_far more);
        runs = p.runs;
        begun = p.begun;
        field = field_of point';
        means = p.means;
        at = p.at;
        grows = grows;
        viable = viable_front language.payloads old.limits (bytes ++ take (count + 1) t) (drop (count + 1) t) (subst (IsViable language.payloads old.limits) all (subst (λ l. IsViable language.payloads l (bytes ++ t)) same stands.viable));
      }

  id_is : unwrap_or p.id [] ≡ w.id.now
  id_is = sym (ap (λ m. m.id) (record_is w begins.no_id))

  pub copy_wanted : AsksMemory (record_of w) → Wants language.payloads old.limits bytes given t
  copy_wanted (inl long) =
      let q = begins.split.spells.piece in
      let n = length-take-le 32 w.kind.now (omega arith) in
      wants_at (InType stood.c f (take 32 w.kind.now)) (drop 32 w.kind.now ++ (unwrap_or p.id [] ++ w.payload.now)) refl (front_is ∙ in_kind (octets f) w.kind.now (unwrap_or p.id [] ++ w.payload.now) 32)
      (omega (arith, length-append (drop 32 w.kind.now) (unwrap_or p.id [] ++ w.payload.now), length-drop 32 w.kind.now))
      (part (take 32 w.kind.now) [] [] (octets_taken 32 w.kind.now q.kind) tt tt, omega arith) (omega arith)
  copy_wanted (inr (inl long)) =
      let q = begins.split.spells.piece in
      let i = unwrap_or p.id [] in
      let il : length i ≡ length w.id.now = ap length id_is in
      let n = length-take-le 32 i (omega arith) in
      wants_at (InId stood.c f w.kind.now (take 32 i)) (drop 32 i ++ w.payload.now) refl (front_is ∙ in_id (octets f) w.kind.now i w.payload.now 32)
      (omega (arith, length-append (drop 32 i) w.payload.now, length-drop 32 i))
      (part w.kind.now (take 32 i) [] q.kind (octets_taken 32 i q.id) tt, refl, omega (arith, id_count p.id)) (omega arith)
  copy_wanted (inr (inr some)) =
      let q = begins.split.spells.piece in
      let i = unwrap_or p.id [] in
      wants_at (InPayload stood.c f w.kind.now i []) w.payload.now refl (front_is ∙ before_payload (octets f) w.kind.now i w.payload.now) some
      (part w.kind.now i [] q.kind q.id tt, refl, sym (id_count p.id), some) tt
