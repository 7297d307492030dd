-- The fields of the bytes that a check takes, or of those before the byte that it refuses.
use Rattle.std.proofs.Common.{◌≡◌, ℕ, ◌≤◌, ◌≢◌, ◌⊎◌, List, [], ◌∷◌, ◌++◌, length, length-append, append_assoc, append-nil, take, map, Ok, refl, sym, ◌∙◌, ap, ap₂, subst, arith, inl, inr}
use Rattle.ndef_format.specs.Accepted.{IsAccepted, IsViable}
use Rattle.ndef_format.specs.Limits.{LimitValues}
use Rattle.ndef_format.specs.Messages.{SpellsPieces, all_pieces, run_record}
use Rattle.ndef_format.specs.NestedReasons.{TypedReason}
use Rattle.ndef_format.specs.Payloads.{IsTypedPayload}
use Rattle.ndef_format.specs.Records.{Piece}
use Rattle.ndef_message.specs.Views.{Viewed, Views}
use Rattle.ndef_piece.specs.Heads.{HeadsAreUnambiguous}
use Rattle.ndef_piece.specs.Whole.{BeginWithPiece}
use Rattle.ndef_fields.specs.Fronts.{ArePayloadFront, content_come, front_parts, kind_begun}
use Rattle.ndef_fields.specs.Messages.{AreParts, IsOuterOwn}
use Rattle.ndef_fields.specs.Parts.{Part}
use Rattle.ndef_fields.specs.Reports.{AreFields, AreFieldsBefore, IsMessageFront}
use Rattle.ndef_fields.specs.declared.field.Field.{Field}
use Rattle.ndef_c.specs.Checks.{ChecksTo}
use Rattle.ndef_c.specs.Fields.{AreFieldsChecked}
use Rattle.ndef_c.specs.declared.checking.NdefChecked.{NdefChecked}
use Rattle.ndef_c.specs.declared.status.TheConstants.{OK, BUFFER_TOO_SMALL, BAD_ARGUMENT, END}
use Rattle.ndef_message.specs.Machine.SeenLaws.{same_split}
use Rattle.ndef_c.proofs.Followed.{split_size}

-- ---- a whole message as a front

-- where pieces spell some bytes, the whole pieces at their front are all of these
all_whole : HeadsAreUnambiguous → (ps qs : List Piece) (bytes front rest : List ℕ) → SpellsPieces ps bytes → SpellsPieces qs front → bytes ≡ front ++ rest → ¬ BeginWithPiece rest → (qs ≡ ps) × (rest ≡ [])
all_whole apart [] [] bytes front rest s t e n = (refl, ap (λ x. x ++ rest) (sym t) ∙ sym e ∙ s)
all_whole apart [] (q ∷ qs) bytes front rest s (short, x, y, f, is, more) e n =
    let z = split_size q short y front (record { front = x; spells = is; joined = f }) in
    let l = ap length e ∙ length-append front rest in
    let k = ap length s in
    absurd (omega (arith, z, l, k))
all_whole apart (p ∷ ps) [] bytes front rest (short, x, y, f, is, more) t e n =
    let same : rest ≡ bytes = ap (λ z. z ++ rest) (sym t) ∙ sym e in
    absurd (n (record { piece = p; short = short; rest = y; split = record { front = x; spells = is; joined = same ∙ f } }))
all_whole apart (p ∷ ps) (q ∷ qs) bytes front rest (short, x, y, f, is, more) (wide, u, v, g, are, others) e n =
    let joined : bytes ≡ u ++ (v ++ rest) = e ∙ ap (λ z. z ++ rest) g ∙ append_assoc u v rest in
    let w = same_split p q short wide y (v ++ rest) bytes (record { front = x; spells = is; joined = f }) (record { front = u; spells = are; joined = joined }) in
    let k = all_whole apart ps qs y v rest more others w.1 n in
    (ap₂ (λ r rs. r ∷ rs) (sym w.0) k.0, k.1)

-- nothing has come of another piece
none_come : (rest : List ℕ) (payload : List Part) → rest ≡ [] → ArePayloadFront (kind_begun rest) (content_come rest) payload → front_parts 0 rest payload ≡ []
none_come [] payload e h = h
none_come (b ∷ rest) payload e h = absurd (cc)

whole_fields : HeadsAreUnambiguous → (limits : LimitValues) (bytes : List ℕ) (v : Viewed) (reported : List Field) → Views IsTypedPayload TypedReason limits bytes (Ok v) → AreFieldsBefore (take v.taken bytes) reported
    → (a : AreFields limits bytes reported) × (a.count ≡ v.taken)
whole_fields apart limits bytes v reported views f =
    let d = views.1.0 in
    let s = f.spelled in
    let all = all_whole apart (all_pieces d.runs) s.whole.pieces (take v.taken bytes) s.whole.front s.rest d.spelling.spelled s.whole.spelled s.whole.split s.whole.ended in
    let front : s.whole.front ≡ take v.taken bytes = sym (s.whole.split ∙ ap (λ x. s.whole.front ++ x) all.1 ∙ append-nil s.whole.front) in
    let parts : f.parts ≡ s.before = s.parts_are ∙ ap (λ x. s.before ++ x) (none_come s.rest s.payload all.1 s.content) ∙ append-nil s.before in
    let spelled = subst (λ ps. AreParts 0 IsOuterOwn ps (take v.taken bytes) f.parts) all.0
    (subst (λ x. AreParts 0 IsOuterOwn s.whole.pieces x f.parts) front (subst (λ y. AreParts 0 IsOuterOwn s.whole.pieces s.whole.front y) (sym parts) s.spelled)) in (
      record {
        count = v.taken;
        within = views.0;
        items = map run_record v.runs;
        accepted = d;
        parts = f.parts;
        spelled = spelled;
        placed = f.placed;
      },
      refl,
    )

-- ---- what a check answers

module _ (limits : LimitValues) (bytes : List ℕ) (checked : ℕ) (refusal : NdefChecked) where
  pub place_within : ChecksTo IsTypedPayload TypedReason limits bytes checked refusal → refusal.place ≤ length bytes
  place_within (inl (e, t)) = let p = t.place in let w = t.views.0 in omega (arith, p, w)
  place_within (inr (e, r)) = let p = r.place in let w = r.refused.place.within in omega (arith, p, w)

  pub front_viable : ChecksTo IsTypedPayload TypedReason limits bytes checked refusal → IsMessageFront (take refusal.place bytes)
  front_viable (inl (e, t)) =
      let all = take t.viewed.taken bytes in
      (limits, subst (λ n. IsViable IsTypedPayload limits (take n bytes)) (sym t.place) ([], subst (IsAccepted IsTypedPayload limits) (sym (append-nil all)) (map run_record t.viewed.runs, t.views.1.0)))
  front_viable (inr (e, r)) = (limits, subst (λ n. IsViable IsTypedPayload limits (take n bytes)) (sym r.place) r.refused.place.viable)

  pub are_checked : HeadsAreUnambiguous → (front : List ℕ) (reported : List Field) → ChecksTo IsTypedPayload TypedReason limits bytes checked refusal → front ≡ take refusal.place bytes → AreFieldsBefore front reported
      → AreFieldsChecked limits bytes checked refusal reported
  are_checked apart front reported (inl (e, t)) same f =
      let w = whole_fields apart limits bytes t.viewed reported t.views (subst (λ x. AreFieldsBefore x reported) (same ∙ ap (λ n. take n bytes) t.place) f) in
      record { checks = inl (e, t); whole = λ _. (w.0, w.1 ∙ sym t.place); before = λ r. absurd (omega (arith, e, r)) }
  are_checked apart front reported (inr (e, r)) same f =
      record { checks = inr (e, r); whole = λ o. absurd (omega (arith, e, o)); before = λ _. subst (λ x. AreFieldsBefore x reported) same f }

  -- no answer is that of a wrong argument
  pub given_well : (status : ℕ) → ChecksTo IsTypedPayload TypedReason limits bytes checked refusal → (status ≡ BUFFER_TOO_SMALL) ⊎ (status ≡ checked) → status ≢ BAD_ARGUMENT
  given_well status k (inl h) e = absurd (omega (arith, h, e))
  given_well status (inl (o, t)) (inr h) e = absurd (omega (arith, o, h, e))
  given_well status (inr (r, t)) (inr h) e = absurd (omega (arith, r, h, e))

  pub reported_well : (status following : ℕ) → ChecksTo IsTypedPayload TypedReason limits bytes checked refusal → (checked ≡ OK → following ≡ END) → (checked ≢ OK → following ≡ checked) → (status ≡ OK) ⊎ (status ≡ following) → status ≢ BAD_ARGUMENT
  reported_well status following k ended refused (inl h) e = absurd (omega (arith, h, e))
  reported_well status following (inl (o, t)) ended refused (inr h) e = let b = ended o in absurd (omega (arith, b, h, e))
  reported_well status following (inr (r, t)) ended refused (inr h) e =
      let b = refused (λ o. absurd (omega (arith, r, o))) in
      absurd (omega (arith, b, r, h, e))
