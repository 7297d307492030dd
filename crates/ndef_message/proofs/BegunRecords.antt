-- A record in one piece that has come up to its payload at least, after records.
use Rattle.std.proofs.Common.{◌≡◌, ℕ, ◌+◌, ◌-◌, ◌<◌, ◌≤◌, ◌^◌, ◌↔◌, false, inl, inr, refl, sym, ◌∙◌, ap, subst, arith, List, [], ◌++◌, length, take, drop, get_or, append_assoc, length-append, Option, Some, None}
use Rattle.std.specs.Prelude.{unwrap_or}
use Rattle.std.proofs.lemmas.List.{append-nil, length-take-le, take-append-drop, take_rest}
use Rattle.ndef_value.specs.ListLaws.{octets_front, octets_back}
use Rattle.ndef_lang.specs.RecordLanguage.{AreOfOctets, TakesOthers}
use Rattle.ndef_lang.specs.Language.{Continues, PassesBetween, Reaches, StepsAll}
use Rattle.ndef_lang.specs.StepLaws.{rest}
use Rattle.ndef_lang.specs.Machine.TypeName.{no_name}
use Rattle.ndef_lang.specs.declared.record_language.RecordLanguage.{Ghosts}
use Rattle.ndef_format.specs.Accepted.{IsAccepted}
use Rattle.ndef_format.specs.Limits.{LimitValues, AreInRange}
use Rattle.ndef_format.specs.Messages.{Item}
use Rattle.ndef_format.specs.Positions.{MayOccur, record_so_far}
use Rattle.ndef_format.specs.Reasons.{IsLowest}
use Rattle.ndef_format.specs.Records.{HeadFields, AreOctets, octets, tnf_of}
use Rattle.ndef_format.specs.Refusals.{Refuses}
use Rattle.ndef_format.specs.declared.profile.Profile.{Profile}
use Rattle.ndef_format.specs.declared.reason.Reason.{Reason}
use Rattle.ndef_format.specs.declared.reason.Reason.TheVariants.{EndOfInput}
use Rattle.ndef_format.specs.declared.refusal.Refusal.{Refusal}
use Rattle.ndef_format.specs.declared.tnf.Tnf.{Tnf}
use Rattle.ndef_piece.specs.Heads.{head}
use Rattle.ndef_piece.specs.Walk.{Before, start}
use Rattle.ndef_piece.specs.declared.head.Head.{Head}
use Rattle.ndef_piece.specs.declared.head_reader.Step.TheVariants as steps
use Rattle.ndef_message.specs.Machine.Accepted.{AreTakenRecords, Comes}
use Rattle.ndef_message.specs.Machine.Begun.{HasBegun}
use Rattle.ndef_message.specs.Machine.Format.{FormatLaws}
use Rattle.ndef_message.specs.Machine.Payload.{most_left}
use Rattle.ndef_message.specs.Machine.Points.{Point, InPayload, AtEnd, part_octets}
use Rattle.ndef_message.specs.Machine.State.{numbers, spot_of, Speaks, IsConsistentAt, InBody, Onward}
use Rattle.ndef_message.specs.declared.begun.Begun.{Begun}
use Rattle.ndef_message.specs.declared.phase.Phase.TheVariants as phases
use Rattle.ndef_message.specs.declared.phase.Place.{Place}
use Rattle.ndef_message.specs.declared.state.State.{State}
use Rattle.ndef_message.proofs.Ended.{refuses, unended}
use Rattle.ndef_message.proofs.Entered.{body_goes_on, body_small}
use Rattle.ndef_message.proofs.Octets.{AtPayload, not_refused}
use Rattle.ndef_message.proofs.Places.{cut_off}
use Rattle.ndef_message.proofs.Slices.{all_stopped, all_viable, at_front}

module _ (laws : FormatLaws) {L : Type 0} (language : Ghosts L) {limits : LimitValues} (range : AreInRange limits)
    (octets_of : AreOfOctets language.payloads) (others : TakesOthers language.payloads)
    (input : List ℕ) (taken : ℕ) (place : Place) (came : AreTakenRecords language.payloads limits (numbers (start limits)) input taken place false)
    (are : AreOctets input) (b : Begun) (g : HasBegun limits place (rest input taken) b)
    (read : L) {records : ℕ} {profile : Profile} (same_records : records ≡ limits.records) (same_profile : profile ≡ limits.profile)
    (follows : Continues (language.payloads b.head.tnf b.kind.now records profile) (language.future read) [])
    (reached : language.reached read b.head.tnf b.kind.now records profile [])
  where
    -- the records before it
    before_it : Comes language.payloads limits (start limits) (take taken input) place false
    before_it = came.comes (start limits) refl refl refl

    abbrev fields : HeadFields
    fields = g.begins.whole.fields

    head_is : b.head ≡ head fields
    head_is = sym g.begins.whole.read

    -- the bytes up to the payload
    abbrev up_to : List ℕ
    up_to = take taken input ++ part_octets fields b.kind.now g.id []

    whole_input : input ≡ up_to ++ (b.payload.now ++ g.rest)
    whole_input =
        sym (take-append-drop taken input) ∙ ap (λ y. take taken input ++ y) (sym (take_rest input taken) ∙ g.joined ∙ ap (λ y. y ++ (b.kind.now ++ (g.id ++ (b.payload.now ++ g.rest)))) (sym g.begins.whole.spelled))
        ∙ regroup (take taken input) (octets fields) b.kind.now g.id (b.payload.now ++ g.rest)
      where
        regroup : (d h k i z : List ℕ) → d ++ (h ++ (k ++ (i ++ z))) ≡ (d ++ (h ++ (k ++ (i ++ [])))) ++ z
        regroup d h k i z = simp (append_assoc, append-nil)

    body_octets : AreOctets (b.kind.now ++ (g.id ++ (b.payload.now ++ g.rest)))
    body_octets =
        octets_back (take g.count (rest input taken)) (b.kind.now ++ (g.id ++ (b.payload.now ++ g.rest)))
        (subst AreOctets g.joined (subst AreOctets (sym (take_rest input taken)) (octets_back (take taken input) (drop taken input) (subst AreOctets (sym (take-append-drop taken input)) are))))

    after_kind : AreOctets (g.id ++ (b.payload.now ++ g.rest))
    after_kind = octets_back b.kind.now (g.id ++ (b.payload.now ++ g.rest)) body_octets

    pub payload_octets : AreOctets b.payload.now
    payload_octets = octets_front b.payload.now g.rest (octets_back g.id (b.payload.now ++ g.rest) after_kind)

    -- a state before the payload
    abbrev state : State L
    state = record {
      place = place;
      reader = record { spot = spot_of limits.profile place; octets = []; answer = steps.More };
      payload = read;
      phase = phases.Payload b.head b.head.payload_length;
      name = no_name;
    }

    tnf_is : b.head.tnf ≡ tnf_of fields.tnf
    tnf_is = ap (λ x. x.tnf) head_is

    speaks : (m : Option Item) → m ≡ None → Speaks language limits read (record_so_far m fields b.kind.now g.id [])
    speaks None e = record {
      reached = subst (λ x. language.reached read x b.kind.now limits.records limits.profile []) tnf_is
          (subst (λ p. language.reached read b.head.tnf b.kind.now limits.records p []) same_profile (subst (λ n. language.reached read b.head.tnf b.kind.now n profile []) same_records reached));
      future = λ z. subst (λ x. language.future read z ↔ language.payloads x b.kind.now limits.records limits.profile z) tnf_is
          (subst (λ p. language.future read z ↔ language.payloads b.head.tnf b.kind.now limits.records p z) same_profile
          (subst (λ n. language.future read z ↔ language.payloads b.head.tnf b.kind.now n profile z) same_records (follows z)));
    }
    speaks (Some m) e = cc

    body : InBody language limits state b.head 0 b.head.payload_length up_to before_it.items before_it.there fields b.kind.now g.id []
    body =
        let kl : b.head.kind_length ≡ fields.kind_length = ap (λ x. x.kind_length) head_is in
        let il : unwrap_or b.head.id_length 0 ≡ unwrap_or fields.id_length 0 = ap (λ x. unwrap_or x.id_length 0) head_is in
        let pl : b.head.payload_length ≡ fields.payload_length = ap (λ x. x.payload_length) head_is in
        record {
          pieces = before_it.pieces;
          done = take taken input;
          walked = before_it.walked;
          spelled = before_it.spelled;
          split = refl;
          part = record {
            goes_on = before_it.over;
            stands = subst (λ p. MayOccur (spot_of limits.profile p) fields) before_it.place_is g.begins.whole.stands;
            kind_octets = octets_front b.kind.now (g.id ++ (b.payload.now ++ g.rest)) body_octets;
            id_octets = octets_front g.id (b.payload.now ++ g.rest) after_kind;
            payload_octets = tt;
          };
          head_is = head_is;
          kind_whole = g.kind_whole ∙ kl;
          id_left_is = let e = g.id_whole in omega arith;
          id_fits = let e = g.id_whole in omega arith;
          left_is = omega arith;
          payload_fits = omega arith;
          in_turn = inl (g.id_whole ∙ il);
          place_is = before_it.place_is;
          speaks = speaks before_it.there.begun before_it.no_run;
        }

    -- what is left of the record is left of the piece
    most_is : b.head.payload_length ≡ most_left b.head.chunked place.room b.head.payload_length b.head.payload_length
    most_is = ap (λ v. most_left v place.room b.head.payload_length b.head.payload_length) (sym g.one)

    pub small : b.head.payload_length < 2 ^ 32
    small = subst (λ n. n < 2 ^ 32) (sym most_is) (body_small laws range body)

    module _ (can : PassesBetween (language.future read) b.head.payload_length b.head.payload_length) (some : 0 < b.head.payload_length) where
      abbrev point : Point
      point = InPayload before_it.there fields b.kind.now g.id []

      stands : IsConsistentAt language limits state up_to before_it.items point
      unfolding body
      stands =
          let kl : b.head.kind_length ≡ fields.kind_length = ap (λ x. x.kind_length) head_is in
          let pl : b.head.payload_length ≡ fields.payload_length = ap (λ x. x.payload_length) head_is in
          record {
            at = record { pieces = body.pieces; done = body.done; walked = body.walked; spelled = body.spelled; split = refl; proper = (body.part, body.kind_whole, g.id_whole ∙ ap (λ x. unwrap_or x.id_length 0) head_is, omega arith) };
            viable = body_goes_on laws range body octets_of others before_it.members (subst (PassesBetween (language.future read) b.head.payload_length) most_is can);
            matches = (before_it.place_is, phase_eq (head fields) (fields.payload_length - 0) (omega arith) head_is, body.speaks);
          }
        where
          phase_eq : (h' : Head) (n' : ℕ) → b.head.payload_length ≡ n' → b.head ≡ h' → phases.Payload b.head b.head.payload_length ≡ phases.Payload h' n'
          phase_eq h' n' e1 e2 = ap (λ n. phases.Payload b.head n) e1 ∙ ap (λ x. phases.Payload x n') e2

      at_payload : AtPayload language limits state up_to before_it.items b.head b.head.payload_length point
      at_payload = record {
        stands = stands;
        c = before_it.there;
        f = fields;
        kind = b.kind.now;
        id = g.id;
        payload = [];
        point_is = refl;
        head_is = head_is;
        left_is = body.left_is;
        place_is = before_it.place_is;
        speaks = body.speaks;
      }

      up_to_length : length up_to ≡ taken + b.front
      up_to_length =
          let within = g.begins.within in
          let n = length-append (take taken input) (part_octets fields b.kind.now g.id []) in
          let h = length-append (octets fields) (b.kind.now ++ (g.id ++ [])) in
          let k = length-append b.kind.now (g.id ++ []) in
          let i = length-append g.id [] in
          let t : length (take taken input) ≡ taken = length-take-le taken input came.within in
          let o : length (octets fields) ≡ g.count = ap length g.begins.whole.spelled ∙ length-take-le g.count (rest input taken) within in
          let f = g.front_is in
          omega (arith, n, h, k, i, t, o, f)

      module _ {read' : L} {count : ℕ} (taking : StepsAll (language.future read) (language.future read') b.payload.now b.head.payload_length b.head.payload_length count)
          {at : ℕ} (at_is : at ≡ taken + b.front + count) where
        -- an octet of it is refused
        pub refused : ((tnf : Tnf) (name : List ℕ) (n : ℕ) (profile : Profile) → Reaches (language.reached read tnf name n profile) (language.reached read' tnf name n profile) (take (count + 1) b.payload.now)) → count < length b.payload.now → {reason : Reason}
            → ((tnf : Tnf) (name : List ℕ) (n : ℕ) (profile : Profile) (s : List ℕ) → language.reached read tnf name n profile s → IsLowest (language.reasons tnf name n profile (s ++ take count b.payload.now) (get_or b.payload.now count 0)) reason)
            → Refuses language.payloads language.reasons limits input (record { at = at; reason = reason })
        refused r l {reason} why =
            let t = b.payload.now in
            let later = drop (count + 1) t ++ g.rest in
            let all : (up_to ++ take (count + 1) t) ++ later ≡ input = append_assoc up_to (take (count + 1) t) later
            ∙ ap (λ y. up_to ++ y) (sym (append_assoc (take (count + 1) t) (drop (count + 1) t) g.rest) ∙ ap (λ y. y ++ g.rest) (take-append-drop (count + 1) t)) ∙ sym whole_input in
            let there : length up_to + count ≡ at = omega (arith, up_to_length, at_is) in
            let on = all_stopped laws range octets_of others at_payload read' t payload_octets g.few most_is taking r l {at = length up_to} {reason = reason} refl why in
            subst (λ n. Refuses language.payloads language.reasons limits input (record { at = n; reason = reason })) there
            (subst (λ y. Refuses language.payloads language.reasons limits y (record { at = length up_to + count; reason = reason })) all (refused_on (take (count + 1) t) later (record state { payload = read' }) on))
          where
            refused_on : (t later : List ℕ) (state' : State L) → {refusal : Refusal} → Onward language limits (record state' { phase = phases.Refused refusal }) up_to before_it.items point t
                → Refuses language.payloads language.reasons limits ((up_to ++ t) ++ later) refusal
            refused_on t later state' {refusal} (inl w) = absurd (not_refused language limits (record state' { phase = phases.Refused refusal }) refusal w.1 refl w.3.matches)
            refused_on t later state' {refusal} (inr w) =
                let s = w.3 in
                let same : s.refusal ≡ refusal = (let p = s.phase_is in cc) in
                subst (Refuses language.payloads language.reasons limits ((up_to ++ t) ++ later)) same (refuses laws range (up_to ++ t) later _ _ s).1

        -- the input ends within it
        pub cut_within : ((tnf : Tnf) (name : List ℕ) (n : ℕ) (profile : Profile) → Reaches (language.reached read tnf name n profile) (language.reached read' tnf name n profile) b.payload.now) → count ≡ length b.payload.now → count < b.head.payload_length
            → Refuses language.payloads language.reasons limits input (record { at = at; reason = EndOfInput })
        unfolding before_it at_payload
        cut_within r e l =
            let t = b.payload.now in
            let none : g.rest ≡ [] = g.cut (omega arith) in
            let all : input ≡ up_to ++ t = whole_input ∙ ap (λ y. up_to ++ (t ++ y)) none ∙ ap (λ y. up_to ++ y) (append-nil t) in
            let there : at ≡ length (up_to ++ t) = omega (arith, up_to_length, at_is, e, length-append up_to t) in
            let viable = all_viable laws range octets_of others at_payload read' t payload_octets g.few most_is taking r e in
            let here = at_front at_payload t payload_octets (omega arith) in
            let no : ¬ IsAccepted language.payloads limits (up_to ++ t) = λ d. let u = unended laws language.payloads limits range (up_to ++ t) before_it.items (InPayload before_it.there fields b.kind.now g.id ([] ++ t)) here d in ended_not u.0 u.1 in
            subst (λ y. Refuses language.payloads language.reasons limits y (record { at = at; reason = EndOfInput })) (sym all) (cut_off language.payloads language.reasons limits at (up_to ++ t) there viable no)
          where
            ended_not : (c : Before) → InPayload before_it.there fields b.kind.now g.id ([] ++ b.payload.now) ≡ AtEnd c → ⊥
            ended_not c q = cc
