-- If payloads aren't validated, octets are refused in heads alone.
use Rattle.std.proofs.Common.{◌≡◌, ℕ, ◌-◌, ◌<◌, ◌≤◌, ◌^◌, ◌⊎◌, ◌↔◌, inl, inr, Bool, true, false, refl, sym, ◌∙◌, ap, subst, arith, List, [], ◌∷◌, ◌++◌, length, map, take, get_or, append_assoc, length-append, Option, Some, None, zero, suc}
use Rattle.std.specs.Prelude.{unwrap_or, is_some, slice_index, ⊤, if◌then◌else◌}
use Rattle.std.specs.List.{AllByRecursion}
use Rattle.std.proofs.lemmas.List.{append-nil, take_more}
use Rattle.ndef_format.specs.declared.tnf.Tnf.{Tnf}
use Rattle.ndef_value.specs.ListLaws.{octets_append, octets_front, zeros, zeros_length, zeros_octets}
use Rattle.ndef_lang.specs.RecordLanguage.{AreOfOctets, TakesOthers}
use Rattle.ndef_format.specs.Reasons.{reason_number, Conditions}
use Rattle.ndef_format.specs.Messages.{Item}
use Rattle.ndef_format.specs.Records.{HeadFields, AreOctets, octets}
use Rattle.ndef_format.specs.Limits.{LimitValues, AreInRange}
use Rattle.ndef_format.specs.declared.profile.Profile.{Profile}
use Rattle.ndef_format.specs.declared.reason.Reason.{Reason}
use Rattle.ndef_format.specs.declared.reason.Reason.TheVariants.{DoesNotFit, EndOfInput}
use Rattle.ndef_format.specs.Payloads.{Sets}
use Rattle.ndef_format.specs.HeadReasons.{conditions, lowest, reason_for}
use Rattle.ndef_piece.specs.Conditions.{ConditionsAreInOrder}
use Rattle.ndef_piece.specs.Field.{OneField}
use Rattle.ndef_piece.specs.Heads.{IsViableHead}
use Rattle.ndef_format.specs.Positions.{IsOpen, record_so_far}
use Rattle.ndef_piece.specs.Walk.{Before, spot}
use Rattle.ndef_format.specs.Accepted.{IsViable}
use Rattle.ndef_format.specs.Refusals.{IsReason}
use Rattle.ndef_message.specs.Place.{RefusesHeadsAlone}
use Rattle.ndef_message.specs.Machine.Points.{Point, InHead, InType, InId, InPayload, AtEnd, before, field_of, octets_at, part_octets, IsPartAt, IsProperAt, IsAtPoint, IsReasonAt}
use Rattle.ndef_message.specs.Machine.Format.{FormatLaws}
use Rattle.ndef_message.specs.Machine.Payload.{most_left}
use Rattle.ndef_message.proofs.Befores.{good_at}
use Rattle.ndef_message.proofs.Bodies.{CanComplete, Finished}
use Rattle.ndef_message.proofs.Placed.{placed, reason_at}
use Rattle.ndef_message.proofs.Places.{order}
use Rattle.ndef_message.proofs.Reaching.{viable_reaches}
use Rattle.ndef_message.proofs.Viable as viable

-- ---- the conditions on heads

in_order : (cs : List (Reason × Bool)) (reason : Reason) → AllByRecursion (λ n. n ≤ 14) (map (λ c. reason_number c.0) cs) → lowest cs ≡ Some reason → reason_number reason ≤ 14
in_order [] reason a e = cc
in_order (c ∷ cs) reason a e = by_flag c.1 refl (in_order cs reason a.1)
  where
    by_flag : (b : Bool) → c.1 ≡ b → (lowest cs ≡ Some reason → reason_number reason ≤ 14) → reason_number reason ≤ 14
    by_flag true f later = let same : Some c.0 ≡ Some reason = sym (ap (λ b. if b then Some c.0 else lowest cs) f) ∙ e in subst (λ r. reason_number r ≤ 14) (let g : c.0 ≡ reason = cc in g) a.0
    by_flag false f later = later (sym (ap (λ b. if b then Some c.0 else lowest cs) f) ∙ e)

at_most : AllByRecursion (λ n. n ≤ 14) (1 ∷ 2 ∷ 3 ∷ 4 ∷ 5 ∷ 6 ∷ 7 ∷ 8 ∷ 9 ∷ 10 ∷ 11 ∷ 12 ∷ 13 ∷ 14 ∷ [])
at_most = (omega arith, (omega arith, (omega arith, (omega arith, (omega arith, (omega arith, (omega arith, (omega arith, (omega arith, (omega arith, (omega arith, (omega arith, (omega arith, (omega arith, tt))))))))))))))

-- ---- records so far

same_payload : (m : Option Item) (f g : HeadFields) (k i z : List ℕ) → (record_so_far m f k i z).payload ≡ (record_so_far m g k i z).payload
same_payload None f g k i z = refl
same_payload (Some m) f g k i z = refl

none_so_far : (m : Option Item) (f : HeadFields) (k i : List ℕ) → m ≡ None → AreOctets (record_so_far m f k i []).payload
none_so_far None f k i e = tt
none_so_far (Some m) f k i e = cc

one_more : (m : Option Item) (f : HeadFields) (k i z : List ℕ) (b : ℕ) → AreOctets (record_so_far m f k i z).payload → AreOctets z → b < 256 → AreOctets (record_so_far m f k i (z ++ b ∷ [])).payload
one_more None f k i z b a o h = octets_append z (b ∷ []) o (h, tt)
one_more (Some m) f k i z b a o h = octets_append m.payload (z ++ b ∷ []) (octets_front m.payload z a) (octets_append z (b ∷ []) o (h, tt))

octet_at : (bytes : List ℕ) (n : ℕ) → AreOctets bytes → n < length bytes → get_or bytes n 0 < 256
octet_at [] n a h = absurd (omega arith)
octet_at (b ∷ bytes) zero a h = a.0
octet_at (b ∷ bytes) (suc n) a h = octet_at bytes n a.1 (omega arith)

module _ (laws : FormatLaws) (limits : LimitValues) (set : Sets) (any : (tnf : Tnf) (name : List ℕ) (records : ℕ) (profile : Profile) (s : List ℕ) → set tnf name records profile s ↔ AreOctets s) where
  octets_of : AreOfOctets set
  octets_of tnf name n profile s h = (any tnf name n profile s).0 h

  others : TakesOthers set
  others tnf name unnamed n profile s h = (any tnf name n profile s).1 h

  -- a payload that is octets so far can be completed
  filled : (c : Before) (f : HeadFields) (k i z : List ℕ) → AreOctets (record_so_far c.begun f k i z).payload → CanComplete set limits c f k i z
  filled c f k i z a =
      let n = f.payload_length - length z in
      let so_far = (record_so_far c.begun f k i z).payload in
      record {
        rest = zeros n;
        passed = (any _ _ limits.records limits.profile (so_far ++ zeros n)).1 (octets_append so_far (zeros n) a (zeros_octets n));
        least = omega (arith, zeros_length n);
        most = at_most f.chunked n (zeros_length n);
      }
    where
      at_most : (b : Bool) (n : ℕ) → length (zeros n) ≡ n → length (zeros n) ≤ most_left b c.room f.payload_length n
      at_most true n e = omega arith
      at_most false n e = omega arith

  -- what can be completed is octets so far
  octets_so : (c : Before) (f : HeadFields) (k i z : List ℕ) → CanComplete set limits c f k i z → AreOctets (record_so_far c.begun f k i z).payload
  octets_so c f k i z y = octets_front (record_so_far c.begun f k i z).payload y.rest (octets_of _ _ _ _ _ y.passed)

  abbrev Done : Before → List ℕ → Type 0
  Done = Finished laws limits set

  -- ---- an octet more

  head_on : (c : Before) (xs : List ℕ) (b : ℕ) → c.over ≡ false → IsOpen (spot limits.profile c) xs → c.room < 2 ^ 32 → Done c xs → IsViableHead (spot limits.profile c) (xs ++ b ∷ []) → Done c (xs ++ b ∷ [])
  head_on c xs b o open_still small done h = by_begun (is_some c.begun) refl
    where
      none : (m : Option Item) → is_some m ≡ false → m ≡ None
      none None e = refl
      none (Some m) e = cc

      by_begun : (v : Bool) → is_some c.begun ≡ v → Done c (xs ++ b ∷ [])
      by_begun false e = viable.head_finished laws limits set octets_of others c (xs ++ b ∷ []) h.0 o small (none c.begun e) h.1
      by_begun true e =
          let t = viable.first_head laws limits set c xs o open_still done in
          let y = viable.later_needs laws limits set c t.0 o e t.1.stands t.2 in
          let a = subst AreOctets (same_payload c.begun t.0 h.0 [] [] []) (octets_so c t.0 [] [] [] y) in
          viable.later_finished laws limits set octets_of others c (xs ++ b ∷ []) h.0 o small e h.1 (filled c h.0 [] [] [] a)

  -- where a type or an id goes on, no record is open
  none_open : (m : Option Item) (n : ℕ) → 0 < n → (is_some m ≡ true → n ≡ 0) → m ≡ None
  none_open None n l h = refl
  none_open (Some m) n l h = let e = h refl in absurd (omega arith)

  type_on : (c : Before) (f : HeadFields) (k : List ℕ) (b : ℕ) → IsPartAt limits c f k [] [] → length k < f.kind_length → c.room < 2 ^ 32 → b < 256 → Done c (part_octets f k [] [] ++ b ∷ [])
  type_on c f k b p l small octet =
      let t = k ++ b ∷ [] in
      let n = length-append k (b ∷ []) in
      let none = none_open c.begun f.kind_length (omega arith) (λ e. viable.later_kind limits c f e p.stands) in
      let q : IsPartAt limits c f t [] [] = record {
        goes_on = p.goes_on;
        stands = p.stands;
        kind_octets = octets_append k (b ∷ []) p.kind_octets (octet, tt);
        id_octets = tt;
        payload_octets = tt;
      } in
      let whole : Done c (part_octets f t [] []) = elim (order (length t) f.kind_length) as (λ v. Done c (part_octets f t [] [])) [
        | inl less ↦ viable.type_finished laws limits set octets_of others c f t q small none (inl less)
        | inr more ↦ viable.id_finished laws limits set octets_of others c f t [] q small (omega arith) (omega arith) (filled c f t [] [] (none_so_far c.begun f t [] none))
      ] in
      viable.finished_same laws limits set c _ _ (regroup (octets f)) whole
    where
      regroup : (h : List ℕ) → h ++ ((k ++ b ∷ []) ++ []) ≡ (h ++ (k ++ [])) ++ b ∷ []
      regroup h = ap (λ y. h ++ y) (append-nil (k ++ b ∷ []) ∙ ap (λ y. y ++ b ∷ []) (sym (append-nil k))) ∙ sym (append_assoc h (k ++ []) (b ∷ []))

  id_on : (c : Before) (f : HeadFields) (k i : List ℕ) (b : ℕ) → IsPartAt limits c f k i [] → length k ≡ f.kind_length → length i < unwrap_or f.id_length 0 → c.room < 2 ^ 32 → b < 256
      → Done c (part_octets f k i [] ++ b ∷ [])
  id_on c f k i b p ek l small octet =
      let j = i ++ b ∷ [] in
      let n = length-append i (b ∷ []) in
      let none = none_open c.begun (unwrap_or f.id_length 0) (omega arith) (λ e. viable.later_id limits c f e p.stands) in
      let q : IsPartAt limits c f k j [] = record {
        goes_on = p.goes_on;
        stands = p.stands;
        kind_octets = p.kind_octets;
        id_octets = octets_append i (b ∷ []) p.id_octets (octet, tt);
        payload_octets = tt;
      } in
      let whole = viable.id_finished laws limits set octets_of others c f k j q small ek (omega arith) (filled c f k j [] (none_so_far c.begun f k j none)) in
      viable.finished_same laws limits set c _ _ (regroup (octets f)) whole
    where
      regroup : (h : List ℕ) → h ++ (k ++ ((i ++ b ∷ []) ++ [])) ≡ (h ++ (k ++ (i ++ []))) ++ b ∷ []
      regroup h =
          ap (λ y. h ++ (k ++ y)) (append-nil (i ++ b ∷ []) ∙ ap (λ y. y ++ b ∷ []) (sym (append-nil i)))
          ∙ ap (λ y. h ++ y) (sym (append_assoc k (i ++ []) (b ∷ []))) ∙ sym (append_assoc h (k ++ (i ++ [])) (b ∷ []))

  payload_on : (c : Before) (f : HeadFields) (k i z : List ℕ) (b : ℕ) → IsPartAt limits c f k i z → length k ≡ f.kind_length → length i ≡ unwrap_or f.id_length 0 → length z < f.payload_length → c.room < 2 ^ 32
      → Done c (part_octets f k i z) → b < 256 → Done c (part_octets f k i z ++ b ∷ [])
  payload_on c f k i z b p ek ei l small done octet =
      let w = z ++ b ∷ [] in
      let n = length-append z (b ∷ []) in
      let y = viable.body_needs laws limits set c f k i z p.goes_on p.stands ek (inl ei) (omega arith) done in
      let a = one_more c.begun f k i z b (octets_so c f k i z y) p.payload_octets octet in
      let q : IsPartAt limits c f k i w = record {
        goes_on = p.goes_on;
        stands = p.stands;
        kind_octets = p.kind_octets;
        id_octets = p.id_octets;
        payload_octets = octets_append z (b ∷ []) p.payload_octets (octet, tt);
      } in
      let whole = viable.body_finished laws limits set octets_of others c f k i w q small ek ei (omega arith) (filled c f k i w a) in
      viable.finished_same laws limits set c _ _ (regroup (octets f)) whole
    where
      regroup : (h : List ℕ) → h ++ (k ++ (i ++ (z ++ b ∷ []))) ≡ (h ++ (k ++ (i ++ z))) ++ b ∷ []
      regroup h =
          ap (λ y. h ++ (k ++ y)) (sym (append_assoc i z (b ∷ []))) ∙ ap (λ y. h ++ y) (sym (append_assoc k (i ++ z) (b ∷ []))) ∙ sym (append_assoc h (k ++ (i ++ z)) (b ∷ []))

  -- within a head, some head continues with the octet
  abbrev HeadGoesOn : Point → ℕ → Type 0
  HeadGoesOn (InHead c xs) b = IsViableHead (spot limits.profile c) (xs ++ b ∷ [])
  HeadGoesOn (AtEnd c) b = ⊥
  HeadGoesOn _ b = ⊤

  point_on : (point : Point) (b : ℕ) → IsProperAt limits point → (before point).room < 2 ^ 32 → Done (before point) (octets_at point) → b < 256 → HeadGoesOn point b
      → Done (before point) (octets_at point ++ b ∷ [])
  point_on (InHead c xs) b p small done octet h = head_on c xs b p.0 p.1 small done h
  point_on (InType c f k) b p small done octet h = type_on c f k b p.0 p.1 small octet
  point_on (InId c f k i) b p small done octet h = id_on c f k i b p.0 p.1 p.2 small octet
  point_on (InPayload c f k i z) b p small done octet h = payload_on c f k i z b p.0 p.1 p.2 p.3 small done octet
  point_on (AtEnd c) b p small done octet h = absurd h

  goes_on : AreInRange limits → (front : List ℕ) (given : List Item) (point : Point) (b : ℕ) → IsAtPoint limits front given point → IsViable set limits front → b < 256 → HeadGoesOn point b
      → IsViable set limits (front ++ b ∷ [])
  goes_on range front given point b a v octet h =
      let room = (good_at limits range a.pieces (before point) given a.walked).room in
      let low = range.payload.1 in
      let so_far = octets_at point in
      let t = viable.finished laws limits set range a.pieces (before point) given a.done a.walked a.spelled so_far (subst (IsViable set limits) a.split v) in
      let next = point_on point b a.proper (omega arith) t.1 octet h in
      let e : a.done ++ (so_far ++ b ∷ []) ≡ front ++ b ∷ [] = sym (append_assoc a.done so_far (b ∷ [])) ∙ ap (λ y. y ++ b ∷ []) (sym a.split) in
      subst (IsViable set limits) e (viable.viable laws limits set range a.pieces (before point) given a.done a.walked a.spelled (so_far ++ b ∷ []) t.0 next)

  -- the octet after a front is refused by a condition on heads
  by_head : ConditionsAreInOrder → AreInRange limits → (holds : Conditions) (front : List ℕ) (given : List Item) (point : Point) (b : ℕ) (reason : Reason) → IsAtPoint limits front given point
      → IsViable set limits front → ¬ IsViable set limits (front ++ b ∷ []) → b < 256 → IsReasonAt holds limits point b reason → reason_number reason ≤ 14
  by_head ordered range holds front given (InHead c xs) b reason a v stops octet why = by_reason (reason_for (spot limits.profile c) xs b) refl
    where
      by_reason : (r : Option Reason) → reason_for (spot limits.profile c) xs b ≡ r → reason_number reason ≤ 14
      by_reason None e = absurd (stops (goes_on range front given (InHead c xs) b a v octet ((laws.exact (spot limits.profile c) xs b octet a.proper.1).0 e)))
      by_reason (Some r) e =
          let all : AllByRecursion (λ n. n ≤ 14) (map (λ c. reason_number c.0) (conditions (spot limits.profile c) xs b)) =
          subst (AllByRecursion (λ n. n ≤ 14)) (sym (ordered (spot limits.profile c) xs b)) at_most in
          subst (λ x. reason_number x ≤ 14) (sym (why ∙ ap (λ o. unwrap_or o DoesNotFit) e)) (in_order (conditions (spot limits.profile c) xs b) r all e)
  by_head ordered range holds front given (InType c f k) b reason a v stops octet why = absurd (stops (goes_on range front given (InType c f k) b a v octet tt))
  by_head ordered range holds front given (InId c f k i) b reason a v stops octet why = absurd (stops (goes_on range front given (InId c f k i) b a v octet tt))
  by_head ordered range holds front given (InPayload c f k i z) b reason a v stops octet why = absurd (stops (goes_on range front given (InPayload c f k i z) b a v octet tt))
  by_head ordered range holds front given (AtEnd c) b reason a v stops octet why = absurd why

-- octets are refused in heads alone
pub heads_alone : FormatLaws → OneField → ConditionsAreInOrder → (set : Sets) (holds : Conditions)
    → ((tnf : Tnf) (name : List ℕ) (records : ℕ) (profile : Profile) (s : List ℕ) → set tnf name records profile s ↔ AreOctets s) → RefusesHeadsAlone set holds
heads_alone laws one ordered set holds any limits bytes refusal range a r =
    let at = refusal.at in
    let within = r.place.within in
    elim (order at (length bytes)) as (λ v. (reason_number refusal.reason ≤ 14) ⊎ (refusal.reason ≡ EndOfInput)) [
      | inl l ↦
          let front = take at bytes in
          let b = slice_index bytes at in
          let w = r.why.at_byte l in
          let reached = viable_reaches laws limits set range front r.place.viable in
          let p = placed laws.counted limits front reached.0 reached.1 reached.2 in
          let same = one limits front w.0 p.runs w.1 p.begun w.2 (field_of reached.1) w.3 p.at in
          let why =
          subst (λ f. IsReason holds limits p.runs p.begun f b refusal.reason) same.2
          (subst (λ g. IsReason holds limits p.runs g w.2 b refusal.reason) same.1 (subst (λ x. IsReason holds limits x w.1 w.2 b refusal.reason) same.0 w.4)) in
          let stops = subst (λ s. ¬ IsViable set limits s) (take_more bytes at 0 l) (r.place.stops l) in
          inl (by_head laws limits set any ordered range holds front reached.0 reached.1 b refusal.reason reached.2 r.place.viable stops (octet_at bytes at a l) (reason_at p holds b refusal.reason why))
      | inr m ↦ inr (r.why.at_end (omega arith))
    ]
