-- The fields of a front of a message, if the next octet is in a field.
use Rattle.std.proofs.Common.{◌≡◌, ℕ, ◌+◌, ◌<◌, ◌≤◌, sym, ◌∙◌, ap, ap₂, subst, arith, List, [], ◌∷◌, ◌++◌, length, take, drop, take_at, drop_at}
use Rattle.std.specs.Prelude.{slice_index, unwrap_or}
use Rattle.std.proofs.lemmas.List.{drop_all, drop-drop, take_all}
use Rattle.std.proofs.Math.Seq.{drop-nil, take-nil}
use Rattle.ndef_format.specs.Records.{HeadFields, octets}
use Rattle.ndef_format.specs.Messages.{all_pieces}
use Rattle.ndef_format.specs.declared.spot.Spot.{Spot}
use Rattle.ndef_format.specs.Positions.{Field, AtEnd, CanBeSpelled, InHead, InId, InPayload, InType, IsOpen, IsProper, octets_so_far, spot_after}
use Rattle.ndef_piece.specs.Come.{body_given, id_given, lengths_width}
use Rattle.ndef_piece.specs.ComeLaws.{Come, come, head_come}
use Rattle.ndef_fields.specs.Fronts.{ArePayloadFront, content_come, front_parts, kind_begun}
use Rattle.ndef_fields.specs.Parts.{Part}
use Rattle.ndef_fields.specs.Messages.{head_parts}
use Rattle.ndef_fields.specs.SoFar.{FrontsAreSoFar, parts_so_far}
use Rattle.ndef_fields.proofs.Filled.{Anywhere, Fill, nothing}
use Rattle.ndef_fields.proofs.FrontLaws.{payload_fill, same_pieces}
use Rattle.ndef_fields.proofs.Fronts.{parts_come}
use Rattle.ndef_fields.proofs.Proper.{not_whole, short_head}

-- where no octet of a payload has come it has no parts
pub no_payload : (s : List ℕ) (payload : List Part) → ArePayloadFront (kind_begun s) (content_come s) payload → content_come s ≡ [] → payload ≡ []
no_payload s payload h e =
    nothing Anywhere payload (subst (λ x. Fill Anywhere x payload) e (payload_fill (kind_begun s) (content_come s) payload h))

-- ---- in TYPE, and in ID

-- the fields of a piece with this head, by what has come after it
by_body : (f : HeadFields) (kind id content z : List ℕ) → CanBeSpelled f → take f.kind_length z ≡ kind → take (unwrap_or f.id_length 0) (drop f.kind_length z) ≡ id
    → drop (unwrap_or f.id_length 0) (drop f.kind_length z) ≡ content → Come f kind id content (octets f ++ z)
by_body f kind id content z c k i d =
    let s = octets f ++ z in
    let b = head_come f z c in
    record {
      payload_length = b.payload_length;
      id_length = b.id_length;
      kind_is = ap (take f.kind_length) b.body ∙ k;
      id_is = ap₂ (λ n x. take n (drop f.kind_length x)) b.id_count b.body ∙ i;
      content_is =
          sym (drop-drop (id_given (slice_index s 0) (drop 2 s)) f.kind_length (body_given (slice_index s 0) (drop 2 s)))
          ∙ ap₂ (λ n x. drop n (drop f.kind_length x)) b.id_count b.body ∙ d;
    }

pub in_type : (f : HeadFields) (kind : List ℕ) → CanBeSpelled f → length kind ≤ f.kind_length → Come f kind [] [] (octets f ++ kind)
in_type f kind c l =
    let n = unwrap_or f.id_length 0 in
    let past = drop_all f.kind_length kind l in
    by_body f kind [] [] kind c (take_all f.kind_length kind l) (ap (take n) past ∙ take-nil n) (ap (drop n) past ∙ drop-nil n)

pub in_id : (f : HeadFields) (kind id : List ℕ) → CanBeSpelled f → length kind ≡ f.kind_length → length id ≤ unwrap_or f.id_length 0
    → Come f kind id [] (octets f ++ (kind ++ id))
in_id f kind id c lk li =
    let n = unwrap_or f.id_length 0 in
    let past = drop_at kind id f.kind_length lk in
    by_body f kind id [] (kind ++ id) c (take_at kind id f.kind_length lk) (ap (take n) past ∙ take_all n id li) (ap (drop n) past ∙ drop_all n id li)

-- ---- in the head

no_content : (s : List ℕ) → length (drop 2 s) < lengths_width (slice_index s 0) → content_come s ≡ []
no_content s l =
    let h = slice_index s 0 in
    let tail = drop 2 s in
    let k = slice_index s 1 + id_given h tail in
    ap (drop k) (drop_all (lengths_width h) tail (omega (arith, l))) ∙ drop-nil k

in_head : (spot : Spot) (s : List ℕ) → IsOpen spot s → content_come s ≡ []
in_head spot [] p = drop-nil (slice_index [] 1 + id_given (slice_index [] 0) [])
in_head spot (h ∷ []) p =
    let k = slice_index (h ∷ []) 1 + id_given h [] in
    ap (drop k) (drop-nil (lengths_width h)) ∙ drop-nil k
in_head spot (h ∷ k ∷ s) p = let l = short_head spot h (k ∷ s) p in no_content (h ∷ k ∷ s) (omega (arith, l))

-- ---- any field

so_far : (spot : Spot) (field : Field) (s : List ℕ) (payload : List Part) → IsProper spot field → s ≡ octets_so_far field
    → ArePayloadFront (kind_begun s) (content_come s) payload → front_parts 0 s payload ≡ parts_so_far field payload
so_far spot (InHead front) s payload p e h =
    ap₂ (front_parts 0) e (no_payload s payload h (ap content_come e ∙ in_head spot front p))
so_far spot (InType f kind) s payload p e h =
    let c = in_type f kind p.0.stands.spelled (let l = p.1 in omega (arith, l)) in
    parts_come 0 f kind [] [] s kind payload e c
    ∙ ap (head_parts 0 f kind []) (no_payload s payload h (ap content_come e ∙ c.content_is))
so_far spot (InId f kind id) s payload p e h =
    let c = in_id f kind id p.0.stands.spelled p.1 (let l = p.2 in omega (arith, l)) in
    parts_come 0 f kind id [] s (kind ++ id) payload e c
    ∙ ap (head_parts 0 f kind id) (no_payload s payload h (ap content_come e ∙ c.content_is))
so_far spot (InPayload f kind id content) s payload p e h =
    parts_come 0 f kind id content s (kind ++ (id ++ content)) payload e (come f kind id content p.0.stands.spelled p.1 p.2)
so_far spot AtEnd s payload p e h =
    ap₂ (front_parts 0) e (no_payload s payload h (ap content_come e ∙ drop-nil (slice_index [] 1 + id_given (slice_index [] 0) [])))

pub fronts_are_so_far : FrontsAreSoFar
fronts_are_so_far limits bytes parts f runs begun field a =
    let w = f.whole in
    let spot = spot_after limits runs begun in
    let same = same_pieces w.pieces (all_pieces runs ++ begun) w.front a.front f.rest (octets_so_far field) w.spelled a.spelled (sym w.split ∙ a.split)
    w.ended (not_whole spot field a.proper) in
    record {
      pieces_are = same.pieces;
      rest_is = same.rest;
      parts_are = so_far spot field f.rest f.payload a.proper same.rest f.content;
    }
