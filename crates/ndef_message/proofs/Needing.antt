-- Memory is needed only before the byte that is refused.
use Rattle.std.proofs.Common.{◌≡◌, ℕ, ◌+◌, ◌<◌, ◌≤◌, ◌⊎◌, inl, inr, sym, ◌∙◌, ap, subst, arith, List, [], ◌∷◌, ◌++◌, length, length-append, map, take, drop, append_assoc}
use Rattle.std.proofs.Math.Seq.{take-append_seam, take-append-add}
use Rattle.std.proofs.lemmas.List.{length-take-le, take-append-drop, take-append-le}
use Rattle.ndef_format.specs.Limits.{LimitValues}
use Rattle.ndef_format.specs.Accepted.{IsViable}
use Rattle.ndef_format.specs.Messages.{SpellsPieces, all_pieces, run_record}
use Rattle.ndef_format.specs.Payloads.{Sets}
use Rattle.ndef_format.specs.Records.{Run, body, fields, octets}
use Rattle.ndef_format.specs.Reasons.{Conditions}
use Rattle.ndef_format.specs.Positions.{IsAt}
use Rattle.ndef_format.specs.Refusals.{Refuses}
use Rattle.ndef_format.specs.declared.refusal.Refusal.{Refusal}
use Rattle.ndef_message.specs.Decoding.{Wants}
use Rattle.ndef_message.specs.Readings.{EndsRecord, FirstByteNeedsNone, GrowsAt, NeedsMemoryBefore, MemoryIsNeededBefore}
use Rattle.ndef_message.proofs.ReadingOn.{refused_after}

-- what is viable ends at the refused byte
refused_longest : (set : Sets) (holds : Conditions) (limits : LimitValues) (input : List ℕ) (refusal : Refusal) → Refuses set holds limits input refusal
    → (n : ℕ) → n ≤ length input → IsViable set limits (take n input) → n ≤ refusal.at
refused_longest set holds limits input refusal r n h v =
    let e : input ≡ take n input ++ drop n input = sym (take-append-drop n input) in
    let following = refused_after set holds limits (take n input) (drop n input) refusal (subst (λ x. Refuses set holds limits x refusal) e r) v in
    omega (arith, following, length-take-le n input h)

pub memory_is_needed_before : (set : Sets) (holds : Conditions) → MemoryIsNeededBefore set holds
memory_is_needed_before set holds limits input bytes refusal r w = by_front w.front
  where
    by_front : (rest : List ℕ) × (input ≡ bytes ++ w.shown ++ rest) → NeedsMemoryBefore set limits input refusal.at
    by_front (rest, split) = by_wants w.needs
      where
        whole : input ≡ bytes ++ (w.shown ++ rest)
        whole = split ∙ append_assoc bytes w.shown rest

        front : take (length bytes) input ≡ bytes
        front = ap (take (length bytes)) whole ∙ take-append_seam bytes (w.shown ++ rest)

        by_wants : EndsRecord set limits bytes w.given ⊎ Wants set limits bytes w.given w.shown → NeedsMemoryBefore set limits input refusal.at
        by_wants (inl e) = record {
          count = length bytes;
          given = w.given;
          needs = inl (
            refused_after set holds limits bytes (w.shown ++ rest) refusal (subst (λ x. Refuses set holds limits x refusal) whole r) e.1,
            subst (λ x. EndsRecord set limits x w.given) (sym front) e,
          );
        }
        by_wants (inr g) =
            let n = g.count in
            let some : n + 1 ≤ length w.shown = (let h = g.within in omega arith) in
            let upto : (k : ℕ) → k ≤ length w.shown → take (length bytes + k) input ≡ bytes ++ take k w.shown =
            λ k h. ap (take (length bytes + k)) whole ∙ take-append-add bytes (w.shown ++ rest) k ∙ ap (λ x. bytes ++ x) (take-append-le k w.shown rest h) in
            let seen = bytes ++ take (n + 1) w.shown in
            let seen_length : length seen ≡ length bytes + (n + 1) = (let a = length-append bytes (take (n + 1) w.shown) in let b = length-take-le (n + 1) w.shown some in omega arith) in
            let following = refused_longest set holds limits input refusal r (length bytes + (n + 1)) (let t = ap length whole in let u = length-append bytes (w.shown ++ rest) in let v = length-append w.shown rest in omega arith)
            (subst (IsViable set limits) (sym (upto (n + 1) some)) g.viable) in
            record {
              count = length bytes + n;
              given = w.given;
              needs = inr (
                omega (arith, following),
                (g.runs, g.begun, g.field, g.means, subst (λ x. IsAt limits x g.runs g.begun g.field) (sym (upto n (let h = g.within in omega arith))) g.at, g.grows),
              );
            }

-- no record ends before the first byte
no_record : (runs : List Run) → SpellsPieces (all_pieces runs) [] → length (map run_record runs) ≡ 0
no_record [] s = omega arith
no_record (r ∷ runs) s =
    let e = ap length s.3 ∙ length-append s.1 s.2 in
    let head = ap length s.4.spelled ∙ length-append (octets (fields r.initial s.0)) (body r.initial) in
    absurd (omega (arith, e, head))

pub first_byte_needs_none : (set : Sets) (holds : Conditions) → FirstByteNeedsNone set holds
first_byte_needs_none set holds limits input bytes refusal first r w = by_wants b.needs
  where
    b : NeedsMemoryBefore set limits input refusal.at
    b = memory_is_needed_before set holds limits input bytes refusal r w

    by_wants : ((b.count ≤ refusal.at) × EndsRecord set limits (take b.count input) b.given) ⊎ ((b.count < refusal.at) × GrowsAt limits (take b.count input) b.given) → ⊥
    by_wants (inl (few, (some, v, records))) =
        let none : take b.count input ≡ [] = (let q : b.count ≡ 0 = omega arith in ap (λ n. take n input) q) in
        omega (arith, some, ap length records.means, no_record records.runs (subst (SpellsPieces (all_pieces records.runs)) none records.spelled))
    by_wants (inr (few, g)) = omega arith
