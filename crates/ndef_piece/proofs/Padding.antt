-- Octets with zeros after them.
use Rattle.std.proofs.Common.{◌≡◌, ℕ, ◌+◌, ◌-◌, ◌<◌, sym, ◌∙◌, ap, arith, List, ◌++◌, length, take, drop, length-append}
use Rattle.std.specs.Prelude.{replicate, slice_set}
use Rattle.std.proofs.lemmas.List.{length_push, length-replicate, take_more_set, take-append-drop, drop_at, drop-set-lt, drop-drop, drop-replicate}
use Rattle.ndef_piece.specs.Machine.Inside.{padded}
use Rattle.ndef_piece.specs.Machine.InsideLaws.{octets_counted}

-- zeros still follow after one more octet
pub zeros_kept : (xs : List ℕ) (i b : ℕ) → i < 7 → xs ≡ padded (take i xs) → slice_set xs i b ≡ padded (take (i + 1) (slice_set xs i b))
zeros_kept xs i b few zeros =
    let t = take i xs in
    let ys = slice_set xs i b in
    let u = take (i + 1) ys in
    let n : length t ≡ i = octets_counted xs i (omega (arith, few)) zeros in
    let whole : i < length xs = omega (arith, few, ap length zeros, length-append t (replicate (7 - length t) 0), length-replicate {A = ℕ} (7 - length t) 0) in
    let rest : drop i xs ≡ replicate (7 - i) 0 = ap (drop i) zeros ∙ drop_at t _ i n ∙ ap (λ k. replicate {A = ℕ} (7 - k) 0) n in
    let tail : drop (i + 1) ys ≡ replicate (7 - i - 1) 0 =
    drop-set-lt (i + 1) xs i b (omega arith) ∙ sym (drop-drop 1 i xs) ∙ ap (drop 1) rest ∙ drop-replicate {X = ℕ} 1 (7 - i) 0 in
    let m : length u ≡ i + 1 = ap length (take_more_set xs i b whole) ∙ length_push t b ∙ ap (λ k. k + 1) n in
    let k : 7 - i - 1 ≡ 7 - length u = omega (arith, m) in
    sym (take-append-drop (i + 1) ys) ∙ ap (λ r. u ++ r) (tail ∙ ap (λ k. replicate {A = ℕ} k 0) k)
