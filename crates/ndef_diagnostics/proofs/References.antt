-- The references of an alternative carrier, one after another.
use Rattle.std.proofs.Common.{◌≡◌, ◌∙◌, ℕ, ◌+◌, suc, Bool, true, List, ap, sym, drop, take}
use Rattle.std.specs.Prelude.{◌||◌, not, slice_index}
use Rattle.ndef_format.specs.Records.{Run}
use Rattle.ndef_diagnostics.specs.RecordRemarks.{has_dangling, refers}

-- after a reference to a record, those that are left
pub dangling_next : (left k : ℕ) (s id next : List ℕ) (message : List Run) (total : Bool) → left ≡ suc k → has_dangling left s message ≡ total
    → id ≡ take (slice_index s 0) (drop 1 s) → refers id message ≡ true → next ≡ drop (1 + slice_index s 0) s → has_dangling k next message ≡ total
dangling_next left k s id next message total more e is reported n =
    let rest = has_dangling k (drop (1 + slice_index s 0) s) message in
    let r : refers (take (slice_index s 0) (drop 1 s)) message ≡ true = sym (ap (λ i. refers i message) is) ∙ reported in
    ap (λ x. has_dangling k x message) n ∙ sym (ap (λ b. not b || rest) r) ∙ sym (ap (λ l. has_dangling l s message) more) ∙ e
