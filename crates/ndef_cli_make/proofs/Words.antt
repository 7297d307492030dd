-- The meaning of single words.
use Rattle.std.proofs.Common.{◌≡◌, ◌∙◌, ◌<◌, ℕ, true, false, List, [], map, length, Option, Some, None, sym, ap, ap₂, arith, cond}
use Rattle.std.specs.Prelude.{◌==◌, option_map, nat_lt, unwrap_or}
use Rattle.std.specs.Borrow.{Bor}
use Rattle.std.specs.List.{after_first, before_first, position_or_len}
use Rattle.std.proofs.lemmas.Bool.{false_from_ne_true, lt-ltb, ltb-true}
use Rattle.std.proofs.lemmas.Str.Pattern.{IsSplitOnceResult, split_once_first}
use Rattle.clap.specs.Words.{Text, matched_of, raw_values, rows_of}
use Rattle.clap.specs.declared.parser.matches.Found.{Found}
use Rattle.clap.proofs.WalkLemmas.{raw_values-rows}
use Rattle.ndef_cli_make.specs.Options.{cut_at, option_words}

-- ---- words that are cut

-- a word that is cut at the first byte of a kind
pub word_cut : (byte : ℕ) → byte < 128 → (word : Text) (r : Option (Bor Text × Bor Text)) → IsSplitOnceResult byte word r
    → option_map (λ t. (t.0.now, t.1.now)) r ≡ cut_at (λ b. b == byte) word
word_cut byte small word None h =
    let none = split_once_first byte word None h small in
    let no : nat_lt (position_or_len (λ b. b == byte) word) (length word) ≡ false =
    false_from_ne_true _ (λ e. let l = ltb-true (position_or_len (λ b. b == byte) word) (length word) e in omega (arith, l, none)) in
    ap (λ b. cond b (Some (before_first (λ b. b == byte) word, after_first (λ b. b == byte) word)) None) (sym no)
word_cut byte small word (Some x) h =
    let some = split_once_first byte word (Some x) h small in
    let yes : nat_lt (position_or_len (λ b. b == byte) word) (length word) ≡ true = lt-ltb (position_or_len (λ b. b == byte) word) (length word) some.0 in
    ap₂ (λ a b. Some (a, b)) some.1 some.2 ∙ ap (λ b. cond b (Some (before_first (λ b. b == byte) word, after_first (λ b. b == byte) word)) None) (sym yes)

-- ---- options

-- the words of an option that are given
pub words_given : (f : Found) (id : Text) (r : Option (Bor (List (Bor Text)))) → option_map (λ s. map (λ v. v.now) s.now) r ≡ option_map raw_values (matched_of f id)
    → unwrap_or (option_map (λ s. map (λ v. v.now) s.now) r) [] ≡ option_words id (rows_of f)
words_given f id r e = ap (λ o. unwrap_or o []) (e ∙ raw_values-rows f id)
