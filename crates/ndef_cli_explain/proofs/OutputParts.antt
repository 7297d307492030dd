-- The output, by its parts.
use Rattle.std.proofs.Common.{◌≡◌, refl, ◌∙◌, ap, sym, true, false, List, [], ◌∷◌, ◌++◌, append_assoc, append-nil}
use Rattle.std.specs.Prelude.{codes}
use Rattle.std.proofs.lemmas.List.Sums.{fold-append}
use Rattle.json.specs.Print.{quoted}
use Rattle.serde_json.specs.Data.{Data}
use Rattle.serde_json.specs.Written.{comma_if, compact_text, items_text, members_text}
use Rattle.ndef_cli.specs.Quoting.{Text}
use Rattle.ndef_cli_explain.specs.Forms.{Form, lines, objects}
use Rattle.ndef_cli_explain.specs.Outputs.{Pair, array_of, items_of, json_line, object_of, pair_members, with_begin, with_either, with_end, with_line, with_name, with_pair, with_pairs, with_text, with_value, with_values}
use Rattle.ndef_cli_explain.specs.declared.output.Output.{Output}

abbrev output : Output → Text → Output
output out text = record out { text = text; later = true }

regroup : (a b c d : Text) → (a ++ (b ++ c)) ++ d ≡ a ++ (b ++ (c ++ d))
regroup a b c d = simp append_assoc

members : (out : Output) (pairs : List Pair) → with_end (with_pairs out pairs) (codes "}") ≡ output out (out.text ++ members_text out.later (pair_members pairs))
unfolding with_pair with_end
members out [] = refl
members out ((name, value) ∷ pairs) =
    members (with_pair out (name, value)) pairs
    ∙ ap (output out) (regroup_member out.text (comma_if out.later) (quoted name) (compact_text value) (members_text true (pair_members pairs)))
  where
    regroup_member : (a b c d e : Text) → (a ++ (b ++ (c ++ 58 ∷ d))) ++ e ≡ a ++ (b ++ (c ++ 58 ∷ (d ++ e)))
    regroup_member a b c d e = simp append_assoc

items : (out : Output) (values : List Data) → with_end (with_values out values) (codes "]") ≡ output out (out.text ++ items_text out.later (items_of values))
unfolding with_value with_end
items out [] = refl
items out (value ∷ values) =
    items (with_value out value) values ∙ ap (output out) (regroup out.text (comma_if out.later) (compact_text value) (items_text true (items_of values)))

-- an object is its members between braces
pub object_parts : (out : Output) (pairs : List Pair) → with_value out (object_of pairs) ≡ with_end (with_pairs (with_begin out (codes "{")) pairs) (codes "}")
unfolding with_value with_begin object_of
object_parts out pairs =
    sym (members (with_begin out (codes "{")) pairs ∙ ap (output out) (regroup out.text (comma_if out.later) (codes "{") (members_text false (pair_members pairs))))

-- an array is its values between brackets
pub array_parts : (out : Output) (values : List Data) → with_value out (array_of values) ≡ with_end (with_values (with_begin out (codes "[")) values) (codes "]")
unfolding with_value with_begin array_of
array_parts out values =
    sym (items (with_begin out (codes "[")) values ∙ ap (output out) (regroup out.text (comma_if out.later) (codes "[") (items_text false (items_of values))))

-- a member is its name and its value
pub pair_parts : (out : Output) (pair : Pair) → with_pair out pair ≡ with_value (with_name out pair.0) pair.1
unfolding with_value with_name with_pair
pair_parts out (name, value) = ap (output out) (named out.text (comma_if out.later) (quoted name) (compact_text value))
  where
    named : (a b c d : Text) → a ++ (b ++ (c ++ 58 ∷ d)) ≡ (a ++ (b ++ (c ++ 58 ∷ []))) ++ d
    named a b c d = simp append_assoc

-- an object in a line is its members between braces, and a line feed
pub line_parts : (out : Output) (pairs : List Pair) → out.text ++ json_line (object_of pairs) ≡ (with_end (with_end (with_pairs (with_line out) pairs) (codes "}")) (codes "\n")).text
unfolding with_line with_end json_line object_of
line_parts out pairs =
    sym (ap (λ o. (with_end o (codes "\n")).text) (members (with_line out) pairs)
    ∙ regroup_line out.text (codes "{") (members_text false (pair_members pairs)) (codes "\n"))
  where
    regroup_line : (a b c d : Text) → ((a ++ b) ++ c) ++ d ≡ a ++ ((b ++ c) ++ d)
    regroup_line a b c d = simp append_assoc

-- ---- either form

-- nothing
pub either_none : (form : Form) (out : Output) → with_either form out [] [] ≡ out
unfolding with_text
either_none (lines shown) out = ap (λ t. record out { text = t }) (append-nil out.text)
either_none (objects file) out = refl

-- lines or values, and then others
pub either_more : (form : Form) (out : Output) (one other : Text) (values more : List Data)
    → with_either form out (one ++ other) (values ++ more) ≡ with_either form (with_either form out one values) other more
unfolding with_text
either_more (lines shown) out one other values more = ap (λ t. record out { text = t }) (sym (append_assoc out.text one other))
either_more (objects file) out one other values more = fold-append with_value out values more

-- ---- lines and objects of messages

put_text : (one two : Output) (text : Text) → two ≡ with_text one text → two.text ≡ one.text ++ text
unfolding with_text
put_text one two text e = ap (λ o. o.text) e

-- two texts after one another
pub two_texts : (one two three : Output) (fields payloads : Text) → two ≡ with_text one fields → three ≡ with_text two payloads → three.text ≡ one.text ++ (fields ++ payloads)
two_texts one two three fields payloads e f = put_text two three payloads f ∙ ap (λ t. t ++ payloads) (put_text one two fields e) ∙ append_assoc one.text fields payloads

-- the lines of a message
pub lines_done : (old head fields payloads remarks new : Text) (one two three : Output) → one.text ≡ old ++ head → two ≡ with_text one fields → three ≡ with_text two payloads
    → new ≡ three.text ++ remarks → new ≡ old ++ (head ++ (fields ++ (payloads ++ remarks)))
lines_done old head fields payloads remarks new one two three e f g h =
    h ∙ ap (λ t. t ++ remarks) (two_texts one two three fields payloads f g ∙ ap (λ t. t ++ (fields ++ payloads)) e) ∙ grouped old head fields payloads remarks
  where
    grouped : (o a b c d : Text) → ((o ++ a) ++ (b ++ c)) ++ d ≡ o ++ (a ++ (b ++ (c ++ d)))
    grouped o a b c d = simp append_assoc

-- the object of a line, by its first members and the others
pub line_done : (old begun last one two : Output) (front back : List Pair) → begun ≡ with_pairs (with_line old) front → last ≡ with_pairs begun back
    → one ≡ with_end last (codes "}") → two ≡ with_end one (codes "\n") → two.text ≡ old.text ++ json_line (object_of (front ++ back))
line_done old begun last one two front back e f g h =
    ap (λ o. o.text)
    (h ∙ ap (λ o. with_end o (codes "\n")) (g ∙ ap (λ o. with_end o (codes "}")) (f ∙ ap (λ o. with_pairs o back) e ∙ sym (fold-append with_pair (with_line old) front back))))
    ∙ sym (line_parts old (front ++ back))
