-- Lines in colour, one after another.
use Rattle.std.proofs.Common.{◌≡◌, ◌∙◌, ◌++◌, ◌∷◌, [], List, Option, Some, None, Result, Bor, ap, append_assoc, map, subst, sym, ℕ}
use Rattle.std.specs.List.{join_with_byte}
use Rattle.std.specs.Option.{option_map_or}
use Rattle.std.specs.Prelude.{codes}
use Rattle.ndef_message.specs.States.{SinkState}
use Rattle.ndef_message.specs.declared.sending.WriteFault.{WriteFault}
use Rattle.ndef_cli.specs.Quoting.{Text}
use Rattle.ndef_cli.specs.declared.status.Status.{Status}
use Rattle.ndef_cli.specs.declared.status.Status.TheVariants.{Clean}
use Rattle.ndef_cli_explain.specs.Coloring.{colored, colored_line}
use Rattle.ndef_cli_explain.specs.Lines.{lines_of}
use Rattle.ndef_cli_explain.specs.Reporting.{SendsNext, SendsOut}

-- lines in colour
abbrev pub colored_lines : List Text → Text
colored_lines lines = join_with_byte 10 (map colored_line lines)

-- the lines of what is left, if there are any
abbrev pub left : Option (Bor (List ℕ)) → List Text
left rest = option_map_or (λ more. lines_of more.now) rest []

-- a line goes out, and more come after it
pub next_line : (done line : Text) (rest : Option (Bor (List ℕ))) (more : Bor (List ℕ)) (next : Text) (others : Option (Bor (List ℕ))) (text : Text) (start s t u : SinkState)
    (sent shown ended : Result Status WriteFault) → rest ≡ Some more → lines_of more.now ≡ next ∷ left others → SendsOut done Clean start s sent
    → done ++ colored_lines (line ∷ left rest) ≡ colored text → SendsNext sent (colored_line line) s t shown → SendsNext shown (codes "\n") t u ended
    → (x : Text) × SendsOut x Clean start u ended × (x ++ colored_lines (next ∷ left others) ≡ colored text)
next_line done line rest more next others text start s t u sent shown ended some split out same line_out end_out = (
  done ++ colored_line line ++ codes "\n",
  end_out (done ++ colored_line line) start (line_out done start out),
  regroup done (colored_line line) (colored_lines (next ∷ left others)) ∙ ap (λ ls. done ++ colored_lines (line ∷ ls)) (sym (ap left some ∙ split)) ∙ same,
)
  where
    regroup : (a b c : Text) → ((a ++ b) ++ codes "\n") ++ c ≡ a ++ (b ++ (codes "\n" ++ c))
    regroup a b c = simp append_assoc

-- the last line goes out
pub last_line : (done line : Text) (rest : Option (Bor (List ℕ))) (text : Text) (start s t : SinkState) (sent shown : Result Status WriteFault) → rest ≡ None
    → SendsOut done Clean start s sent → done ++ colored_lines (line ∷ left rest) ≡ colored text → SendsNext sent (colored_line line) s t shown
    → SendsOut (colored text) Clean start t shown
last_line done line rest text start s t sent shown none out same line_out =
    subst (λ x. SendsOut x Clean start t shown) (ap (λ r. done ++ colored_lines (line ∷ left r)) (sym none) ∙ same) (line_out done start out)
