use Rattle.std.proofs.Common.{◌≡◌, ◌∙◌, ◌++◌, ◌∷◌, suc, ap, drop, drop-cons, sym, subst, take}
use Rattle.std.specs.Prelude.{IsUtf8}
use Rattle.std.proofs.lemmas.List.{take-append-drop}
use Rattle.ndef_cli.proofs.args.non_utf8_arg.Goals as goal

pub returns-in-Err : goal.returns-in-Err
returns-in-Err c =
    let args = c.args.args.now in
    let n = c.loop-word.word-index in
    let word = c.word-item.result in
    let is : args ≡ take n args ++ c.as_slice-in-Err.result.now ∷ drop (suc n) args =
    sym (take-append-drop n args) ∙ ap (λ t. take n args ++ t) (drop-cons args n word c.loop-word-test.true)
    ∙ ap (λ w. take n args ++ w ∷ drop (suc n) args) (sym c.word-item.is ∙ sym c.as_slice-in-Err.ensures.value) in
    (take n args, drop (suc n) args, is, c.loop-word.invariant, λ h. c.in-Err.ensures.cases.0 (subst IsUtf8 (c.as_slice-in-Err.ensures.value ∙ sym c.as_slice.ensures.value) h))
