use Rattle.std.proofs.Common.{◌∙◌, ◌++◌, ◌-◌, ap, ap₂, append_assoc, codes, decimal}
use Rattle.ndef_cli_make.proofs.fault.lengths_text.Goals as goal

pub returns : goal.returns
returns c =
    let most = c.most_in-most.ensures in
    let size = c.push_number.ensures.text ∙ ap (λ t. t ++ decimal c.args.size) (c.push.ensures ∙ ap (λ t. t ++ codes "a message of ") c.new-line.ensures) in
    let room = c.push_number-2.ensures.text ∙ ap₂ (λ t n. t ++ decimal n) (c.push-2.ensures ∙ ap (λ t. t ++ codes " bytes, and the tag has room for ") size) most in
    let over = c.saturating_sub.ensures ∙ ap (λ n. c.args.size - n) most in
    let last = c.push_number-3.ensures.text ∙ ap₂ (λ t n. t ++ decimal n) (c.push-3.ensures ∙ ap (λ t. t ++ codes ": ") room) over in
    c.push-4.ensures ∙ ap (λ t. t ++ codes " too many") last ∙ simp append_assoc
