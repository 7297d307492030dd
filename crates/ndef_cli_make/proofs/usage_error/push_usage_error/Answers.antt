use Rattle.std.proofs.Common.{◌≡◌, ◌∙◌, ◌++◌, append_assoc, ap, sym, rules}
use Rattle.std.specs.Prelude.{codes, decimal}
use Rattle.ndef_cli_make.specs.UsageErrors.{usage_error_text, usage_error_words}
use Rattle.ndef_cli_make.specs.declared.usage_error.UsageError.{UsageError}
use Rattle.ndef_cli_make.specs.declared.usage_error.UsageError.TheVariants.{NoSuchRecord}
use Rattle.ndef_cli_make.proofs.usage_error.push_usage_error.Goals as goal

pub returns-in-NoSuchRecord-clause-text : goal.returns-in-NoSuchRecord-clause-text
returns-in-NoSuchRecord-clause-text c =
    let old = c.args.line.now in
    let n = c.in-NoSuchRecord.number in
    let last = c.in-NoSuchRecord.last in
    let words = usage_error_words c.args.usage_error in
    let between = codes ": its last is " in
    let is : c.args.usage_error ≡ NoSuchRecord n last = c.in-NoSuchRecord.is in
    let reported : usage_error_text c.args.usage_error ≡ ((words ++ decimal n) ++ between) ++ decimal last =
    ap usage_error_text is ∙ ap (λ (m : UsageError). ((usage_error_words m ++ decimal n) ++ between) ++ decimal last) (sym is) in
    let same : c.from.result ≡ n = search rules in
    let front : c.push.new.self ≡ old ++ words = c.push.ensures ∙ ap (λ t. old ++ t) c.text.ensures.value in
    let number : c.push_number.new.self ≡ (old ++ words) ++ decimal n =
    c.push_number.ensures.text ∙ ap (λ k. c.push.new.self ++ decimal k) same ∙ ap (λ t. t ++ decimal n) front in
    let middle = c.push-in-NoSuchRecord.ensures ∙ ap (λ t. t ++ between) number in
    let all = c.push_number-in-NoSuchRecord.ensures.text ∙ ap (λ t. t ++ decimal last) middle in
    all ∙ ap (λ t. (t ++ between) ++ decimal last) (append_assoc old words (decimal n)) ∙ ap (λ t. t ++ decimal last) (append_assoc old (words ++ decimal n) between)
    ∙ append_assoc old ((words ++ decimal n) ++ between) (decimal last) ∙ ap (λ t. old ++ t) (sym reported)
