use Rattle.std.proofs.Common.{◌∙◌, List, ℕ, ap₂, subst}
use Rattle.ndef_format.specs.declared.profile.Profile.TheVariants.{Strict}
use Rattle.ndef_format.specs.Kinds.{kind_of}
use Rattle.ndef_lang.specs.Place.{IsRefused}
use Rattle.ndef_format.specs.declared.kind.Kind.{Kind}
use Rattle.ndef_format.specs.Payloads.{IsKindPayload}
use Rattle.ndef_format.specs.NestedReasons.{KindReason}
use Rattle.ndef_cli_make.proofs.records.checked.Goals as goal

pub returns-in-Some : goal.returns-in-Some
returns-in-Some c =
    let refusal = c.in-Some.refusal in
    let kind = c.of-kind.ensures ∙ ap₂ kind_of c.tnf.ensures.value c.kind.ensures.value in
    let reported = subst (λ (payload : List ℕ). IsRefused (IsKindPayload c.of-kind.result 65535 Strict) (KindReason c.of-kind.result 65535 Strict) payload refusal.at refusal.reason)
    c.payload.ensures.value c.in-Some.ensures.refused in
    subst (λ (k : Kind). IsRefused (IsKindPayload k 65535 Strict) (KindReason k 65535 Strict) c.args.item.payload refusal.at refusal.reason) kind reported
