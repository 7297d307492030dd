use Rattle.std.proofs.Common.{◌≡◌, sym, ◌∙◌, ap, subst, None}
use Rattle.ndef_format.specs.Kinds.{kind_of, outer_kind}
use Rattle.ndef_format.specs.Nested.{IsPayload, table_in}
use Rattle.ndef_format.specs.Payloads.{IsTypedBy}
use Rattle.ndef_nest.proofs.typed.TypedRecordLanguage.takes_all.Goals as goal

pub returns-in-None : goal.returns-in-None
returns-in-None c =
    λ all records profile s octets.
    let kind = kind_of c.args.tnf c.args.name.now in
    let e : None ≡ table_in kind = sym c.in-None.is ∙ c.table.ensures ∙ ap table_in c.of-kind.ensures in
    subst (λ t. IsTypedBy t kind records profile s) e
    (subst (λ k. IsPayload k profile s) (c.outer.ensures ∙ ap outer_kind c.of-kind.ensures) (c.takes_any.ensures all profile s octets))
