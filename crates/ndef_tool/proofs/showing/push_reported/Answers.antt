use Rattle.std.proofs.Common.{◌≡◌, ◌∙◌, ℕ, List, sym, subst}
use Rattle.std.specs.Prelude.{OnOk}
use Rattle.ndef_format.specs.Kinds.{kind_of}
use Rattle.ndef_format.specs.declared.kind.Kind.{Kind}
use Rattle.ndef_format.specs.declared.kind.Kind.TheVariants as kinds
use Rattle.ndef_tool.specs.Showing.{Adds, PrintsValue}
use Rattle.ndef_tool.proofs.showing.push_reported.Goals as goal

pub returns-in-SmartPoster : goal.returns-in-SmartPoster
returns-in-SmartPoster c =
    let k : kinds.SmartPoster ≡ kind_of c.args.item.now.tnf c.args.item.now.kind = sym c.in-SmartPoster.is ∙ c.kind_of-kind.ensures in
    subst (λ (kind : Kind). OnOk c.push_poster.result (Adds c.args.line.now c.push_poster.new.line (PrintsValue kind c.args.profile c.args.item.now.payload))) k
    (subst (λ (payload : List ℕ). OnOk c.push_poster.result (Adds c.args.line.now c.push_poster.new.line (PrintsValue kinds.SmartPoster c.args.profile payload))) c.payload-payload.ensures.value c.push_poster.ensures)
