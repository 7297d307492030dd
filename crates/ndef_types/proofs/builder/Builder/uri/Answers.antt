use Rattle.std.proofs.Common.{rules, ◌≡◌, ◌++◌, ◌∷◌, ℕ, List, []}
use Rattle.ndef_format.specs.declared.kind.Kind.TheVariants as kinds
use Rattle.ndef_types.specs.Values.{WritesUri}
use Rattle.ndef_types.specs.Building.{kind_item}
use Rattle.ndef_types.proofs.TextLemmas.{if_ok}
use Rattle.ndef_types.proofs.builder.Builder.uri.Goals as goal

pub returns-clause-added : goal.returns-clause-added
returns-clause-added c =
    let w : WritesUri c.args.uri.now c.as_slice.result.now = search rules in
    if_ok (λ b. b.records.items ≡ c.args.self.records.items ++ kind_item kinds.Uri c.as_slice.result.now ∷ [])
    (λ b. (x : List ℕ) × WritesUri c.args.uri.now x × (b.records.items ≡ c.args.self.records.items ++ kind_item kinds.Uri x ∷ []))
    (λ b e. (c.as_slice.result.now, w, e)) c.of_kind.result c.of_kind.ensures.added
