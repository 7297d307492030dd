use Rattle.std.proofs.Common.{◌≡◌, take, ap, subst, sym, ◌∙◌, arith, true≢false}
use Rattle.ndef_format.specs.Messages.{run_record}
use Rattle.ndef_c.specs.Items.{IsValueOf, MayHaveValue}
use Rattle.ndef_c.proofs.Listed.{only_piece}
use Rattle.ndef_c.proofs.items.value_at.Goals as goal

pub returns : goal.returns
returns c = λ profile at r h.
    let found = c.args.found.now in
    let one = c.if-found-ne1.false in
    let only = only_piece r.run.initial r.run.later (sym r.pieces_are ∙ omega (arith, one)) in
    let e : take found.part_length c.split_at.result.1.now ≡ (run_record r.run).payload = ap (take found.part_length) c.split_at.ensures.back ∙ r.part.are ∙ sym only in
    record {
      looked = λ l n. subst (λ s. IsValueOf profile c.args.kind found.payload_at s c.value_in.result) e (c.value_in.ensures profile (subst (MayHaveValue profile c.args.kind) (sym e) (h l)));
      opaque = λ l. absurd (true≢false (sym c.if-not-looks.false ∙ l));
      chunked = λ n. absurd (n (omega (arith, one)));
    }
