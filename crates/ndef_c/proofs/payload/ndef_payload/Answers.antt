use Rattle.std.proofs.Common.{refl, rules, subst, sym}
use Rattle.ndef_c.specs.Walks.{BeginsWithRun}
use Rattle.ndef_c.proofs.Puts.{gives_puts}
use Rattle.ndef_c.proofs.payload.ndef_payload.Goals as goal

pub copy_pieces-requires : goal.copy_pieces-requires
copy_pieces-requires c = let x = c.in-Some.ensures.some in (x.run, _, subst (BeginsWithRun x.run _) (sym c.split_at.ensures.back) x.begins)

pub returns-clause-payload : goal.returns-clause-payload
returns-clause-payload c = λ _.
    let x = c.in-Some.ensures.some in
    let put = c.copy_pieces.ensures x.run _ (subst (BeginsWithRun x.run _) (sym c.split_at.ensures.back) x.begins) in
    record {
      run = x.run;
      rest = _;
      begins = x.begins;
      gives = gives_puts _ _ _ _ refl x.payload c.if-buffer-found.false c.new.ensures.at c.new.ensures.buffer (search rules) put;
    }
