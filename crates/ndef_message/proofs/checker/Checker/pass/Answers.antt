use Rattle.std.proofs.Common.{◌+◌, ◌≤◌, ◌^◌, ◌++◌, suc, sym, subst, take, arith}
use Rattle.std.proofs.Math.Logic.{∥∥₁_map}
use Rattle.std.proofs.lemmas.List.{append-nil}
use Rattle.ndef_message.specs.Machine.Checkers.{CheckerReached}
use Rattle.ndef_message.proofs.Accepting.{taken_bounded, taken_matches_input}
use Rattle.ndef_message.proofs.Feeding.{going}
use Rattle.ndef_message.proofs.Somewhere.{number_of_some}
use Rattle.ndef_message.proofs.checker.Checker.pass.Goals as goal

pub overflow_add-self : goal.overflow_add-self
overflow_add-self g c =
    let s = c.args.self.now in
    let took = c.take_pieces-taken in
    let laws = c.format_laws.ensures in
    let n : suc (s.taken + took.result) ≤ 2 ^ 60 = number_of_some _ _ _ s.led (λ w.
    let x = took.ensures.onward w.0 w.1 w.2 (going g.L.RecordLanguage s.limits s.state 0 w.0 w.1 w.2 c.requires.going w.3.1) in
    taken_bounded g.L.RecordLanguage s.limits took.new.self w.0 c.args.bytes.now took.result s.taken took.ensures.within w.3.0 x.0 x.1 x.2 laws.laws laws.range) in
    omega arith

pub invariant_of-self : goal.invariant_of-self
invariant_of-self g c =
    let s = c.args.self.now in
    let took = c.take_pieces-taken in
    record {
      led = ∥∥₁_map s.led (λ w.
          let x = took.ensures.onward w.0 w.1 w.2 (going g.L.RecordLanguage s.limits s.state 0 w.0 w.1 w.2 c.requires.going w.3.1) in
          (w.0 ++ take took.result c.args.bytes.now, x.0, x.1, taken_matches_input g.L.RecordLanguage s.limits took.new.self w.0 c.args.bytes.now took.result s.taken took.ensures.within w.3.0 x.0 x.1 x.2));
    }

pub returns-then-tried-clause-onward : goal.returns-then-tried-clause-onward
returns-then-tried-clause-onward g c front given point k = (given, point, subst (λ y. CheckerReached c.args.self.now y given point) (sym (append-nil front)) k)

pub returns-clause-onward : goal.returns-clause-onward
returns-clause-onward g c front given point k =
    let s = c.args.self.now in
    let took = c.take_pieces-taken in
    let x = took.ensures.onward front given point (going g.L.RecordLanguage s.limits s.state 0 front given point c.requires.going k.1) in
    (x.0, x.1, taken_matches_input g.L.RecordLanguage s.limits took.new.self front c.args.bytes.now took.result s.taken took.ensures.within k.0 x.0 x.1 x.2)
