use Rattle.std.proofs.Common.{◌≡◌, ◌++◌, ◌∙◌, ap, take, arith}
use Rattle.std.proofs.lemmas.List.{append-nil}
use Rattle.ndef_message.proofs.Feeding.{matches_input_on}
use Rattle.ndef_message.proofs.checker.Checker.advance.Goals as goal

pub returns-clause-onward : goal.returns-clause-onward
returns-clause-onward g c front given point k =
    let passed = c.pass-taken in
    let new = c.step.new.self in
    let bytes = c.args.bytes.now in
    let none : passed.result ≡ 0 = omega arith in
    let all : front ++ take passed.result bytes ≡ front = ap (λ n. front ++ take n bytes) none ∙ append-nil front in
    let y = passed.ensures.onward front given point k in
    let x = c.step.ensures.onward front y.0 y.1 (rw all at y.2) in
    matches_input_on g.L.RecordLanguage new.limits new.state front y.0 y.1 (take c.step.result bytes) new.taken x.0 x.1
