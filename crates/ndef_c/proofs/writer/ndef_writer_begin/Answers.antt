use Rattle.std.proofs.Common.{◌∙◌, ap, not}
use Rattle.ndef_c.specs.Writers.{Lengths}
use Rattle.ndef_c.proofs.Writers.{begins_as_written, leaves_all}
use Rattle.ndef_c.proofs.writer.ndef_writer_begin.Goals as goal

pub returns-clause-same : goal.returns-clause-same
returns-clause-same c =
    let a = c.args in
    let lengths : Lengths = record { kind = a.type_length; id = a.id_length; payload = a.payload_length } in
    begins_as_written a.how.now lengths (λ _. leaves_all c.new.result (c.is_none.ensures ∙ ap not c.if-is_none.false) c.in-Some.ensures.some c.new.ensures.value c.new.ensures.all)
