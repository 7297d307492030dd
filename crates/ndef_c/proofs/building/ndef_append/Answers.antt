use Rattle.std.proofs.Common.{◌==◌, true, refl, subst, Some}
use Rattle.ndef_format.specs.Messages.{Item}
use Rattle.ndef_c.specs.Built.{GivesAppended, held, is_first_of}
use Rattle.ndef_c.specs.Writes.{LastBegins, asked, octets_by}
use Rattle.ndef_c.specs.declared.writing.Placement.{Placement}
use Rattle.ndef_c.proofs.Built.{appended_by}
use Rattle.ndef_c.proofs.building.ndef_append.Goals as goal

pub returns-clause-appended : goal.returns-clause-appended
returns-clause-appended c = λ _.
    let a = c.args in
    let w = c.way_of-asked in
    let m : Item = asked a.how.now a.kind.now a.id.now a.payload.now in
    let way : Placement = record { first = a.builder.now.length == 0; last = true; form = w.result.form; size = w.result.size } in
    let before = held a.buffer.now a.builder.now in
    let after = held c.append.new.buffer c.append.new.builder in
    let given = subst (λ x. GivesAppended (octets_by way x) (LastBegins way.form way.first way.last (Some way.size) x) before after c.append.new.count c.append.result) c.in-Some.ensures.some c.append.ensures in
    appended_by (is_first_of a.builder.now) a.how.now way m before after c.append.new.count c.append.result refl refl w.ensures.form w.ensures.size c.in-Some.ensures.may.lengths.payload given
