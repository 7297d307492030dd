use Rattle.ndef_value.specs.SliceLaws.{each_octet}
use Rattle.ndef_fields.specs.Walks.{outer_in}
use Rattle.ndef_fields.proofs.Walks.{front_spelled, split_of}
use Rattle.ndef_fields.proofs.Members.{whole_holds}
use Rattle.ndef_fields.proofs.report.fields_before.Goals as goal

pub returns : goal.returns
returns c =
    let s = c.args.bytes.now in
    let begin = c.pieces_begin_by_size.ensures in
    let all = each_octet s c.type_inv.bytes in
    let t = split_of begin s all in
    record {
      parts = outer_in s;
      spelled = front_spelled begin s all (whole_holds c.requires.0 s t.rest c.requires.1 t.whole);
      placed = c.new.ensures;
    }
