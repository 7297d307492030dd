use Rattle.ndef_value.specs.SliceLaws.{each_octet}
use Rattle.ndef_fields.specs.Walks.{payload_parts}
use Rattle.ndef_fields.proofs.Walks.{payload_front}
use Rattle.ndef_fields.proofs.report.payload_fields.Goals as goal

pub returns : goal.returns
returns c = record {
  parts = payload_parts c.args.kind c.args.payload.now;
  spelled = payload_front c.pieces_begin_by_size.ensures c.args.kind c.args.payload.now (each_octet c.args.payload.now c.type_inv.payload);
  placed = c.of_payload.ensures;
}
