use Rattle.ndef_value.specs.ListLaws.{octets_append}
use Rattle.ndef_value.specs.SliceLaws.{each_octet}
use Rattle.ndef_value.proofs.bytes.Bytes.extend.Goals as goal

pub invariant_of-self-2 : goal.invariant_of-self-2
invariant_of-self-2 c =
    rw c.in_ok-extend_from_slice.ensures.items (octets_append _ _ c.self.invariant (each_octet _ c.type_inv.bytes))
