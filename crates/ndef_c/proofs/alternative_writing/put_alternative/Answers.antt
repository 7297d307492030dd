use Rattle.std.proofs.Common.{length}
use Rattle.std.proofs.lemmas.List.Elements.{All-tail}
use Rattle.ndef_c.specs.AlternativeWrites.{MayBeReference}
use Rattle.ndef_c.proofs.Puts.{puts_on}
use Rattle.ndef_c.proofs.alternative_writing.put_alternative.Goals as goal

pub put_references-requires : goal.put_references-requires
put_references-requires c = All-tail (MayBeReference (length c.args.bytes.now)) c.args.reference.now c.args.auxiliary.now c.requires.references

pub returns : goal.returns
returns c = puts_on c.put.ensures (puts_on c.put_reference.ensures (puts_on c.put-2.ensures c.put_references.ensures))
