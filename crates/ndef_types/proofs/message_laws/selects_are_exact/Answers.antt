use Rattle.ndef_types.proofs.MessageLaws.{each_select, one_select, selects_round_trip}
use Rattle.ndef_types.proofs.message_laws.selects_are_exact.Goals as goal

pub returns : goal.returns
returns c = record {
  one = one_select c.one_meaning.ensures.once;
  each = each_select c.strict_contents_are_read.ensures.handovers;
  round_trip = selects_round_trip c.one_meaning.ensures.once c.canonical_is_a_spelling.ensures c.strict_contents_are_read.ensures.strict;
}
