use Rattle.ndef_types.proofs.MessageLaws.{each_request, one_request, requests_round_trip}
use Rattle.ndef_types.proofs.message_laws.requests_are_exact.Goals as goal

pub returns : goal.returns
returns c = record {
  one = one_request c.one_meaning.ensures.once;
  each = each_request c.strict_contents_are_read.ensures.handovers;
  round_trip = requests_round_trip c.one_meaning.ensures.once c.canonical_is_a_spelling.ensures c.strict_contents_are_read.ensures.strict;
}
