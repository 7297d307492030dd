use Rattle.ndef_types.proofs.MessageLaws.{each_poster, one_poster, posters_round_trip}
use Rattle.ndef_types.proofs.message_laws.posters_are_exact.Goals as goal

pub returns : goal.returns
returns c = record {
  one = one_poster c.one_meaning.ensures.once;
  each = each_poster;
  round_trip = posters_round_trip c.one_meaning.ensures.once c.canonical_is_a_spelling.ensures c.strict_contents_are_read.ensures.strict;
}
