use Rattle.ndef_tool.proofs.OneText.{one_output}
use Rattle.ndef_tool.proofs.laws.output_is_exact.Goals as goal

pub returns : goal.returns
returns c = one_output c.one_meaning.ensures.once (record {
  texts = c.texts_are_exact.ensures.exact.one;
  posters = c.posters_are_exact.ensures.one;
  requests = c.requests_are_exact.ensures.one;
  selects = c.selects_are_exact.ensures.one;
  carriers = c.carriers_are_exact.ensures.exact.one;
})
