use Rattle.std.proofs.Common.{rules}
use Rattle.ndef_lang.proofs.leaf.LeafLanguage.has.Goals as goal

pub returns : goal.returns
returns c = search rules
