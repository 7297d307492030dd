use Rattle.std.proofs.lemmas.Str.{IsUtf8-from_ascii}
use Rattle.ndef_types.proofs.TextLemmas.{text_parts}
use Rattle.ndef_types.proofs.text.TextParts.language.Goals as goal

pub from_utf8_unchecked-requires : goal.from_utf8_unchecked-requires
from_utf8_unchecked-requires c = rw c.split.ensures.language (IsUtf8-from_ascii _ (text_parts c.args.self.now c.split.ensures.is_text).ascii)

pub returns-clause-ascii : goal.returns-clause-ascii
returns-clause-ascii c = rw (c.from_utf8_unchecked.ensures, c.split.ensures.language) (text_parts c.args.self.now c.split.ensures.is_text).ascii

pub returns-clause-short : goal.returns-clause-short
returns-clause-short c = rw (c.from_utf8_unchecked.ensures, c.split.ensures.language) (text_parts c.args.self.now c.split.ensures.is_text).short
