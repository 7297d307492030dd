use Rattle.std.proofs.Common.{sym}
use Rattle.ndef_lang.specs.KindLaws.{named_long}
use Rattle.ndef_lang.proofs.kind.Front.after.Goals as goal

pub returns-in-Three : goal.returns-in-Three
returns-in-Three c more = let t = c.in-Three in rw t.is (sym (named_long t.field-0 t.field-1 t.field-2 c.args.byte more))
