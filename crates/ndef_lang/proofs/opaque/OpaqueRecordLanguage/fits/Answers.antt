use Rattle.std.proofs.Common.{rules}
use Rattle.ndef_lang.proofs.opaque.OpaqueRecordLanguage.fits.Goals as goal

pub returns : goal.returns
returns c = search rules
