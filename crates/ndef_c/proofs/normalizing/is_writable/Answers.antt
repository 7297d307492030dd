use Rattle.std.proofs.Common.{refl}
use Rattle.ndef_c.proofs.Normalized.{from_record, to_record}
use Rattle.ndef_c.proofs.normalizing.is_writable.Goals as goal

pub returns : goal.returns
returns c = λ bytes x. (
  λ t. to_record x _ _ _ c.tnf.ensures refl refl (c.is_whole.ensures.0 t),
  λ w. c.is_whole.ensures.1 (from_record x _ _ _ c.tnf.ensures refl refl w),
)
