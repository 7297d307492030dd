use Rattle.std.proofs.Common.{refl}
use Rattle.ndef_fields.proofs.Steps.{inside_step}
use Rattle.ndef_fields.proofs.inside.inside_step.Goals as goal

pub returns : goal.returns
returns c = record {
  none = tt;
  some = inside_step c.args.inside _ c.cut-cut.result c.min-length.result c.cut-cut.ensures c.in_default.not-Done refl c.split_at.ensures.back c.min-length.ensures;
}
