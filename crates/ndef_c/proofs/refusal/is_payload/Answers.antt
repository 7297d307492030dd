use Rattle.std.proofs.Common.{sym, true≢false}
use Rattle.ndef_types.specs.DecodingLaws.{set_not_refused}
use Rattle.ndef_c.proofs.refusal.is_payload.Goals as goal

pub returns-in-Err : goal.returns-in-Err
returns-in-Err g c =
    let a = c.args in
    let l = g.L.Language in (
      λ e. absurd (true≢false (sym e)),
      λ h. absurd (set_not_refused (l.payloads a.kind 65535 a.profile) (l.reasons a.kind 65535 a.profile) a.payload.now c.in-Err.field-0 h.0 h.1 c.in-Err.ensures.err),
    )
