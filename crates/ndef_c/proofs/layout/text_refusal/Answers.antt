use Rattle.std.proofs.Common.{◌+◌, ◌++◌, ◌<◌, [], arith, length, refl, subst, sym, take}
use Rattle.ndef_format.specs.declared.kind.Kind.TheVariants.{Other}
use Rattle.ndef_format.specs.declared.profile.Profile.TheVariants.{Strict}
use Rattle.ndef_format.specs.Reasons.{IsLowest}
use Rattle.ndef_format.specs.PayloadReasons.{Utf8Reason}
use Rattle.ndef_lang.specs.LengthLaws.{lengths_fit}
use Rattle.ndef_lang.specs.Machine.Utf8.{CompletesUtf8, utf8_lengths}
use Rattle.ndef_lang.specs.Machine.Utf8Laws.{are_utf8_lengths}
use Rattle.ndef_lang.specs.declared.utf8.Utf8Lang.TheVariants.{Whole}
use Rattle.ndef_c.proofs.layout.text_refusal.Goals as goal

pub step_all-taken-requires-clause-fits : goal.step_all-taken-requires-clause-fits
step_all-taken-requires-clause-fits c =
    let state = c.start-state.result in
    let n = length c.args.text.now in
    let text = (are_utf8_lengths Whole).each n (omega arith) in
    (lengths_fit (CompletesUtf8 state) (utf8_lengths state) n n (are_utf8_lengths state)).1
    (record { rest = text.0; passed = (c.start-state.ensures.future text.0).1 text.1.0; least = omega (arith, text.1.1); most = omega (arith, text.1.1) })

pub returns-clause-some : goal.returns-clause-some
returns-clause-some c =
    let text = c.args.text.now in
    let at = c.step_all-taken.result in
    let steps = c.step_all-taken.ensures.steps in
    let less : at < length text = omega (arith, steps.within, c.if-taken-text.false) in
    let future = c.start-state.ensures.future in (
      at,
      refl,
      record {
        within = less;
        begins = record {
          rest = steps.fits.rest;
          passed = (future (take at text ++ steps.fits.rest)).0 steps.fits.passed;
          least = steps.fits.least;
          most = steps.fits.most;
        };
        ends = λ p. steps.refused less (record {
          rest = p.rest;
          passed = (steps.stepped p.rest).1 ((future (take (at + 1) text ++ p.rest)).1 p.passed);
          least = p.least;
          most = p.most;
        });
        reason = subst (IsLowest (Utf8Reason (take at text) _)) (sym c.reason.ensures)
            (c.step_all-taken.ensures.reason less Other 1 Strict [] c.start-state.ensures.reached);
      },
    )
