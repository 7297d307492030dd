use Rattle.std.proofs.Common.{◌-◌, ◌++◌, take, arith}
use Rattle.ndef_lang.specs.StepLaws.{rest, rest_length, follows_none, reaches_none, passes_none, steps_on, reaches_on, reason_on, all_reached}
use Rattle.ndef_format.specs.NestedReasons.{NestReason}
use Rattle.ndef_format.specs.Nested.{table_of}
use Rattle.ndef_nest.specs.Machine.Nests.{future, reached}
use Rattle.ndef_nest.specs.Machine.SpanLaws.{nest_fits_exactly}
use Rattle.ndef_nest.proofs.Slices.{steps_front, reaches_front, reason_front, run_on, run_reached}
use Rattle.ndef_nest.proofs.nest.NestLanguage.step_all.Goals as goal

pub loop-at-init : goal.loop-at-init
loop-at-init c =
    let n = c.args.self.now in
    record {
      within = omega arith;
      follows = follows_none (future n);
      reached = λ kind records profile. reaches_none (reached n kind records profile);
      fits = passes_none ((nest_fits_exactly n c.args.lo c.args.hi c.requires.small).0 c.requires.fits);
    }

pub loop-at-preserved : goal.loop-at-preserved
loop-at-preserved c =
    let old = c.args.self.now in
    let mid = c.loop-at.self in
    let new = c.step_some-looked.new.self in
    let at = c.loop-at.at in
    let looked = c.step_some-looked.result.0 in
    let count = c.step_some-looked.result.1 in
    let most = c.step_some-looked.ensures.most in
    let bytes = c.args.bytes.now in
    let inv = c.loop-at.invariant in
    let all = c.if-count-looked.false in
    let run = run_on (future old) (future mid) (future new) bytes c.args.lo c.args.hi at looked count most all inv.follows c.step_some-looked.ensures.steps in
    record {
      within = omega (arith, rest_length bytes at);
      follows = run.0;
      reached = λ kind records profile. run_reached (reached old kind records profile) (reached mid kind records profile) (reached new kind records profile) bytes at looked count most all (inv.reached kind records profile)
          (c.step_some-looked.ensures.reached kind records profile);
      fits = run.1;
    }

pub returns-then-count-looked-clause-steps : goal.returns-then-count-looked-clause-steps
returns-then-count-looked-clause-steps c =
    let mid = c.loop-at.self in
    let new = c.step_some-looked.new.self in
    let at = c.loop-at.at in
    let looked = c.step_some-looked.result.0 in
    let count = c.step_some-looked.result.1 in
    let bytes = c.args.bytes.now in
    let lo = c.args.lo - at in
    let hi = c.args.hi - at in
    steps_on (future c.args.self.now) (future mid) (future new) bytes c.args.lo c.args.hi at count c.loop-at.invariant.within c.loop-at.invariant.follows
    (steps_front (future mid) (future new) (rest bytes at) lo hi looked count c.step_some-looked.ensures.most c.if-count-looked.true c.step_some-looked.ensures.steps)

pub returns-then-count-looked-clause-reached : goal.returns-then-count-looked-clause-reached
returns-then-count-looked-clause-reached c kind records profile =
    let old = reached c.args.self.now kind records profile in
    let mid = reached c.loop-at.self kind records profile in
    let new = reached c.step_some-looked.new.self kind records profile in
    let at = c.loop-at.at in
    let count = c.step_some-looked.result.1 in
    let bytes = c.args.bytes.now in
    reaches_on old mid new bytes at count (c.loop-at.invariant.reached kind records profile)
    (reaches_front mid new (rest bytes at) c.step_some-looked.result.0 count c.if-count-looked.true (c.step_some-looked.ensures.reached kind records profile))

pub returns-then-count-looked-clause-reason : goal.returns-then-count-looked-clause-reason
returns-then-count-looked-clause-reason c less kind records profile s x =
    let holds = NestReason (table_of kind) records profile in
    let reason = c.step_some-looked.new.self.reason in
    let at = c.loop-at.at in
    let looked = c.step_some-looked.result.0 in
    let count = c.step_some-looked.result.1 in
    let bytes = c.args.bytes.now in
    let front = s ++ take at bytes in
    reason_on holds reason bytes s at count
    (reason_front holds reason (rest bytes at) front looked count c.if-count-looked.true
    (c.step_some-looked.ensures.reason c.if-count-looked.true kind records profile front (c.loop-at.invariant.reached kind records profile s x)))

pub returns-clause-reached : goal.returns-clause-reached
returns-clause-reached c kind records profile =
    all_reached (reached c.args.self.now kind records profile) (reached c.loop-at.self kind records profile) c.args.bytes.now c.loop-at.at c.loop-at-test.false (c.loop-at.invariant.reached kind records profile)
