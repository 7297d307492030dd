use Rattle.std.proofs.Common.{sym, subst, arith}
use Rattle.ndef_format.specs.declared.profile.Profile.TheVariants.{Standard}
use Rattle.ndef_c.specs.Nested.{MayBeInPieces}
use Rattle.ndef_c.proofs.Filled.{is_too_small, is_enough}
use Rattle.ndef_c.proofs.query.give_all.Goals as goal

pub count_expected-needed-requires : goal.count_expected-needed-requires
count_expected-needed-requires g c =
    let h = c.requires in
    (Standard, h.0, subst (MayBeInPieces Standard h.0) (sym c.message.ensures) (g.met.S.RecordQuery.in_pieces c.args.query.now h.0 h.1))

pub returns-then-array-needed-clause-gives : goal.returns-then-array-needed-clause-gives
returns-then-array-needed-clause-gives g c =
    let h = c.requires in
    let n = c.count_expected-needed.ensures Standard h.0 (subst (MayBeInPieces Standard h.0) (sym c.message.ensures) (g.met.S.RecordQuery.in_pieces c.args.query.now h.0 h.1)) in
    (h.0, h.1, is_too_small _ _ _ _ n c.if-array-needed.true)

pub tell_all-requires-clause-buffer : goal.tell_all-requires-clause-buffer
tell_all-requires-clause-buffer g c = λ items h.
    let n = c.count_expected-needed.ensures Standard items (subst (MayBeInPieces Standard items) (sym c.message.ensures) (g.met.S.RecordQuery.in_pieces c.args.query.now items h)) in
    let l = c.if-array-needed.false in
    omega (arith, n, l)

pub returns-clause-gives : goal.returns-clause-gives
returns-clause-gives g c =
    let t = c.tell_all.ensures in
    let n = c.count_expected-needed.ensures Standard t.0 (subst (MayBeInPieces Standard t.0) (sym c.message.ensures) (g.met.S.RecordQuery.in_pieces c.args.query.now t.0 t.1)) in
    let l = c.if-array-needed.false in
    (t.0, t.1, is_enough _ _ _ _ _ n (omega (arith, l)) t.2 t.3 t.4 t.5)
