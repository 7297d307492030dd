-- The new checker is written to the buffer, which holds it from then on.
use Rattle.std.proofs.Common.{ℕ, [], ◌∷◌, refl, w32}
use Rattle.std.proofs.raw_atomic.Walks.{proved}
use base.Fraction.{full_share}
use base.Logic.{id⊢, sep}
use base.Fml.{ftrue, flft}
use borrow.Table.OneValue.{part_in}
use mir.Syntax.{named}
use mir.Val.{vptr}
use prog.Wp.{WpFn}
use types.Logic.{sem}
use types.Kit.{‵, raw, ◌⊛◌, some, later, prop, ◌$◌, ◌∵◌, !, qed, done, move, keep, drop, use1, use2, split, join, pick, await, regoal, suffices, frame, group, show}
use types.Run.{of_opd, init, stop, no_more, and_then, assigns, returns, enter}
use types.ByLocal.{alloc_all, pass_all, free_all, look_at, get, through, lands_as}
use contract.Monad.{fact}
use contract.Running.{tables}
use denote.Builtin.{u32}
use denote.Exit.{yes}
use denote.Laws.{Is, shows}
use denote.Memory.{part_at}
use denote.Plain.{uint_Lawful}
use denote.RawPtr.{Ptr, RawPtr, ptr_val, block_ptr, lies_at, room_at, in_a_block, rawptr_vals, rawptr_Tells}
use denote.Ref.{ShrRef, shr_vals, shr_Tells, shr_copy}
use denote.Signature.{plain, shr_ref_to}
use denote.Steps.{nothing, heard, peeks}
use denote.Triple.Call.{calls_at}
use denote.Triple.Clauses.{lasts}
use denote.Triple.Spec.{triple_of}
use denote.Triple.Table.{framed}
use denote.Triple.Walked.{Stays, walk_of, says, stay_dropped, Goes-dropped, ends_at}
use Rattle.ndef_c.specs.Feeding.{BeginsTo, IsFed}
use Rattle.ndef_c.specs.declared.feeding.NdefChecker.{NdefChecker}
use Rattle.ndef_c.specs.contracts.feeding.NdefChecker as checker
use Rattle.ndef_c.proofs.feeding.NdefChecker.TheLaws as checker_laws
use Rattle.ndef_c.specs.contracts.limits.NdefLimits as limit
use Rattle.ndef_c.proofs.limits.NdefLimits.TheLaws as limit_laws
use Rattle.ndef_c.specs.contracts.feeding.ndef_begin as f
use Rattle.ndef_c.proofs.feeding.ndef_begin.Statement.{statement}
use Rattle.ndef_c.proofs.feeding.ndef_begin.Code as code
use Rattle.ndef_c.specs.contracts.feeding.begun as g
use Rattle.ndef_c.proofs.feeding.begun.Met as begun
use Rattle.ndef_c.specs.contracts.feeding.begins_to as h
use Rattle.ndef_c.proofs.feeding.begins_to.Met as begins_to

abbrev stayed : Stays f.ended.signature.params f.ended.kept
stayed = (stay_dropped _ yes, (stay_dropped _ yes, tt))

pub ndef_begin_spec : {M : Type 1} → statement M
ndef_begin_spec 𝓤 𝓛 𝓜 𝓡 wired =
    let c = f.clauses 𝓛 𝓜.mem 𝓡.returns in let W = walk_of 𝓛 f.ended stayed c in let 𝓣 = tables 𝓤 𝓛.H 𝓜 𝓡 𝓡.env in
    proved 𝓛 f.ended stayed c 𝓜 𝓡
    (Goes-dropped 𝓛 1 (shr_ref_to (0 ∷ []) tt (plain (λ _. limit.the_row))) yes (λ κs x w. refl), (Goes-dropped 𝓛 1 (plain (λ _. RawPtr)) yes (λ κs x w. refl), tt))
    f.Key.name code.function (code.unfolded 𝓤 𝓛.H 𝓜 𝓡 wired)
    (λ κs. (shr_vals, (rawptr_vals, tt)))
    (λ κs. (shr_Tells (named 0) κs.0 limit.the_row, (rawptr_Tells, tt)))
    (λ κs qs bounds a _ are.
    let κ = κs.0 in let q = qs.0 in let limits = a.0 in let vs = shr_vals limits in
    let S = ‵ ((ShrRef (named 0) κ limit.the_row).own_val limits vs) in
    let tokens = ‵ (flft κ q) ⊛ ‵ ftrue in
    let y : Ptr → W.Ghost = λ p. ((κs, qs, bounds, (limits, (p, tt)), (vs, (rawptr_vals p, tt))), tt) in
    let G = triple_of 𝓛 g.signature (g.spec 𝓛 𝓜.mem 𝓡.returns) in
    let F = triple_of 𝓛 h.signature (h.spec 𝓛 𝓜.mem 𝓡.returns) in
    let z : G.Ghost = ((κs, qs, tt, (limits, tt), (vs, tt)), tt) in
    let z' : F.Ghost = ((κs, qs, tt, (limits, tt), (vs, tt)), tt) in
    qed 𝓛 ((tokens ⊛ S ⊛ ‵ (RawPtr.own_val a.1.0 (rawptr_vals a.1.0)) ⊛ ‵ ftrue) ∷ ‵ (room_at checker.the_row a.1.0) ∷ []) ∵
    move ! (1 ∷ []) $ in_a_block ! a.1.0 (λ p. room_at checker.the_row p) (id⊢ 𝓤 _) (λ bc oc e.
    regoal ! (λ p. prop (WpFn 𝓤 𝓛.H 𝓣.C 𝓣.Λ code.function (vptr limits.ref_ptr.0 limits.ref_ptr.1 ∷ ptr_val p ∷ []) (W.post (y p)))) e refl $
    -- [the buffer; the tokens and the parameters]
    move ! (1 ∷ []) $ split ! $ move ! (1 ∷ []) $ split ! $ keep ! (0 ∷ 2 ∷ 3 ∷ []) $
    use1 𝓛 (S ⊛ S) ((shr_copy 𝓛 (named 0) κ limit.the_row limit_laws.the_row_laws.shr_laws).twice limits vs) $ split ! $
    -- [the limits; again; the tokens; the buffer]
    enter ! _ _ _ _ _ $ alloc_all ! (λ l. pass_all ! refl ((tt, tt), ((tt, tt), tt)) $
    nothing ! $ move ! (1 ∷ 0 ∷ []) $ join ! $ move ! (2 ∷ 0 ∷ []) $ join ! $ nothing ! $ move ! (1 ∷ 0 ∷ []) $ use2 𝓛 (raw (G.pre z)) (id⊢ 𝓤 _) $
    calls_at ! (framed 𝓤 𝓛.H 𝓜 (tables 𝓤 𝓛.H 𝓜 𝓡 𝓡.env)) G (begun.met 𝓤 𝓛 𝓜 𝓡 (code.calls-ndef_c::feeding::begun 𝓡.env wired)) z
    (and_then ! (get ! refl) (no_more !)) (λ v.
    use1 𝓛 (later (some (λ (r : NdefChecker). (tokens ⊛ ‵ (checker.the_row.own_val r (v ∷ []))) ⊛
    some (λ (ws : Unit {0} × Unit {0}). ‵ (lasts g.ended κs z.0.3 ws) ⊛ raw (fact 𝓤 (IsFed r (record { limits = limits.now; bytes = [] }))))))) (id⊢ 𝓤 _) $
    await ! tt $ pick ! (λ r. split ! $ move ! (1 ∷ []) $ pick ! (λ ws. split ! $ drop ! $ heard ! _ (λ counts. split ! $ move ! (1 ∷ []) $
    -- [the checker; the tokens; the limits; the buffer]
    peeks ! checker.the_row (Is checker.the_row) (shows 𝓛 checker.the_row) r (v ∷ []) (λ is.
    let typed = ((checker_laws.the_row_laws.lawful 𝓛).typed r _ is).0 in
    lands_as ! refl refl typed $
    assigns ! (of_opd ! (get ! refl)) (through ! refl (stop !)) (init ! 3 refl typed) $
    move ! (3 ∷ 0 ∷ []) $ use2 𝓛 (‵ (part_at checker.the_row full_share r bc oc)) (part_in 𝓛 checker.the_row refl full_share r bc oc v) $
    -- [the memory; the tokens; the limits]
    nothing ! $ move ! (3 ∷ 0 ∷ []) $ join ! $ move ! (2 ∷ 0 ∷ []) $ join ! $ nothing ! $ move ! (1 ∷ 0 ∷ []) $ use2 𝓛 (raw (F.pre z')) (id⊢ 𝓤 _) $
    calls_at ! (framed 𝓤 𝓛.H 𝓜 (tables 𝓤 𝓛.H 𝓜 𝓡 𝓡.env)) F (begins_to.met 𝓤 𝓛 𝓜 𝓡 (code.calls-ndef_c::feeding::begins_to 𝓡.env wired)) z'
    (and_then ! (get ! refl) (no_more !)) (λ u.
    use1 𝓛 (later (some (λ (n : ℕ). (tokens ⊛ ‵ (u32.own_val n (u ∷ []))) ⊛
    some (λ (ws' : Unit {0} × Unit {0}). ‵ (lasts h.ended κs z'.0.3 ws') ⊛ raw (fact 𝓤 (BeginsTo limits.now n)))))) (id⊢ 𝓤 _) $
    await ! tt $ pick ! (λ n. split ! $ move ! (1 ∷ []) $ pick ! (λ ws'. split ! $ drop ! $ heard ! _ (λ status. split ! $ move ! (1 ∷ []) $
    peeks ! u32 (Is u32) (shows 𝓛 u32) n (u ∷ []) (λ is'. lands_as ! refl refl ((uint_Lawful 𝓛 w32).typed n _ is').0 $
    -- [the status; the tokens; the memory]
    returns ! (look_at ! 0 refl) $ free_all ! refl $
    suffices ! _ (ends_at 𝓛 f.ended stayed c (y (block_ptr bc oc)) u n (tt, (tt, tt)) (tt, (tt, tt))) $
    nothing ! $ nothing ! $ join ! $ nothing ! $ join ! $ move ! (2 ∷ 0 ∷ 1 ∷ []) $ group ! 3 $ frame ! $
    says ! status $ show ! (λ (w : NdefChecker). sep 𝓤 (sem 𝓛 (lies_at checker.the_row full_share (block_ptr bc oc) w)) (fact 𝓤 (IsFed w (record { limits = limits.now; bytes = [] })))) r $ says ! counts $ done !
    )))))))))))))
