-- The checker's memory is lent for the call of `feed_checker`, and comes back as that leaves it.
use Rattle.std.proofs.Common.{ℕ, ◌^◌, ◌<◌, ◌++◌, List, [], ◌∷◌, length, refl, w32, MutBor}
use seplogic.Ra.Ura.{Ura}
use Rattle.std.proofs.raw_atomic.Walks.{proved}
use base.Fraction.{full_share}
use base.Logic.{SProp, ent, sep, emp, emp∗, id⊢, mono_l, via}
use base.Fml.{ftrue, flft, flent}
use mir.Syntax.{named}
use mir.Val.{vptr}
use prog.Wp.{WpFn}
use types.Logic.{sem}
use types.SemTy.{Body}
use types.Tokens.{lft_new, lft_end}
use types.Kit.{‵, raw, ◌⊛◌, some, later, prop, ◌$◌, ◌∵◌, !, qed, done, move, keep, use1, use2, use3, split, join, fsplit, pick, await, regoal, suffices, frame, group, show}
use types.Run.{addr, stop, no_more, and_then, returns, enter}
use types.ByLocal.{alloc_all, pass_all, free_all, look_at, get, through, sets, lands_as}
use contract.Monad.{fact, fact_i}
use contract.Running.{tables}
use denote.Builtin.{u8, u32}
use denote.Exit.{yes}
use denote.Laws.{Is, shows}
use denote.Memory.{mem}
use denote.Plain.{uint_Lawful}
use denote.RawPtr.{Ptr, RawPtr, ptr_val, block_ptr, lies_at, in_a_block, rawptr_vals, rawptr_Tells}
use denote.Ref.{MutRef, mut_vals, mut_Tells}
use denote.Slice.{ShrSlice, slice_val, shr_slice_vals, shr_slice_Tells}
use denote.Signature.{plain, shr_slice_of}
use denote.Lend.{lends_ref, ref_back, lends_again, comes_back, LentAgain}
use denote.Steps.{nothing, heard, peeks}
use denote.Triple.Call.{calls_at}
use denote.Triple.Clauses.{lasts}
use denote.Triple.Spec.{triple_of}
use denote.Triple.Table.{framed}
use denote.Triple.Walked.{Stays, walk_of, says, stay_dropped, Goes-dropped, stay_ref, Goes-ref, ends_at}
use Rattle.ndef_c.specs.Feeding.{AnswersFed, IsFed}
use Rattle.ndef_c.specs.declared.feeding.NdefChecker.{NdefChecker}
use Rattle.ndef_c.specs.declared.checking.NdefChecked.{NdefChecked}
use Rattle.ndef_c.specs.declared.limits.NdefLimits.{NdefLimits}
use Rattle.ndef_c.specs.contracts.feeding.NdefChecker as checker
use Rattle.ndef_c.specs.contracts.checking.NdefChecked as checked
use Rattle.ndef_c.specs.contracts.feeding.ndef_feed as f
use Rattle.ndef_c.proofs.feeding.ndef_feed.Statement.{statement}
use Rattle.ndef_c.proofs.feeding.ndef_feed.Code as code
use Rattle.ndef_c.specs.contracts.feeding.feed_checker as g
use Rattle.ndef_c.proofs.feeding.feed_checker.Met.{met}

-- a fact is put before what is to be shown
reported : {M : Type 1} (𝓤 : Ura M) {φ : Type 0} {P : SProp 𝓤} → φ → ent 𝓤 P (sep 𝓤 (fact 𝓤 φ) P)
reported 𝓤 {φ} {P} x = via 𝓤 (sep 𝓤 (emp 𝓤) P) (emp∗ 𝓤 P) (mono_l 𝓤 P (fact_i 𝓤 φ (emp 𝓤) x))

abbrev stayed : Stays f.ended.signature.params f.ended.kept
stayed = (stay_dropped _ yes, (stay_dropped _ yes, (stay_ref (1 ∷ []) tt (plain (λ _. checked.the_row)), tt)))

pub ndef_feed_spec : {M : Type 1} → statement M
ndef_feed_spec 𝓤 𝓛 𝓜 𝓡 wired =
    let c = f.clauses 𝓛 𝓜.mem 𝓡.returns in let W = walk_of 𝓛 f.ended stayed c in let 𝓣 = tables 𝓤 𝓛.H 𝓜 𝓡 𝓡.env in
    proved 𝓛 f.ended stayed c 𝓜 𝓡
    (Goes-dropped 𝓛 2 (plain (λ _. RawPtr)) yes (λ κs x w. refl), (Goes-dropped 𝓛 2 (shr_slice_of (0 ∷ []) tt (plain (λ _. u8))) yes (λ κs x w. refl), (Goes-ref 𝓛 2 1 tt (plain (λ _. checked.the_row)), tt)))
    f.Key.name code.function (code.unfolded 𝓤 𝓛.H 𝓜 𝓡 wired)
    (λ κs. (rawptr_vals, (shr_slice_vals, (mut_vals, tt))))
    (λ κs. (rawptr_Tells, (shr_slice_Tells (named 0) κs.0 u8, (mut_Tells (named 1) κs.1.0 checked.the_row, tt))))
    (λ κs qs bounds a so_far are.
    let κ0 = κs.0 in let κ1 = κs.1.0 in let q0 = qs.0 in let q1 = qs.1.0 in
    let bytes = a.1.0 in let out = a.1.1.0 in let b = out.ref_ptr.0 in let o = out.ref_ptr.1 in
    let bs = shr_slice_vals bytes in let vs = mut_vals out in
    let S = ‵ ((ShrSlice (named 0) κ0 u8).own_val bytes bs) in
    let Ref = λ (κ' : List ℕ) (x : MutBor NdefChecked). (MutRef (named 1) κ' checked.the_row).own_val x vs in
    let y : Ptr → W.Ghost = λ p. ((κs, qs, bounds, (p, (bytes, (out, tt))), (rawptr_vals p, (bs, (vs, tt)))), so_far) in
    let fits : length bytes.now < 2 ^ 64 = are.1.0.0.1.0 in
    qed 𝓛 (((‵ (flft κ0 q0) ⊛ ‵ (flft κ1 q1) ⊛ ‵ ftrue) ⊛ ‵ (RawPtr.own_val a.0 (rawptr_vals a.0)) ⊛ S ⊛ ‵ (Ref κ1 out) ⊛ ‵ ftrue)
    ∷ some (λ (h : NdefChecker). ‵ (lies_at checker.the_row full_share a.0 h) ⊛ raw (fact 𝓤 (IsFed h so_far))) ∷ []) ∵
    move ! (1 ∷ []) $ pick ! (λ h. split ! $ move ! (1 ∷ []) $ heard ! _ (λ begun.
    in_a_block ! a.0 (λ p. lies_at checker.the_row full_share p h) (id⊢ 𝓤 _) (λ bc oc e.
    regoal ! (λ p. prop (WpFn 𝓤 𝓛.H 𝓣.C 𝓣.Λ code.function (ptr_val p ∷ slice_val bytes.ref_ptr (length bytes.now) ∷ vptr b o ∷ []) (W.post (y p)))) e refl $
    -- [the checker's memory; the tokens and the parameters]
    move ! (1 ∷ []) $ split ! $ split ! $ move ! (1 ∷ []) $ split ! $ move ! (3 ∷ []) $ split ! $ move ! (1 ∷ []) $ split ! $ move ! (1 ∷ []) $ split ! $
    keep ! (0 ∷ 2 ∷ 4 ∷ 6 ∷ 7 ∷ []) $
    -- [out; bytes; the token of 1; that of 0; the memory]
    enter ! _ _ _ _ _ $ alloc_all ! (λ l. pass_all ! refl ((tt, tt), ((tt, (tt, (record { fits = fits }, tt))), ((tt, tt), tt))) $
    sets ! (addr ! (through ! refl (stop !))) refl (tt, tt) $
    sets ! (addr ! (through ! refl (stop !))) refl (tt, tt) $
    lft_new ! tt (λ α. lft_new ! tt (λ β. move ! (6 ∷ []) $
    -- the memory is lent for α
    use1 𝓛 (later (some (λ (γ : ℕ). ‵ ((MutRef (named 0) (α ∷ []) checker.the_row).own_val (record { ref_ptr = (bc, oc); ghost_name = γ; now = h }) (vptr bc oc ∷ [])) ⊛ ‵ (flent (α ∷ []) (Body (mem checker.the_row) bc oc γ)))))
    (lends_ref 𝓛 checker.the_row (named 0) (α ∷ []) h bc oc) $ await ! tt $ pick ! (λ γ. split ! $
    -- and `out` again for β
    move ! (4 ∷ 6 ∷ []) $
    use2 𝓛 (later (some (λ (δ : ℕ). ‵ (Ref (β ∷ []) (record out { ghost_name = δ })) ⊛ ‵ (LentAgain checked.the_row κ1 (β ∷ []) q1 out.ghost_name b o δ out.now))))
    (lends_again 𝓛 checked.the_row (named 1) κ1 (β ∷ []) q1 out.ghost_name b o (named 1) out.now) $ await ! tt $ pick ! (λ δ. split ! $
    -- [out; what its lender keeps; the checker; what its lender keeps; the tokens of β and α; bytes; the token of 0]
    let G = triple_of 𝓛 g.signature (g.spec 𝓛 𝓜.mem 𝓡.returns) in
    let held : MutBor NdefChecker = record { ref_ptr = (bc, oc); ghost_name = γ; now = h } in
    let z : G.Ghost = (((α ∷ [], (κ0, (β ∷ [], tt))), (full_share, (q0, (full_share, tt))), tt, (held, (bytes, (record out { ghost_name = δ }, tt))), (vptr bc oc ∷ [], (bs, (vs, tt)))), tt) in
    nothing ! $ move ! (1 ∷ 0 ∷ []) $ join ! $ move ! (6 ∷ 0 ∷ []) $ join ! $ move ! (2 ∷ 0 ∷ []) $ join ! $
    nothing ! $ move ! (4 ∷ 0 ∷ []) $ join ! $ move ! (5 ∷ 0 ∷ []) $ join ! $ move ! (4 ∷ 0 ∷ []) $ join ! $ join ! $
    nothing ! $ move ! (1 ∷ 0 ∷ []) $ use2 𝓛 (raw (G.pre z)) (id⊢ 𝓤 _) $
    calls_at ! (framed 𝓤 𝓛.H 𝓜 (tables 𝓤 𝓛.H 𝓜 𝓡 𝓡.env)) G (met 𝓤 𝓛 𝓜 𝓡 (code.calls-ndef_c::feeding::feed_checker 𝓡.env wired)) z
    (and_then ! (get ! refl) (and_then ! (get ! refl) (and_then ! (get ! refl) (no_more !)))) (λ v.
    use1 𝓛 (later (some (λ (r : ℕ). ((‵ (flft (α ∷ []) full_share) ⊛ ‵ (flft κ0 q0) ⊛ ‵ (flft (β ∷ []) full_share) ⊛ ‵ ftrue) ⊛ ‵ (u32.own_val r (v ∷ []))) ⊛
    some (λ (ws : NdefChecker × (Unit {0} × (NdefChecked × Unit {0}))). ‵ (lasts g.ended z.0.0 z.0.3 ws)
    ⊛ raw (fact 𝓤 ((limits : NdefLimits) (front : List ℕ) → IsFed h (record { limits = limits; bytes = front })
    → IsFed ws.0 (record { limits = limits; bytes = front ++ bytes.now }) × AnswersFed limits (front ++ bytes.now) r out.now ws.1.1.0)))))) (id⊢ 𝓤 _) $
    await ! tt $ pick ! (λ r. split ! $ split ! $ split ! $ lft_end ! tt $ move ! (1 ∷ []) $ split ! $ move ! (1 ∷ []) $ split ! $ lft_end ! tt $
    -- [β is over; nothing; the token of 0; α is over; the result; the last values; what the lenders keep]
    move ! (4 ∷ []) $ peeks ! u32 (Is u32) (shows 𝓛 u32) r (v ∷ []) (λ is. lands_as ! refl refl ((uint_Lawful 𝓛 w32).typed r _ is).0 $
    move ! (5 ∷ []) $ pick ! (λ ws. split ! $ move ! (1 ∷ []) $ heard ! _ (λ fed. fsplit ! $ fsplit ! $
    -- the memory comes back
    move ! (7 ∷ 9 ∷ 0 ∷ []) $ use3 𝓛 (later (‵ ((mem checker.the_row).own_at ws.0 bc oc))) (ref_back 𝓛 checker.the_row (α ∷ []) γ ws.0 bc oc) $ await ! tt $
    -- and `out`
    move ! (2 ∷ []) $ fsplit ! $ move ! (1 ∷ []) $ fsplit ! $ fsplit ! $
    move ! (7 ∷ 10 ∷ 0 ∷ []) $ use3 𝓛 (later (‵ (Ref κ1 (record out { now = ws.1.1.0 })) ⊛ ‵ (flft κ1 q1)))
    (comes_back 𝓛 checked.the_row (named 1) κ1 (β ∷ []) q1 out.ghost_name b o δ out.now ws.1.1.0) $ await ! tt $ split ! $
    -- [out; the token of 1; nothing; nothing; nothing; the memory; nothing; the result; nothing; the token of 0]
    returns ! (look_at ! 0 refl) $ free_all ! refl $ keep ! (0 ∷ 1 ∷ 5 ∷ 7 ∷ 9 ∷ []) $
    suffices ! _ (ends_at 𝓛 f.ended stayed c (y (block_ptr bc oc)) v r (tt, (tt, (ws.1.1.0, tt))) (tt, (tt, (tt, tt)))) $
    nothing ! $ move ! (1 ∷ 0 ∷ []) $ join ! $ nothing ! $ join ! $ nothing ! $ join ! $
    nothing ! $ move ! (2 ∷ 0 ∷ []) $ join ! $ move ! (4 ∷ 0 ∷ []) $ join ! $ move ! (0 ∷ 1 ∷ 3 ∷ []) $ group ! 3 $ frame ! $
    let x = fed so_far.limits so_far.bytes begun in
    suffices ! _ (reported 𝓤 x.1.bad) $ suffices ! _ (reported 𝓤 x.1.kept) $ suffices ! _ (reported 𝓤 x.1.typed) $ suffices ! _ (reported 𝓤 x.1.opaque) $
    show ! (λ (w : NdefChecker). sep 𝓤 (sem 𝓛 (lies_at checker.the_row full_share (block_ptr bc oc) w)) (fact 𝓤 (IsFed w (record so_far { bytes = so_far.bytes ++ bytes.now })))) ws.0 $ says ! x.0 $ done !
    ))))))))))))))
