-- The output, and the part of it that goes out.
use Rattle.std.proofs.Common.{◌≡◌, ◌+◌, ◌-◌, ℕ, Bool, true, false, List, [], ◌∷◌, ◌++◌, length, take, Option, Result, Ok, Err, refl, sym, ap, ◌∙◌, subst, arith, append-nil, append_assoc}
use Rattle.std.proofs.lemmas.Bool.{false≢true}
use Rattle.std.proofs.Math.Seq.{take-append-add, take-nil}
use Rattle.std.specs.Io.KnownBytes.{Appends}
use Rattle.std.proofs.KnownBytes.{Appends-nil, Appends-trans}
use Rattle.ndef_message.specs.Sending.{Sent, MarksOf}
use Rattle.ndef_message.specs.declared.message_reading.Read.{Read}
use Rattle.ndef_message.specs.declared.sending.WriteFault.{WriteFault}
use Rattle.ndef_cli.specs.Outcomes.{status_of}
use Rattle.ndef_tool.specs.Output.{AreBlocks, IsBlock, total_bytes, outcome_line}
use Rattle.ndef_cli.specs.Quoting.{Text}
use Rattle.ndef_cli.specs.Statuses.{status_after}
use Rattle.ndef_cli.specs.Statuses.{EndsCommand}
use Rattle.ndef_cli.specs.Outputs.{GoesOut}
use Rattle.ndef_tool.specs.Sessions.{is_writing}
use Rattle.ndef_tool.specs.declared.choice.Action.{Action}
use Rattle.ndef_tool.specs.declared.choice.Action.TheVariants.{Show, Check, Encode}
use Rattle.ndef_tool.specs.declared.choice.Choice.{Choice}
use Rattle.ndef_cli.specs.declared.outcome.Outcome.{Outcome}
use Rattle.ndef_cli.specs.declared.outcome.Outcome.TheVariants.{Writing}
use Rattle.ndef_cli.specs.declared.status.Status.{Status}
use Rattle.ndef_cli.specs.declared.status.Status.TheVariants as status

-- ---- one message more

pub bytes_more : (reads : List Read) (read : Read) → total_bytes (reads ++ read ∷ []) ≡ total_bytes reads + read.taken
bytes_more [] read = omega arith
bytes_more (r ∷ rs) read = let rest = bytes_more rs read in omega (arith, rest)

pub blocks_more : (choice : Choice) (number at : ℕ) (reads : List Read) (read : Read) (done block : Text) → AreBlocks choice number at reads done
    → IsBlock choice (number + length reads) (at + total_bytes reads) read block → AreBlocks choice number at (reads ++ read ∷ []) (done ++ block)
blocks_more choice number at [] read done block are is =
    let n : number + 0 ≡ number = omega arith in
    let p : at + 0 ≡ at = omega arith in
    (block, [], rw (n, p) at is, refl, ap (λ t. t ++ block) are ∙ sym (append-nil block))
blocks_more choice number at (r ∷ rs) read done block are is =
    let n : number + length (r ∷ rs) ≡ number + 1 + length rs = omega arith in
    let p : at + (r.taken + total_bytes rs) ≡ at + r.taken + total_bytes rs = omega arith in (
      are.0,
      are.1 ++ block,
      are.2,
      blocks_more choice (number + 1) (at + r.taken) rs read are.1 block are.3 (rw (n, p) at is),
      ap (λ t. t ++ block) are.4 ∙ append_assoc are.0 are.1 block,
    )

-- ---- what goes out

-- a text after one that went out
pub goes_after : (a b c : Option (List ℕ)) (old new : Bool) (done text : Text) (r : Result ℕ WriteFault) → old ≡ false → Appends a b done
    → Sent 0 b c text r → MarksOf old new text r → GoesOut a c new (done ++ text)
goes_after a b c old new done text (Ok n) clear d s m =
    subst (λ (failed : Bool). GoesOut a c failed (done ++ text)) (sym (m.0 ∙ clear)) (Appends-trans a b c done text d s.0)
goes_after a b c old new done text (Err f) clear d s m =
    let front : take (length done + (f.written - 0)) (done ++ text) ≡ done ++ take (f.written - 0) text = take-append-add done text (f.written - 0) in
    subst (λ (failed : Bool). GoesOut a c failed (done ++ text)) (sym m)
    (length done + (f.written - 0), subst (Appends a c) (sym front) (Appends-trans a b c done _ d s.0))

-- where nothing is printed
pub nothing_out : (a : Option (List ℕ)) (failed : Bool) → failed ≡ false → GoesOut a a failed [] × (status.Fault ≡ status_after failed status.Fault)
nothing_out a false clear = (Appends-nil a, refl)
nothing_out a true clear = absurd (false≢true (sym clear))

-- a sink that failed stays so
pub stays_failed : (old new : Bool) (text : Text) (r : Result ℕ WriteFault) → MarksOf old new text r → old ≡ true → new ≡ true
stays_failed old new text (Ok n) m h = m.0 ∙ h
stays_failed old new text (Err f) m h = m

-- nothing more goes out
goes_no_further : (a b c : Option (List ℕ)) (new : Bool) (done : Text) (r : Result ℕ WriteFault) → GoesOut a b true done → Sent 0 b c [] r → MarksOf true new [] r
    → GoesOut a c new (done ++ [])
goes_no_further a b c new done r d s m =
    subst (λ (failed : Bool). GoesOut a c failed (done ++ [])) (sym (stays_failed true new [] r m refl))
    (d.0, subst (λ t. Appends a c (take d.0 t)) (sym (append-nil done)) (none r s))
  where
    none : (r : Result ℕ WriteFault) → Sent 0 b c [] r → Appends a c (take d.0 done)
    none (Ok n) s = subst (Appends a c) (append-nil (take d.0 done)) (Appends-trans a b c (take d.0 done) [] d.1 s.0)
    none (Err f) s =
        subst (Appends a c) (append-nil (take d.0 done)) (Appends-trans a b c (take d.0 done) [] d.1 (subst (Appends b c) (take-nil (f.written - 0)) s.0))

-- the line of an ending after the blocks
pub goes_to_end : (a b c : Option (List ℕ)) (middle new : Bool) (done : Text) (action : Action) (base : ℕ) (outcome : Outcome) (r : Result ℕ WriteFault) → middle ≡ is_writing outcome
    → GoesOut a b middle done → Sent 0 b c (outcome_line action base outcome) r → MarksOf middle new (outcome_line action base outcome) r
    → GoesOut a c new (done ++ outcome_line action base outcome)
goes_to_end a b c middle new done Show base Writing r is d s m =
    goes_no_further a b c new done r (subst (λ (failed : Bool). GoesOut a b failed done) is d) s (subst (λ (failed : Bool). MarksOf failed new [] r) is m)
goes_to_end a b c middle new done Check base Writing r is d s m =
    goes_no_further a b c new done r (subst (λ (failed : Bool). GoesOut a b failed done) is d) s (subst (λ (failed : Bool). MarksOf failed new [] r) is m)
goes_to_end a b c middle new done (Encode form size) base Writing r is d s m =
    goes_no_further a b c new done r (subst (λ (failed : Bool). GoesOut a b failed done) is d) s (subst (λ (failed : Bool). MarksOf failed new [] r) is m)
goes_to_end a b c middle new done action base _ r is d s m = goes_after a b c middle new done _ r is (subst (λ (failed : Bool). GoesOut a b failed done) is d) s m

-- ---- the status

pub usage_status : (old new : Bool) (text : Text) (r : Result ℕ WriteFault) (st result : Status) → old ≡ false → MarksOf old new text r → EndsCommand r st result → result ≡ status_after new st
usage_status old new text (Ok n) st result clear m e = e ∙ ap (λ (failed : Bool). status_after failed st) (sym (m.0 ∙ clear))
usage_status old new text (Err f) st result clear m e = e ∙ ap (λ (failed : Bool). status_after failed st) (sym m)

pub outcome_status : (middle new : Bool) (text : Text) (outcome : Outcome) (r : Result ℕ WriteFault) (result : Status) → middle ≡ is_writing outcome → MarksOf middle new text r
    → EndsCommand r (status_of outcome) result → result ≡ status_after new (status_of outcome)
outcome_status middle new text Writing (Ok n) result is m e = e ∙ ap (λ (failed : Bool). status_after failed status.Fault) (sym (m.0 ∙ is))
outcome_status middle new text Writing (Err f) result is m e = e ∙ ap (λ (failed : Bool). status_after failed status.Fault) (sym m)
outcome_status middle new text _ r result is m e = usage_status middle new text r _ result is m e
