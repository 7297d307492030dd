-- The messages that were handled so far.
use Rattle.std.proofs.Common.{◌≡◌, ◌+◌, ◌*◌, ◌<◌, ◌≤◌, ◌^◌, ◌⊎◌, inl, inr, ℕ, Bool, true, false, List, [], ◌∷◌, ◌++◌, length, Option, Result, Ok, Err, refl, sym, ap, subst, ◌∙◌, arith, length-append}
use Rattle.std.specs.Io.KnownBytes.{Appends, Keeps}
use Rattle.std.proofs.KnownBytes.{Appends-trans, Keeps-refl, Keeps-trans}
use Rattle.std.proofs.lemmas.Bool.{false≢true}
use Rattle.ndef_format.specs.NestedReasons.{TypedReason}
use Rattle.ndef_format.specs.Payloads.{IsTypedPayload}
use Rattle.ndef_format.specs.Limits.{AreInRange, LimitValues}
use Rattle.ndef_message.specs.Sending.{Sent, MarksOf}
use Rattle.ndef_message.specs.Sources.{Counts}
use Rattle.ndef_message.specs.States.{SinkState}
use Rattle.ndef_message.specs.declared.message_reading.Read.{Read}
use Rattle.ndef_message.specs.declared.sending.WriteFault.{WriteFault}
use Rattle.ndef_cli.specs.Outcomes.{FitsPlace, status_of}
use Rattle.ndef_tool.specs.Output.{AreBlocks, IsBlock, IsBlockBy, IsOutput, total_bytes, outcome_line, message_line}
use Rattle.ndef_cli.specs.Quoting.{Text}
use Rattle.ndef_tool.specs.Rules.{typed_rules}
use Rattle.ndef_cli.specs.Statuses.{status_after}
use Rattle.ndef_cli.specs.Statuses.{EndsCommand}
use Rattle.ndef_tool.specs.Blocks.{block_text}
use Rattle.ndef_cli.specs.Outputs.{GoesOut}
use Rattle.ndef_tool.specs.Sessions.{AreInTurn, Handles, IsSession, MayEnd, PrintsNext, Silences, Stops, TakesAfter}
use Rattle.ndef_tool.specs.declared.choice.Action.{Action}
use Rattle.ndef_tool.specs.declared.choice.Action.TheVariants.{Show, Check, Encode}
use Rattle.ndef_tool.specs.declared.choice.Choice.{Choice}
use Rattle.ndef_cli.specs.declared.outcome.Outcome.TheVariants.{Clean, Refused, Hex, Reading, Writing, Memory, TooMany, TooLong}
use Rattle.ndef_cli.specs.declared.outcome.Outcome.{Outcome}
use Rattle.ndef_cli.specs.declared.status.Status.{Status}
use Rattle.ndef_cli.specs.declared.status.Status.TheVariants as status
use Rattle.ndef_tool.specs.declared.session.Printed.{Printed}
use Rattle.ndef_tool.specs.declared.session.Session.{Session}
use Rattle.ndef_tool.proofs.Bounded.{greatest_small}
use Rattle.ndef_tool.proofs.Outputs.{blocks_more, bytes_more, outcome_status, goes_after, goes_to_end, stays_failed}
use Rattle.ndef_tool.proofs.Sessions.{follow_more, stops_on}

-- a sink
abbrev sink : Option (List ℕ) → Bool → SinkState
sink written failed = record { written = written; failed = failed }

-- numbers of bytes that are taken add up
pub counts_more : (a b c m n : ℕ) → Counts a b m → Counts b c n → Counts a c (m + n)
counts_more a b c m n h k = λ small.
    let middle : a + m < 2 ^ 64 = omega arith in
    let last : b + n < 2 ^ 64 = omega (arith, h middle) in
    omega (arith, h middle, k last)

-- the line of a message that was checked
pub check_printed : (choice : Choice) (number at : ℕ) (read : Read) (records taken : ℕ) (text : Text) → choice.action ≡ Check → text ≡ message_line number at records taken
    → records ≡ length read.message → read.taken ≡ taken → IsBlock choice number at read text
check_printed choice number at read records taken text is e n t =
    let line : text ≡ message_line number at (length read.message) read.taken =
    e ∙ ap (λ x. message_line number at x taken) n ∙ ap (λ x. message_line number at (length read.message) x) (sym t) in
    subst (λ action. IsBlockBy action choice.limits.profile choice.hex number at read text) (sym is) line

-- the place of a refusal after at most 10000 messages can be counted
pub fits_after : (limits : LimitValues) (coming : Option (List ℕ)) (count at a b : ℕ) (outcome : Outcome) → AreInRange limits → count ≤ 10000 → at ≤ count * 2 ^ 49
    → (n : ℕ) × TakesAfter (typed_rules limits) coming outcome n × Counts a b n → FitsPlace at outcome
fits_after limits coming count at a b (Refused r) range few room (n, (e, h), k) = omega (arith, e, h, greatest_small limits range)
fits_after limits coming count at a b Clean range few room t = tt
fits_after limits coming count at a b (Hex x) range few room t = tt
fits_after limits coming count at a b Reading range few room t = tt
fits_after limits coming count at a b Writing range few room t = tt
fits_after limits coming count at a b Memory range few room t = tt
fits_after limits coming count at a b TooMany range few room t = tt
fits_after limits coming count at a b TooLong range few room t = tt

-- these were read, and their blocks are written
pub record HandledSoFar (choice : Choice) (a b : Option (List ℕ)) (v w : Option (List ℕ)) (marked : Bool) (count at : ℕ) : Type 0 where
  pub reads : List Read
  pub number : count ≡ length reads
  pub place : at ≡ total_bytes reads
  pub follow : AreInTurn (typed_rules choice.limits) a b reads
  pub blocks : Text
  pub are_blocks : AreBlocks choice 1 0 reads blocks
  pub written : Appends v w blocks
  pub quiet : marked ≡ true → (blocks ≡ []) × Keeps v w

block_after : (choice : Choice) (count at : ℕ) (reads : List Read) (read : Read) (done text : Text) → count ≡ length reads → at ≡ total_bytes reads
    → AreBlocks choice 1 0 reads done → IsBlock choice (count + 1) at read text → AreBlocks choice 1 0 (reads ++ read ∷ []) (done ++ text)
block_after choice count at reads read done text n p are is =
    let number : count + 1 ≡ 1 + length reads = omega arith in
    let place : at ≡ 0 + total_bytes reads = omega arith in
    blocks_more choice 1 0 reads read done text are (rw (number, place) at is)

-- one message more, and its block
pub handled_more : (choice : Choice) (a b c : Option (List ℕ)) (v w x : Option (List ℕ)) (marked : Bool) (count at : ℕ) (failed : Bool) (printed : Printed)
    → HandledSoFar choice a b v w marked count at → PrintsNext choice count at b c failed (Ok printed) → Appends w x (block_text printed.block)
    → (marked ≡ true → (block_text printed.block ≡ []) × Keeps w x) → HandledSoFar choice a c v x marked (count + 1) (at + printed.taken)
handled_more choice a b c v w x marked count at failed printed s (read, next, is, e) sent still =
    let text = block_text printed.block in
    record {
      reads = s.reads ++ read ∷ [];
      number = omega (arith, s.number, length-append s.reads (read ∷ []));
      place = omega (arith, s.place, e, bytes_more s.reads read);
      follow = follow_more IsTypedPayload TypedReason choice.limits a b c s.reads read s.follow next.2;
      blocks = s.blocks ++ text;
      are_blocks = block_after choice count at s.reads read s.blocks text s.number s.place s.are_blocks is;
      written = Appends-trans v w x s.blocks text s.written sent;
      quiet = λ m. (ap (λ t. s.blocks ++ t) (still m).0 ∙ ap (λ t. t ++ []) (s.quiet m).0, Keeps-trans v w x (s.quiet m).1 (still m).1);
    }

-- a text of a sink that had failed before is none, or fails
pub still_out : (old new : Bool) (text : Text) (n : ℕ) → MarksOf old new text (Ok n) → old ≡ true → text ≡ []
still_out old new [] n m h = refl
still_out old new (x ∷ text) n m h = absurd (false≢true (sym (m.1 (omega arith)) ∙ h))

-- the messages end, and none has a block
pub silent_end : (choice : Choice) (a b c : Option (List ℕ)) (v w : Option (List ℕ)) (old : Bool) (count at : ℕ) (failed new : Bool) (outcome : Outcome)
    → HandledSoFar choice a b v w true count at → count ≤ 10000 → Stops (typed_rules choice.limits) count b c failed false outcome → MayEnd choice.action outcome → new ≡ true
    → Silences (IsSession choice a c failed new) choice (sink v old) (sink w new) (record { at = at; outcome = outcome })
silent_end choice a b c v w old count at failed new outcome s few stops may mark = record {
  keeps = (s.quiet refl).1;
  mark = mark;
  ends = inr (
    s.reads,
    record {
      few = omega (arith, s.number);
      between = b;
      follow = s.follow;
      stops = stops_on IsTypedPayload TypedReason choice.limits (length s.reads) b c failed false new outcome (λ e. mark) (subst (λ n. Stops (typed_rules choice.limits) n b c failed false outcome) s.number stops);
      may = may;
    },
    s.place,
    subst (AreBlocks choice 1 0 s.reads) (s.quiet refl).0 s.are_blocks,
  );
}

may_write : (action : Action) → MayEnd action Writing
may_write Show = tt
may_write Check = refl
may_write (Encode form size) = tt

-- one message more, and its block, of which a front went out
pub handled_in_part : (choice : Choice) (a b c : Option (List ℕ)) (v w x : Option (List ℕ)) (first marked : Bool) (count at : ℕ) (printed : Printed)
    (source_failed failed old new : Bool) (f : WriteFault) → HandledSoFar choice a b v w marked count at → PrintsNext choice count at b c failed (Ok printed)
    → old ≡ false → Sent 0 w x (block_text printed.block) (Err f) → new ≡ true
    → Handles (IsSession choice a c source_failed new) choice (sink v first) (sink x new) (record { at = at + printed.taken; outcome = Writing })
handled_in_part choice a b c v w x first marked count at printed source_failed failed old new f s (read, next, is, e) clear sent m =
    let text = block_text printed.block in
    record {
      reads = s.reads ++ read ∷ [];
      is = record {
        few = omega (arith, s.number, next.0, length-append s.reads (read ∷ []));
        between = c;
        follow = follow_more IsTypedPayload TypedReason choice.limits a b c s.reads read s.follow next.2;
        stops = (m, Keeps-refl c);
        may = may_write choice.action;
      };
      at = omega (arith, s.place, e, bytes_more s.reads read);
      blocks = s.blocks ++ text;
      are_blocks = block_after choice count at s.reads read s.blocks text s.number s.place s.are_blocks is;
      written = goes_after v w x old new s.blocks text (Err f) clear s.written sent m;
      mark = m;
    }

-- the line of the ending after them
pub session_ends : (Old New : List Read → Outcome → Type 0) (choice : Choice) (v w x : Option (List ℕ)) (first middle new : Bool) (session : Session) (line : Text) (r : Result ℕ WriteFault) (result : Status)
    → ((reads : List Read) → (middle ≡ true → new ≡ true) → Old reads session.outcome → New reads session.outcome) → Handles Old choice (sink v first) (sink w middle) session
    → line ≡ outcome_line choice.action session.at session.outcome → Sent 0 w x line r → MarksOf middle new line r → EndsCommand r (status_of session.outcome) result
    → (reads : List Read) × (text : Text) × New reads session.outcome × IsOutput choice reads session.outcome text × GoesOut v x new text × (result ≡ status_after new (status_of session.outcome))
session_ends Old New choice v w x first middle new session line r result on h e sent marks ends =
    let same : line ≡ outcome_line choice.action (total_bytes h.reads) session.outcome = e ∙ ap (λ at. outcome_line choice.action at session.outcome) h.at in (
      h.reads,
      h.blocks ++ outcome_line choice.action (total_bytes h.reads) session.outcome,
      on h.reads (stays_failed middle new line r marks) h.is,
      (h.blocks, h.are_blocks, refl),
      goes_to_end v w x middle new h.blocks choice.action (total_bytes h.reads) session.outcome r h.mark h.written (rw same at sent) (rw same at marks),
      outcome_status middle new line session.outcome r result h.mark marks ends,
    )

-- into a sink that had failed before a text of some bytes fails
pub failed_status : (old new : Bool) (text : Text) (r : Result ℕ WriteFault) (st result : Status) → old ≡ true → MarksOf old new text r → EndsCommand r st result
    → ((text ≡ []) × (result ≡ st)) ⊎ (result ≡ status.Fault)
failed_status old new text (Ok n) st result h m e = inl (still_out old new text n m h, e)
failed_status old new text (Err f) st result h m e = inr e

-- the line of the ending, which doesn't go out
pub silent_ends : (Old New : List Read → Outcome → Type 0) (choice : Choice) (v w x : Option (List ℕ)) (first middle new : Bool) (session : Session) (line : Text) (r : Result ℕ WriteFault) (result : Status)
    → ((reads : List Read) → (middle ≡ true → new ≡ true) → Old reads session.outcome → New reads session.outcome) → Silences Old choice (sink v first) (sink w middle) session
    → line ≡ outcome_line choice.action session.at session.outcome → Keeps w x → MarksOf middle new line r → EndsCommand r (status_of session.outcome) result
    → Keeps v x × (new ≡ true)
    × ((result ≡ status.Fault) ⊎ ((reads : List Read) × New reads session.outcome × IsOutput choice reads session.outcome [] × (result ≡ status_of session.outcome)))
silent_ends Old New choice v w x first middle new session line r result on s e kept marks ends =
    (Keeps-trans v w x s.keeps kept, stays_failed middle new line r marks s.mark, by_status s.ends (failed_status middle new line r (status_of session.outcome) result s.mark marks ends))
  where
    by_status : (session.outcome ≡ Writing) ⊎ ((reads : List Read) × Old reads session.outcome × (session.at ≡ total_bytes reads) × AreBlocks choice 1 0 reads [])
        → ((line ≡ []) × (result ≡ status_of session.outcome)) ⊎ (result ≡ status.Fault)
        → (result ≡ status.Fault) ⊎ ((reads : List Read) × New reads session.outcome × IsOutput choice reads session.outcome [] × (result ≡ status_of session.outcome))
    by_status h (inr f) = inl f
    by_status (inl h) (inl f) = inl (f.1 ∙ ap status_of h)
    by_status (inr h) (inl f) =
        inr (h.0, on h.0 (stays_failed middle new line r marks) h.1, ([], h.3, sym f.0 ∙ e ∙ ap (λ at. outcome_line choice.action at session.outcome) h.2), f.1)
