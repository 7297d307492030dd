-- Messages that are read one after another.
use Rattle.std.proofs.Common.{◌≡◌, ℕ, Bool, true, false, length, map, List, [], ◌∷◌, ◌++◌, inl, inr, take, drop, append-nil, length-take-le, arith, Option, Some, None, Result, Ok, Err, refl, sym, ◌∙◌, ap, subst}
use Rattle.std.proofs.lemmas.List.{drop-drop, take-append-drop}
use Rattle.std.specs.Prelude.{◌≤◌, IfSome, IsErrAnd}
use Rattle.std.specs.Option.{option_map}
use Rattle.std.proofs.Math.Seq.{drop-append_seam}
use Rattle.std.specs.Io.KnownBytes.{Keeps, Consumes}
use Rattle.std.proofs.KnownBytes.{Keeps-refl}
use Rattle.ndef_format.specs.Limits.{LimitValues, greatest_length}
use Rattle.ndef_format.specs.Messages.{run_record}
use Rattle.ndef_format.specs.declared.refusal.Refusal.{Refusal}
use Rattle.ndef_format.specs.NestedReasons.{TypedReason}
use Rattle.ndef_format.specs.Payloads.{IsTypedPayload, Sets}
use Rattle.ndef_format.specs.Reasons.{Conditions}
use Rattle.ndef_format.specs.Refusals.{Refuses}
use Rattle.ndef_message.specs.Checkings.{ChecksFrom}
use Rattle.ndef_message.specs.Readings.{NeedsMemory, IsIncomplete, ReadsFrom}
use Rattle.ndef_message.specs.Sources.{Counts}
use Rattle.ndef_message.specs.States.{SourceState}
use Rattle.ndef_message.specs.Views.{Viewed, Views}
use Rattle.ndef_message.specs.declared.message_checking.Checked.{Checked}
use Rattle.ndef_message.specs.declared.message_checking.CheckError.{CheckError}
use Rattle.ndef_message.specs.declared.message_checking.CheckError.TheVariants as checks
use Rattle.ndef_message.specs.declared.message_reading.Read.{Read}
use Rattle.ndef_message.specs.declared.message_reading.ReadError.{ReadError}
use Rattle.ndef_message.specs.declared.message_reading.ReadError.TheVariants as errors
use Rattle.ndef_tool.specs.Inputs.{ReadsIn}
use Rattle.ndef_tool.specs.Output.{total_bytes}
use Rattle.ndef_tool.specs.Rules.{Rules, rules_of}
use Rattle.ndef_tool.specs.Sessions.{AreInTurn, IsNext, IsSession, Stops, TakesAfter, TakesNext, ViewsNext}
use Rattle.ndef_tool.specs.declared.choice.Choice.{Choice}
use Rattle.ndef_cli.specs.declared.outcome.Outcome.{Outcome}
use Rattle.ndef_cli.specs.declared.outcome.Outcome.TheVariants.{Reading, Writing, Memory}

-- a look ahead changes nothing of what is taken
consumes_kept : (a b c : Option (List ℕ)) (bytes : List ℕ) → Keeps a b → Consumes b c bytes → Consumes a c bytes
consumes_kept None b c bytes k h = tt
consumes_kept (Some x) None c bytes k h = absurd k
consumes_kept (Some x) (Some y) None bytes k h = absurd h
consumes_kept (Some x) (Some y) (Some z) bytes k h = sym k ∙ h

-- a front was consumed
pub consumed_front : (a b : Option (List ℕ)) (front : List ℕ) → Consumes a b front → IfSome a (λ input. (rest : List ℕ) × (input ≡ front ++ rest))
consumed_front None b front c = tt
consumed_front (Some xs) None front c = absurd c
consumed_front (Some xs) (Some ys) front c = (ys, c)

-- a look ahead changes nothing of what comes
if_kept : (P : List ℕ → Type 0) (a b : Option (List ℕ)) → Keeps a b → IfSome b P → IfSome a P
if_kept P None b k h = tt
if_kept P (Some x) None k h = absurd k
if_kept P (Some x) (Some y) k h = subst P k h

pub incomplete_kept : (set : Sets) (limits : LimitValues) (a b : Option (List ℕ)) (bytes : List ℕ) → Keeps a b → IsIncomplete set limits b bytes → IsIncomplete set limits a bytes
incomplete_kept set limits a b bytes k u =
    record { front = if_kept (λ input. (rest : List ℕ) × (input ≡ bytes ++ rest)) a b k u.front; viable = u.viable; unended = u.unended }

pub needs_kept : (set : Sets) (limits : LimitValues) (a b : Option (List ℕ)) (bytes : List ℕ) → Keeps a b → NeedsMemory set limits b bytes → NeedsMemory set limits a bytes
needs_kept set limits a b bytes k w = record {
  shown = w.shown;
  front = if_kept (λ input. (rest : List ℕ) × (input ≡ bytes ++ w.shown ++ rest)) a b k w.front;
  given = w.given;
  needs = w.needs;
}

-- the bytes that come after some messages
left_after : (rules : Rules) (xs : List ℕ) (b : Option (List ℕ)) (reads : List Read) → AreInTurn rules (Some xs) b reads → b ≡ Some (drop (total_bytes reads) xs)
left_after rules xs None [] k = absurd k
left_after rules xs (Some ys) [] k = ap Some k
left_after rules xs b (read ∷ reads) (None, d, f) = absurd d.1
left_after rules xs b (read ∷ reads) (Some ys, d, f) =
    let e : drop read.taken xs ≡ ys = ap (λ n. drop n xs) d.2 ∙ ap (drop (length d.0)) d.1 ∙ drop-append_seam d.0 ys in
    left_after rules ys b reads f
    ∙ ap (λ z. Some (drop (total_bytes reads) z)) (sym e)
    ∙ ap Some (drop-drop (total_bytes reads) read.taken xs)

pub if_after : (P : List ℕ → Type 0) (rules : Rules) (a b : Option (List ℕ)) (reads : List Read) (at : ℕ) → AreInTurn rules a b reads → at ≡ total_bytes reads → IfSome b P → IfSome (option_map (drop at) a) P
if_after P rules None b reads at f e h = tt
if_after P rules (Some xs) b reads at f e h =
    subst (λ n. P (drop n xs)) (sym e) (subst (λ x. IfSome x P) (left_after rules xs b reads f) h)

-- what is taken after some messages is taken of the bytes after them
pub takes_after : (rules : Rules) (a b : Option (List ℕ)) (reads : List Read) (at n : ℕ) (outcome : Outcome) → AreInTurn rules a b reads → at ≡ total_bytes reads
    → TakesAfter rules b outcome n → TakesAfter rules (option_map (drop at) a) outcome n
takes_after rules a b reads at n Reading f e (few, inl h) = (few, inl h)
takes_after rules a b reads at n Reading f e (few, inr h) =
    (few, inr (h.0, h.1, record { front = if_after (λ input. (rest : List ℕ) × (input ≡ h.0 ++ rest)) rules a b reads at f e h.2.front; viable = h.2.viable; unended = h.2.unended }))
takes_after rules a b reads at n Memory f e (few, bytes, same, inl h) =
    (few, bytes, same, inl (h.0, if_after (λ input. (rest : List ℕ) × (input ≡ bytes ++ rest)) rules a b reads at f e h.1))
takes_after rules a b reads at n Memory f e (few, bytes, same, inr w) = (
  few,
  bytes,
  same,
  inr (record {
    shown = w.shown;
    front = if_after (λ input. (rest : List ℕ) × (input ≡ bytes ++ w.shown ++ rest)) rules a b reads at f e w.front;
    given = w.given;
    needs = w.needs;
  }),
)
takes_after rules a b reads at n _ f e h = h

-- a look ahead changes nothing of what is read
pub reads_kept : (set : Sets) (holds : Conditions) (limits : LimitValues) (a b c : Option (List ℕ)) (r : Result Read ReadError) → Keeps a b
    → ReadsFrom set holds limits b c r → ReadsFrom set holds limits a c r
reads_kept set holds limits a b c (Ok read) k h = (h.0, consumes_kept a b c h.0 k h.1, h.2, h.3)
reads_kept set holds limits None b c (Err (errors.Refused r)) k h = (h.0, tt, h.2, tt)
reads_kept set holds limits (Some x) None c (Err (errors.Refused r)) k h = absurd k
reads_kept set holds limits (Some x) (Some y) c (Err (errors.Refused r)) k h =
    subst (λ bytes. ReadsFrom set holds limits (Some bytes) c (Err (errors.Refused r))) k h
reads_kept set holds limits a b c (Err errors.ReadFault) k h = tt
reads_kept set holds limits a b c (Err errors.NoMemory) k h = (h.0, consumes_kept a b c h.0 k h.1, h.2)

-- a look ahead changes nothing of what is checked
pub checks_kept : (set : Sets) (holds : Conditions) (limits : LimitValues) (a b c : Option (List ℕ)) (r : Result Checked CheckError) → Keeps a b
    → ChecksFrom set holds limits b c r → ChecksFrom set holds limits a c r
checks_kept set holds limits a b c (Ok checked) k h = (h.0, (h.1.0, consumes_kept a b c h.1.0 k h.1.1, h.1.2, h.1.3), h.2)
checks_kept set holds limits None b c (Err (checks.Refused r)) k h = (h.0, tt, h.2, tt)
checks_kept set holds limits (Some x) None c (Err (checks.Refused r)) k h = absurd k
checks_kept set holds limits (Some x) (Some y) c (Err (checks.Refused r)) k h =
    subst (λ bytes. ChecksFrom set holds limits (Some bytes) c (Err (checks.Refused r))) k h
checks_kept set holds limits a b c (Err checks.ReadFault) k h = tt

-- bytes that are refused are read to that place
pub refused_bytes : (set : Sets) (holds : Conditions) (limits : LimitValues) (input rest : List ℕ) (refusal : Refusal) → Refuses set holds limits input refusal → rest ≡ drop refusal.at input
    → ReadsFrom set holds limits (Some input) (Some rest) (Err (errors.Refused refusal))
refused_bytes set holds limits input rest refusal r e =
    let split : input ≡ take refusal.at input ++ rest = sym (take-append-drop refusal.at input) ∙ ap (λ x. take refusal.at input ++ x) (sym e) in
    (input, ([], sym (append-nil input), λ _. refl), r, split)

-- one message more
pub follow_more : (set : Sets) (holds : Conditions) (limits : LimitValues) (a b c : Option (List ℕ)) (reads : List Read) (read : Read) → AreInTurn (rules_of set holds limits) a b reads
    → ReadsFrom set holds limits b c (Ok read) → AreInTurn (rules_of set holds limits) a c (reads ++ read ∷ [])
follow_more set holds limits a b c [] read f h = (c, reads_kept set holds limits a b c (Ok read) f h, Keeps-refl c)
follow_more set holds limits a b c (r ∷ rs) read f h = (f.0, f.1, follow_more set holds limits f.0 b c rs read f.2 h)

-- what is only checked can be read
pub checked_read : (set : Sets) (holds : Conditions) (limits : LimitValues) (a b : Option (List ℕ)) (checked : Checked) → ChecksFrom set holds limits a b (Ok checked)
    → (read : Read) × (read.taken ≡ checked.taken) × (checked.records ≡ length read.message) × ReadsFrom set holds limits a b (Ok read)
checked_read set holds limits a b checked h =
    (record { message = h.0; taken = checked.taken }, refl, h.2, h.1)

-- of a message for whose block memory ran out
pub memory_taken : {X : Type 0} (taken_of : X → ℕ) (rules : Rules) (coming left : Option (List ℕ)) (before after : ℕ) (r : Result X Outcome) (read : Read) → IsErrAnd r (λ outcome. outcome ≡ Memory)
    → ReadsFrom rules.payloads rules.reasons rules.limits coming left (Ok read) → read.taken ≤ greatest_length rules.limits → Counts before after read.taken → TakesNext taken_of rules coming before after r
memory_taken taken_of rules coming left before after (Ok x) read h d few counts = absurd h
memory_taken taken_of rules coming left before after (Err e) read h d few counts =
    subst (λ x. (n : ℕ) × TakesAfter rules coming x n × Counts before after n) (sym h)
    (read.taken, (few, d.0, d.2, inl ((read.message, d.3), consumed_front coming left d.0 d.1)), counts)

-- what is viewed can be read
viewed_read : (set : Sets) (holds : Conditions) (limits : LimitValues) (input rest : List ℕ) (v : Viewed) → Views set holds limits input (Ok v) → rest ≡ drop v.taken input
    → ReadsFrom set holds limits (Some input) (Some rest) (Ok (record { message = map run_record v.runs; taken = v.taken }))
viewed_read set holds limits input rest v h e =
    let split : input ≡ take v.taken input ++ rest = sym (take-append-drop v.taken input) ∙ ap (λ x. take v.taken input ++ x) (sym e) in
    (take v.taken input, split, sym (length-take-le v.taken input h.0), h.1.0)

-- what is viewed is read, unless memory runs out
pub viewed_unread : (set : Sets) (holds : Conditions) (limits : LimitValues) (count : ℕ) (input rest : List ℕ) (v : Viewed) (r : Result Read Outcome) → IsErrAnd r (λ outcome. outcome ≡ Memory)
    → ViewsNext (rules_of set holds limits) count input rest (Ok v) → v.taken ≤ greatest_length limits → IsNext (rules_of set holds limits) count (Some input) (Some rest) false r
viewed_unread set holds limits count input rest v (Ok read) h next few = absurd h
viewed_unread set holds limits count input rest v (Err e) h next few =
    let r = viewed_read set holds limits input rest v next.1 next.2 in
    subst (λ x. Stops (rules_of set holds limits) count (Some input) (Some rest) false false x) (sym h) (next.0, refl, (r.0, r.1, omega (arith, r.2)))

-- .. and all of it is taken
pub viewed_taken : {X : Type 0} (taken_of : X → ℕ) (set : Sets) (holds : Conditions) (limits : LimitValues) (input rest : List ℕ) (before after : ℕ) (v : Viewed) (r : Result X Outcome) → IsErrAnd r (λ outcome. outcome ≡ Memory)
    → Views set holds limits input (Ok v) → rest ≡ drop v.taken input → v.taken ≤ greatest_length limits → Counts before after v.taken
    → TakesNext taken_of (rules_of set holds limits) (Some input) before after r
viewed_taken taken_of set holds limits input rest before after v r h is e few counts =
    let d = viewed_read set holds limits input rest v is e in
    memory_taken taken_of (rules_of set holds limits) (Some input) (Some rest) before after r (record { message = map run_record v.runs; taken = v.taken }) h d few counts

-- messages end for the same reason where another sink failed
pub stops_on : (set : Sets) (holds : Conditions) (limits : LimitValues) (count : ℕ) (a b : Option (List ℕ)) (failed old new : Bool) (outcome : Outcome) → (old ≡ true → new ≡ true)
    → Stops (rules_of set holds limits) count a b failed old outcome → Stops (rules_of set holds limits) count a b failed new outcome
stops_on set holds limits count a b failed old new Writing on h = (on h.0, h.1)
stops_on set holds limits count a b failed old new _ on h = h

session_on : (choice : Choice) (a b : Option (List ℕ)) (failed old new : Bool) (reads : List Read) (outcome : Outcome) → (old ≡ true → new ≡ true)
    → IsSession choice a b failed old reads outcome → IsSession choice a b failed new reads outcome
session_on choice a b failed old new reads outcome on s = record {
  few = s.few;
  between = s.between;
  follow = s.follow;
  stops = stops_on IsTypedPayload TypedReason choice.limits (length reads) s.between b failed old new outcome on s.stops;
  may = s.may;
}

-- messages of hexadecimal text end for the same reason where another sink failed
pub reads_on : (hex : Bool) (choice : Choice) (a b : SourceState) (old new : Bool) (reads : List Read) (outcome : Outcome) → (old ≡ true → new ≡ true)
    → ReadsIn hex choice a b old reads outcome → ReadsIn hex choice a b new reads outcome
reads_on false choice a b old new reads how on h = (session_on choice a.coming b.coming b.failed old new reads how on h.0, h.1)
reads_on true choice a b old new reads how on (Ok bytes, i, r) =
    (Ok bytes, i, (r.0, session_on choice (Some bytes) r.0 false old new reads how on r.1, r.2, r.3))
reads_on true choice a b old new reads how on (Err why, i, p) = (Err why, i, p)
