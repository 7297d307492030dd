-- The number of bytes of a message, or of a front of one.
use Rattle.std.proofs.Common.{◌+◌, ◌*◌, ◌≤◌, ◌<◌, ◌^◌, ◌⊎◌, inl, inr, ℕ, List, ◌++◌, length, map, take, Option, length-append, length-take, length-take-le, Ok, arith, mul-le-mul_left}
use Rattle.ndef_format.specs.Limits.{LimitValues, AreInRange, greatest_length}
use Rattle.ndef_format.specs.Laws.{MessagesAreBounded}
use Rattle.ndef_format.specs.Messages.{run_record}
use Rattle.ndef_format.specs.declared.refusal.Refusal.{Refusal}
use Rattle.ndef_format.specs.Payloads.{Sets}
use Rattle.ndef_format.specs.Reasons.{Conditions}
use Rattle.ndef_format.specs.Refusals.{Refuses}
use Rattle.ndef_format.specs.Accepted.{IsViable}
use Rattle.ndef_message.specs.Decoding.{Wants}
use Rattle.ndef_message.specs.Readings.{EndsRecord, NeedsMemory}
use Rattle.ndef_message.specs.Views.{Viewed, Views}

-- so few that those of 10000 messages can be added up
pub greatest_small : (limits : LimitValues) → AreInRange limits → greatest_length limits < 2 ^ 49
greatest_small limits r =
    let a = r.payload.1 in
    let b = r.records.1 in
    let c = r.pieces.1 in
    let k : 6 * limits.pieces + 511 + limits.payload ≤ 4295361016 = omega arith in
    let m : limits.records * (6 * limits.pieces + 511 + limits.payload) ≤ limits.records * 4295361016 = mul-le-mul_left limits.records k in
    omega arith

-- a refused place is that of one message at most
pub refused_bounded : MessagesAreBounded → (set : Sets) (holds : Conditions) (limits : LimitValues) (bytes : List ℕ) (refusal : Refusal) → Refuses set holds limits bytes refusal
    → refusal.at ≤ greatest_length limits
refused_bounded bounded set holds limits bytes refusal r =
    let p = r.place in
    let front = take refusal.at bytes in
    let d = p.viable.1.1 in
    omega (arith, p.within, bounded limits d.runs p.viable.1.0 (front ++ p.viable.0) d.spelling d.within, length-append front p.viable.0, length-take refusal.at bytes)

-- what is viewed is one message
pub viewed_bounded : MessagesAreBounded → (set : Sets) (holds : Conditions) (limits : LimitValues) (input : List ℕ) (v : Viewed) → Views set holds limits input (Ok v)
    → v.taken ≤ greatest_length limits
viewed_bounded bounded set holds limits input v h =
    let d = h.1.0 in
    omega (arith, bounded limits d.runs (map run_record v.runs) (take v.taken input) d.spelling d.within, length-take-le v.taken input h.0)

-- what can be completed to a message is no longer than one
pub viable_bounded : MessagesAreBounded → (set : Sets) (limits : LimitValues) (bytes : List ℕ) → IsViable set limits bytes → length bytes ≤ greatest_length limits
viable_bounded bounded set limits bytes v =
    let d = v.1.1 in
    omega (arith, bounded limits d.runs v.1.0 (bytes ++ v.0) d.spelling d.within, length-append bytes v.0)

-- nor are bytes after which memory is needed
pub needs_bounded : MessagesAreBounded → (set : Sets) (limits : LimitValues) (coming : Option (List ℕ)) (bytes : List ℕ) → NeedsMemory set limits coming bytes → length bytes ≤ greatest_length limits
needs_bounded bounded set limits coming bytes w = by_wants w.needs
  where
    by_wants : EndsRecord set limits bytes w.given ⊎ Wants set limits bytes w.given w.shown → length bytes ≤ greatest_length limits
    by_wants (inl e) = viable_bounded bounded set limits bytes e.1
    by_wants (inr g) = omega (arith, viable_bounded bounded set limits (bytes ++ take (g.count + 1) w.shown) g.viable, length-append bytes (take (g.count + 1) w.shown))
