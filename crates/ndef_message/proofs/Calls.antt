-- Calls of an encoder of a record, one after another.
use Rattle.std.proofs.Common.{◌≡◌, ℕ, ◌+◌, ◌-◌, ◌≤◌, List, [], ◌∷◌, ◌++◌, length, take, drop, sym, ap, ◌∙◌, arith, length-append, length-drop, append_assoc}
use Rattle.std.proofs.lemmas.List.{drop-drop}
use Rattle.std.specs.List.{flat_map}
use Rattle.ndef_message.specs.Steps.{AreCalls, Begun, Call, StepsAreExact, octets_left, unstarted}
use Rattle.ndef_message.proofs.RecordBegins.{leaves_all}
use Rattle.ndef_message.proofs.RecordSteps.{some_size}

joined : (kind id payload : List ℕ) (calls : List Call) (old last : Begun) → old.progress.taken ≤ length payload → length payload ≡ old.plan.payload_length
    → AreCalls kind id payload old calls last
    → flat_map (λ c. take c.count c.after) calls ++ octets_left last.plan last.progress kind id (drop last.progress.taken payload)
    ≡ octets_left old.plan old.progress kind id (drop old.progress.taken payload)
joined kind id payload [] old last within long are = ap (λ b. octets_left b.plan b.progress kind id (drop b.progress.taken payload)) are
joined kind id payload (c ∷ cs) old last within long (more, mid, front, writes, next) =
    let text = take c.count c.after in
    let s = writes.octets in
    let from = s.from in
    let to = s.to in
    let d = length-drop old.progress.taken payload in
    let n = ap length front in
    let k = length-append c.part more in
    let back : old.progress.taken + (mid.progress.taken - old.progress.taken) ≡ mid.progress.taken = omega (arith, from) in
    append_assoc text (flat_map (λ c. take c.count c.after) cs) (octets_left last.plan last.progress kind id (drop last.progress.taken payload))
    ∙ ap (λ l. text ++ l) (joined kind id payload cs mid last (omega (arith, to, d, n, k, within)) (long ∙ sym (ap (λ p. p.payload_length) writes.plan)) next
    ∙ ap (λ p. octets_left p mid.progress kind id (drop mid.progress.taken payload)) writes.plan)
    ∙ sym (ap (octets_left old.plan old.progress kind id) front ∙ s.octets more (omega (arith, d, n, k, within, long))
    ∙ ap (λ l. text ++ octets_left old.plan mid.progress kind id l)
    (ap (drop (mid.progress.taken - old.progress.taken)) (sym front)
    ∙ drop-drop (mid.progress.taken - old.progress.taken) old.progress.taken payload ∙ ap (λ n. drop n payload) back))

pub steps_are_exact : StepsAreExact
steps_are_exact p kind id payload calls last can sized names long are =
    joined kind id payload calls (record { plan = p; progress = unstarted }) last (omega arith) long are
    ∙ leaves_all p can (some_size p.size sized) kind id payload names long
