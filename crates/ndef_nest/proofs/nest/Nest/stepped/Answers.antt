use Rattle.std.proofs.Common.{◌≢◌, ◌+◌, ◌∙◌, [], ◌∷◌, ◌++◌, refl, ap}
use Rattle.ndef_lang.specs.Machine.Kind.{missing_of}
use Rattle.ndef_nest.specs.declared.phase.NestPhase.TheVariants as phases
use Rattle.ndef_nest.specs.Machine.SpanLaws.{some_records}
use Rattle.ndef_nest.proofs.Steps.{fresh, fresh_completes, some_left}
use Rattle.ndef_nest.proofs.Reaching.{reached_on, fresh_come, started_come, records_pass}
use Rattle.ndef_nest.proofs.Reasons.{reason_goes_on, reason_in_name, reason_in_body, ended, reason_at_last}
use Rattle.ndef_nest.proofs.nest.Nest.stepped.Goals as goal

pub returns-in-Start-clause-reached : goal.returns-in-Start-clause-reached
returns-in-Start-clause-reached c kind records profile s x =
    let n = c.args.self.now in
    let o = c.at_head.new.self in
    let k = c.at_head.ensures.kept in
    let empty = c.new-self.ensures.empty in
    let not_version : n.phase ≢ phases.Version = λ e. (let i = c.in-Start.is in cc) in (
      k.0 ∙ x.0,
      k.1 ∙ x.1,
      reached_on n o.context o.reader.spot.first o.reader.octets o.phase records s (c.args.byte ∷ []) not_version k.0
          (λ m h. c.at_head.ensures.come records m
          (started_come n.context c.new-self.result.spot.first c.new-self.result.octets records m (ap (λ q. q.octets) empty) (ap (λ q. q.spot.first) empty ∙ ap (λ p. p.first) c.spot.ensures) (rw c.in-Start.is at h))) x.2,
    )

pub returns-in-Start-clause-reason : goal.returns-in-Start-clause-reason
returns-in-Start-clause-reason c kind records profile s x p =
    let n = c.args.self.now in
    let empty = c.new-self.ensures.empty in
    let none = ap (λ q. q.octets) empty in
    let not_version : n.phase ≢ phases.Version = λ e. (let i = c.in-Start.is in cc) in
    reason_goes_on n kind records profile s c.args.byte c.at_head.new.self.reason not_version
    (λ m h. c.at_head.ensures.reason records m
    (started_come n.context c.new-self.result.spot.first c.new-self.result.octets records m none (ap (λ q. q.spot.first) empty ∙ ap (λ p. p.first) c.spot.ensures) (rw c.in-Start.is at h))
    (records_pass n.context c.new-self.result.spot.first c.new-self.result.octets none n.suited (some_records n.context.records (rw c.in-Start.is at n.sound)))) x

pub returns-in-Head-clause-reached : goal.returns-in-Head-clause-reached
returns-in-Head-clause-reached c kind records profile s x =
    let n = c.args.self.now in
    let o = c.at_head-in-Head.new.self in
    let k = c.at_head-in-Head.ensures.kept in
    let not_version : n.phase ≢ phases.Version = λ e. (let i = c.in-Head.is in cc) in (
      k.0 ∙ x.0,
      k.1 ∙ x.1,
      reached_on n o.context o.reader.spot.first o.reader.octets o.phase records s (c.args.byte ∷ []) not_version k.0 (c.at_head-in-Head.ensures.come records) x.2,
    )

pub returns-in-Head-clause-reason : goal.returns-in-Head-clause-reason
returns-in-Head-clause-reason c kind records profile s x p =
    let n = c.args.self.now in
    let not_version : n.phase ≢ phases.Version = λ e. (let i = c.in-Head.is in cc) in
    reason_goes_on n kind records profile s c.args.byte c.at_head-in-Head.new.self.reason not_version
    (λ m h. c.at_head-in-Head.ensures.reason records m h p) x

pub returns-in-Name-clause-future : goal.returns-in-Name-clause-future
returns-in-Name-clause-future c r =
    let s = c.args.self.now in
    let f = fresh s.reader.octets s.reader.spot.first _ (rw c.in-Name.is at s.sound) in
    rw c.in-Name.is (fresh_completes _ s.reader.spot.first s.reader.octets c.step-demand.result.1 r f.0 f.1 (c.step-demand.ensures.future r))

pub returns-in-Name-clause-reached : goal.returns-in-Name-clause-reached
returns-in-Name-clause-reached c kind records profile s x =
    let n = c.args.self.now in
    let f = fresh n.reader.octets n.reader.spot.first _ (rw c.in-Name.is at n.sound) in
    let k = record n.context { demand = c.step-demand.result.0 } in
    let not_version : n.phase ≢ phases.Version = λ e. (let i = c.in-Name.is in cc) in (
      x.0,
      x.1,
      reached_on n k n.reader.spot.first n.reader.octets c.step-demand.result.1 records s (c.args.byte ∷ []) not_version refl
          (λ m h. fresh_come k n.reader.spot.first n.reader.octets c.step-demand.result.1 records (m ++ c.args.byte ∷ []) f.0 f.1 (c.step-demand.ensures.come records m (rw c.in-Name.is at h))) x.2,
    )

pub returns-in-Name-clause-reason : goal.returns-in-Name-clause-reason
returns-in-Name-clause-reason c kind records profile s x p =
    let n = c.args.self.now in
    let i = c.in-Name.name in
    let h = some_left _ _ (missing_of i.names) (rw c.in-Name.is at n.sound) in
    let not_version : n.phase ≢ phases.Version = λ e. (let j = c.in-Name.is in cc) in
    reason_goes_on n kind records profile s c.args.byte c.reason-self.result not_version
    (λ m come. rw c.reason-self.ensures
    (reason_in_name c.next_fields_are_exact.ensures.one n.context i records m c.args.byte h (rw c.in-Name.is at p) (rw c.in-Name.is at come))) x

pub returns-in-Body-clause-reached : goal.returns-in-Body-clause-reached
returns-in-Body-clause-reached c kind records profile s x =
    let n = c.args.self.now in
    let f = fresh n.reader.octets n.reader.spot.first _ (rw c.in-Body.is at n.sound) in
    let not_version : n.phase ≢ phases.Version = λ e. (let i = c.in-Body.is in cc) in (
      x.0,
      x.1,
      reached_on n n.context n.reader.spot.first n.reader.octets c.step-phase.result.0 records s (c.args.byte ∷ []) not_version refl
          (λ m h. fresh_come n.context n.reader.spot.first n.reader.octets c.step-phase.result.0 records (m ++ c.args.byte ∷ []) f.0 f.1 (c.step-phase.ensures.come records m (rw c.in-Body.is at h))) x.2,
    )

pub returns-in-Body-clause-reason : goal.returns-in-Body-clause-reason
returns-in-Body-clause-reason c kind records profile s x p =
    let n = c.args.self.now in
    let k = n.context in
    let i = c.in-Body.body in
    let h = some_left _ _ (i.id + i.payload) (rw c.in-Body.is at n.sound) in
    let not_version : n.phase ≢ phases.Version = λ e. (let j = c.in-Body.is in cc) in
    reason_goes_on n kind records profile s c.args.byte c.step-phase.result.1 not_version
    (λ m come. reason_in_body c.next_fields_are_exact.ensures.one k i records m c.args.byte c.step-phase.result.1 h
    c.step-phase.ensures.in_id c.step-phase.ensures.in_payload (rw c.in-Body.is at p) (rw c.in-Body.is at come)) x

pub returns-in-Ended-clause-reached : goal.returns-in-Ended-clause-reached
returns-in-Ended-clause-reached c kind records profile s x =
    let n = c.args.self.now in (
      x.0,
      x.1,
      reached_on n n.context n.reader.spot.first n.reader.octets phases.Refused records s (c.args.byte ∷ []) (ended n.phase c.in-Ended.is) refl (λ m h. tt) x.2,
    )

pub returns-in-Ended-clause-reason : goal.returns-in-Ended-clause-reason
returns-in-Ended-clause-reason c kind records profile s x p =
    let n = c.args.self.now in
    reason_at_last c.next_fields_are_exact.ensures.one n kind records profile s c.args.byte c.in-Ended.is p x
