use Rattle.std.specs.Prelude.{◌||◌, nat_lt}
use Rattle.std.proofs.Common.{◌+◌, ◌-◌, ◌≡◌, ◌≤◌, ◌∙◌, true, false, [], length, take, ap, sym, subst, arith}
use Rattle.ndef_lang.specs.Language.{Continues, PassesBetween, Reaches}
use Rattle.ndef_lang.specs.StepLaws.{follows_rest, reaches_rest, rest, rest_length}
use Rattle.ndef_nest.specs.Machine.Nests.{come, future}
use Rattle.ndef_nest.specs.Machine.Phases.{CompletesAfter, CompletesHeaded, asking, fewer, is_first_octet}
use Rattle.ndef_nest.specs.Machine.Reached.{HasComeAfter, IsHeaded}
use Rattle.ndef_nest.proofs.Reaching.{reached_on}
use Rattle.ndef_nest.proofs.WholeHeads.{between_some, not_version, head_followed, head_completes, head_comes, front_taken}
use Rattle.ndef_nest.proofs.nest.Nest.after_whole.Goals as goal

pub after_head-requires-clause-followed : goal.after_head-requires-clause-followed
after_head-requires-clause-followed c =
    let n = c.args.self.now in
    let x = n.context in
    let head = c.in_ok-head.head in
    let some = between_some x n.reader.spot.first n.reader.octets n.phase c.in_ok-head.ensures.between n.sound in
    let at = c.in_ok-head.ensures.begins in
    subst (λ k. head.last || nat_lt 0 k.records ≡ true) (sym c.fewer-context.ensures)
    (head_followed x.profile (is_first_octet n.phase n.reader.spot.first) x.records (take c.in_ok-head.count c.args.bytes.now) head some at.whole)

pub returns-clause-steps : goal.returns-clause-steps
returns-clause-steps c =
    let n = c.args.self.now in
    let x = n.context in
    let bytes = c.args.bytes.now in
    let head = c.in_ok-head.head in
    let count = c.in_ok-head.count in
    let more = c.in_ok-demand.more in
    let between = c.in_ok-head.ensures.between in
    let at = c.in_ok-head.ensures.begins in
    let some = between_some x n.reader.spot.first n.reader.octets n.phase between n.sound in
    let new = CompletesAfter (asking c.fewer-context.result c.in_ok-demand.demand) c.in_ok-demand.phase in
    let least : c.args.lo - count - more ≡ c.args.lo - (count + more) = omega arith in
    let most : c.args.hi - count - more ≡ c.args.hi - (count + more) = omega arith in
    let within : count + more ≤ length bytes = omega (arith, at.within, c.in_ok-demand.ensures.most, rest_length bytes count) in
    front_taken (future n) new bytes c.args.lo c.args.hi (count + more) within
    (follows_rest (future n) (CompletesHeaded (fewer x) head) new bytes count more
    (head_completes c.heads_are_unambiguous.ensures.apart x n.reader.spot.first n.reader.octets n.phase bytes head count between some at)
    (subst (λ k. Continues (CompletesHeaded k head) new (take more (rest bytes count))) c.fewer-context.ensures c.in_ok-demand.ensures.future))
    (subst (λ k. PassesBetween new k (c.args.hi - (count + more))) least (subst (λ k. PassesBetween new (c.args.lo - count - more) k) most c.in_ok-demand.ensures.fits))

pub returns-clause-reached : goal.returns-clause-reached
returns-clause-reached c kind records profile s h =
    let n = c.args.self.now in
    let x = n.context in
    let bytes = c.args.bytes.now in
    let head = c.in_ok-head.head in
    let count = c.in_ok-head.count in
    let more = c.in_ok-demand.more in
    let between = c.in_ok-head.ensures.between in
    let some = between_some x n.reader.spot.first n.reader.octets n.phase between n.sound in
    let fewer_is = c.fewer-context.ensures in
    let next = asking c.fewer-context.result c.in_ok-demand.demand in
    let table_is = ap (λ k. k.table) fewer_is in (
      table_is ∙ h.0,
      ap (λ k. k.profile) fewer_is ∙ h.1,
      reached_on n next false [] c.in_ok-demand.phase records s (take (count + more) bytes) (not_version n.phase n.reader.octets between) table_is
          (reaches_rest (come n records) (IsHeaded (fewer x) head records) (HasComeAfter next c.in_ok-demand.phase records) bytes count more
          (head_comes x n.reader.spot.first n.reader.octets n.phase bytes head count records between some c.in_ok-head.ensures.begins)
          (subst (λ k. Reaches (IsHeaded k head records) (HasComeAfter next c.in_ok-demand.phase records) (take more (rest bytes count))) fewer_is (c.in_ok-demand.ensures.come records))) h.2,
    )
