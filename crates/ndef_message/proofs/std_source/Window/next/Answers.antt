use Rattle.std.proofs.Common.{◌<◌, ◌≤◌, length, slice_range, arith}
use Rattle.std.proofs.KnownBytes.{Keeps-trans}
use Rattle.ndef_message.proofs.Readers.{known_shows, left_shown_again, left_shown_anew, length-slice_range, shows_anew, slice_range_fits}
use Rattle.ndef_message.proofs.std_source.Window.next.Goals as goal

pub returns-then-branch-clause-shows : goal.returns-then-branch-clause-shows
returns-then-branch-clause-shows g c =
    let some = c.in_ok-is_shown_by.ensures.some c.if-branch.true in
    known_shows _ _ (omega (arith, length-slice_range c.args.copy.now c.args.self.start c.args.self.end (omega arith)))

pub returns-then-branch-clause-keeps : goal.returns-then-branch-clause-keeps
returns-then-branch-clause-keeps g c =
    let left = c.args.self in
    let apart = c.in_ok-is_shown_by.ensures.some c.if-branch.true in
    let some : 0 < length (slice_range c.args.copy.now left.start left.end) = omega (arith, length-slice_range c.args.copy.now left.start left.end (omega arith)) in
    let within = c.in_ok-is_shown_by.ensures.within c.if-branch.true in
    left_shown_again _ _ _ _ _ _ c.in_ok-consume_pending.ensures.keeps c.is_shown_by.ensures.keeps some (slice_range_fits _ _ _) within

pub returns-clause-shows : goal.returns-clause-shows
returns-clause-shows g c =
    let kept = Keeps-trans _ _ _ c.in_ok-consume_pending.ensures.keeps c.in_ok-is_shown_by.ensures.keeps in
    shows_anew _ _ _ _ kept c.in_ok-end.ensures.shows

pub returns-clause-keeps : goal.returns-clause-keeps
returns-clause-keeps g c =
    let kept = Keeps-trans _ _ _ c.in_ok-consume_pending.ensures.keeps c.in_ok-is_shown_by.ensures.keeps in
    let fits : length (slice_range c.copy_front.new.copy 0 c.in_ok-end.end) ≤ c.in_ok-end.end = omega (arith, slice_range_fits c.copy_front.new.copy 0 c.in_ok-end.end) in
    left_shown_anew _ _ _ _ _ _ _ kept c.in_ok-end.ensures.keeps c.in_ok-end.ensures.shows fits c.in_ok-end.ensures.within
