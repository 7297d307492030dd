use Rattle.std.proofs.Common.{subst, ◌∙◌}
use Rattle.ndef_piece.specs.Bounds.{AreBounds}
use Rattle.ndef_nest.specs.Machine.Demands.{nested_spot}
use Rattle.ndef_nest.specs.Machine.Fronts.{FrontAt}
use Rattle.ndef_nest.specs.Machine.SpanLaws.{some_records}
use Rattle.ndef_nest.proofs.HeadBounds.{reason_viable, reason_span, small_bounds}
use Rattle.ndef_nest.proofs.nest.Nest.bounded_span.Goals as goal

pub span-requires : goal.span-requires
span-requires c =
    let s = c.args.self.now in
    let x = s.context in
    let b = c.args.bounds.now in
    let at = subst (λ p. FrontAt p s.reader.octets) s.spot s.front in
    let bounds = subst (λ p. AreBounds p s.reader.octets b) s.spot c.requires.bounds in
    let v = reason_viable x.profile s.reader.spot.first x.records s.reader.octets b (some_records x.records (rw c.requires.head at s.sound)) at bounds in
    let w = small_bounds (nested_spot x.profile s.reader.spot.first x.records) s.reader.octets v b bounds in
    record { head = rw c.of_head.ensures w.0; least = rw c.of_head.ensures w.1; most = rw c.of_head.ensures w.2 }

pub returns : goal.returns
returns c =
    let s = c.args.self.now in
    let x = s.context in
    let b = c.args.bounds.now in
    let at = subst (λ p. FrontAt p s.reader.octets) s.spot s.front in
    let bounds = subst (λ p. AreBounds p s.reader.octets b) s.spot c.requires.bounds in
    c.span.ensures ∙ rw c.of_head.ensures (reason_span x s.reader.spot.first s.reader.octets b (some_records x.records (rw c.requires.head at s.sound)) at bounds)
