use Rattle.std.proofs.Common.{rules, ◌++◌, ◌∷◌, [], arith, ◌∙◌, ap, subst, take, length, ◌<◌, ◌+◌}
use Rattle.std.proofs.lemmas.List.{length-take, take_more_set}
use Rattle.ndef_format.specs.Positions.{IsOpen}
use Rattle.ndef_piece.specs.Machine.Inside.{reading}
use Rattle.ndef_piece.specs.Machine.Reading.{IsSound}
use Rattle.ndef_piece.proofs.Padding.{zeros_kept}
use Rattle.ndef_piece.proofs.Steps.{open_short, sound_answer, same_reading}
use Rattle.ndef_piece.proofs.head_reader.HeadReader.step.Goals as goal

pub invariant_of-self : goal.invariant_of-self
invariant_of-self c =
    let r = c.self.inside in
    let o : IsOpen r.spot (take r.count r.octets) = subst (IsSound (reading r)) c.in-More.is c.self.invariant.sound in
    let n = open_short r.spot (take r.count r.octets) o in
    let m = length-take r.count r.octets in
    let below : r.count < length r.octets = omega arith in
    record {
      few = omega arith;
      zeros = rw c.answer-self-inside.ensures.put (zeros_kept r.octets r.count c.args.octet (omega arith) c.self.invariant.zeros);
      sound =
          sound_answer r.spot (take r.count r.octets) _ c.args.octet c.answer-self-inside.result c.answer-self-inside.result
          (ap (take (r.count + 1)) c.answer-self-inside.ensures.put ∙ take_more_set r.octets r.count c.args.octet below)
          c.answer-self-inside.ensures.answer;
    }

pub returns-in-More-clause-taken : goal.returns-in-More-clause-taken
returns-in-More-clause-taken c = λ e.
    let r = c.self.inside in
    let o : IsOpen r.spot (take r.count r.octets) = subst (IsSound (reading r)) c.in-More.is c.self.invariant.sound in
    let n = open_short r.spot (take r.count r.octets) o in
    let m = length-take r.count r.octets in
    let below : r.count < length r.octets = omega arith in
    same_reading _ _ _ _ _ (ap (λ v. v.spot) c.self.view_is)
    (ap (take (r.count + 1)) c.answer-self-inside.ensures.put ∙ take_more_set r.octets r.count c.args.octet below
    ∙ ap (λ v. v.octets ++ c.args.octet ∷ []) c.self.view_is)

pub returns-in_default : goal.returns-in_default
returns-in_default c = search rules
