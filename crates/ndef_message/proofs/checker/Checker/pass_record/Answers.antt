use Rattle.std.proofs.Common.{◌≡◌, ◌+◌, ◌-◌, ◌≤◌, ◌^◌, ◌++◌, suc, ap, length, take, None, refl, sym, arith}
use Rattle.std.proofs.Math.Logic.{∥∥₁_map}
use Rattle.ndef_format.specs.HeadReasons.{is_set}
use Rattle.ndef_piece.specs.Whole.{shown}
use Rattle.ndef_message.specs.Machine.Accepted.{IsAfter}
use Rattle.ndef_message.specs.Machine.State.{answer_of, after_record}
use Rattle.ndef_message.proofs.Accepting.{record_passed, split_shorter, taken_bounded, taken_matches_input}
use Rattle.ndef_message.proofs.Feeding.{going}
use Rattle.ndef_message.proofs.Somewhere.{number_of_some}
use Rattle.ndef_message.proofs.checker.Checker.pass_record.Goals as goal

pub overflow_sub-taken : goal.overflow_sub-taken
overflow_sub-taken g c =
    let w = c.args.piece.now in
    let n = split_shorter (shown w) (is_set 4 w.header) w.rest.now c.args.bytes.now c.requires.begins.split in
    omega arith

pub overflow_add-self : goal.overflow_add-self
overflow_add-self g c =
    let s = c.args.self.now in
    let p = c.args.piece.now in
    let count = length c.args.bytes.now - length p.rest.now in
    let new = c.advance_past.new.self in
    let laws = c.format_laws.ensures in
    let following : IsAfter s.limits new (after_record s.limits s.state.place) (is_set 6 p.header) = rw (sym c.after_record-place.ensures, sym c.is_last.ensures) c.advance_past.ensures in
    let due : answer_of s.state.phase 0 ≡ None = ap (λ p. answer_of p 0) c.requires.fresh.phase_is in
    let n : suc (s.taken + count) ≤ 2 ^ 60 = number_of_some _ _ _ s.led (λ w.
    let x = record_passed laws.laws s.limits laws.range g.met.L.RecordLanguage.others s.state new c.args.bytes.now p count c.requires.fresh c.requires.begins refl following
    w.0 w.1 w.2 (going g.L.RecordLanguage s.limits s.state 0 w.0 w.1 w.2 due w.3.1) in
    taken_bounded g.L.RecordLanguage s.limits new w.0 c.args.bytes.now count s.taken (omega arith) w.3.0 _ x.0 x.2 laws.laws laws.range) in
    omega arith

pub invariant_of-self : goal.invariant_of-self
invariant_of-self g c =
    let s = c.args.self.now in
    let p = c.args.piece.now in
    let count = length c.args.bytes.now - length p.rest.now in
    let new = c.advance_past.new.self in
    let laws = c.format_laws.ensures in
    let following : IsAfter s.limits new (after_record s.limits s.state.place) (is_set 6 p.header) = rw (sym c.after_record-place.ensures, sym c.is_last.ensures) c.advance_past.ensures in
    let due : answer_of s.state.phase 0 ≡ None = ap (λ p. answer_of p 0) c.requires.fresh.phase_is in
    record {
      led = ∥∥₁_map s.led (λ w.
          let x = record_passed laws.laws s.limits laws.range g.met.L.RecordLanguage.others s.state new c.args.bytes.now p count c.requires.fresh c.requires.begins refl following
          w.0 w.1 w.2 (going g.L.RecordLanguage s.limits s.state 0 w.0 w.1 w.2 due w.3.1) in
          (w.0 ++ take count c.args.bytes.now, _, x.0, taken_matches_input g.L.RecordLanguage s.limits new w.0 c.args.bytes.now count s.taken (omega arith) w.3.0 _ x.0 x.2));
    }

pub returns-clause-onward : goal.returns-clause-onward
returns-clause-onward g c front given point k =
    let s = c.args.self.now in
    let p = c.args.piece.now in
    let count = length c.args.bytes.now - length p.rest.now in
    let new = c.advance_past.new.self in
    let laws = c.format_laws.ensures in
    let following : IsAfter s.limits new (after_record s.limits s.state.place) (is_set 6 p.header) = rw (sym c.after_record-place.ensures, sym c.is_last.ensures) c.advance_past.ensures in
    let due : answer_of s.state.phase 0 ≡ None = ap (λ p. answer_of p 0) c.requires.fresh.phase_is in
    let x = record_passed laws.laws s.limits laws.range g.met.L.RecordLanguage.others s.state new c.args.bytes.now p count c.requires.fresh c.requires.begins refl following
    front given point (going g.L.RecordLanguage s.limits s.state 0 front given point due k.1) in
    (x.0, x.1, taken_matches_input g.L.RecordLanguage s.limits new front c.args.bytes.now count s.taken (omega arith) k.0 _ x.0 x.2)
