use Rattle.std.proofs.Common.{[], ◌∷◌, subst, sym, arith, ◌<◌}
use Rattle.ndef_format.specs.Canonical.{canonical}
use Rattle.ndef_c.specs.HandoverMaking.{carriers_asked, select_asked}
use Rattle.ndef_c.specs.Buffers.{Gives}
use Rattle.ndef_c.specs.RecordList.{MayBeMessage, all_items}
use Rattle.ndef_c.specs.declared.record_list.RecordList.TheVariants as several
use Rattle.ndef_c.proofs.HandoverSaid.{are_carriers, from_select, gives_select, select_series, to_select}
use Rattle.ndef_c.proofs.handover_making.ndef_write_select.Goals as goal

pub returns : goal.returns
returns c =
    let a = c.args in
    let s = select_asked a.how.now (carriers_asked a.bytes.now a.references.now a.alternatives.now) in
    let p = are_carriers a.bytes a.references a.alternatives in
    let x = c.in-Some.ensures in
    let list = select_series (several.Alternatives a.bytes a.references a.alternatives) c.in-Some.error in
    let small = c.if-how-gt15.false in
    let four : a.how.now.minor < 16 = omega (arith, small) in
    let g = c.give_message.ensures in
    let octet = c.version_octet.ensures in
    record {
      bad = (
        λ e m. g.bad.0 e (subst (λ v. MayBeMessage (v ∷ []) list) (sym octet) (from_select s p x.some m)),
        λ f. g.bad.1 (λ m. f (to_select s four x.may p x.some (subst (λ v. MayBeMessage (v ∷ []) list) octet m))),
      );
      kept = g.kept;
      select = λ n.
          let may = to_select s four x.may p x.some (subst (λ v. MayBeMessage (v ∷ []) list) octet (g.may n)) in
          gives_select s p x.some may _ _ _ _ (subst (λ v. Gives (v ∷ canonical (all_items list)) a.buffer.now c.give_message.new.buffer c.give_message.new.count c.give_message.result) octet (g.message n));
    }
