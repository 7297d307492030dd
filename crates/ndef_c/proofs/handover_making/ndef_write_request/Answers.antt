use Rattle.std.proofs.Common.{[], ◌∷◌, subst, sym, arith, ◌<◌, ap, ◌∙◌}
use Rattle.ndef_format.specs.Canonical.{canonical}
use Rattle.ndef_format.specs.declared.kind.Kind.TheVariants as kinds
use Rattle.ndef_c.specs.Appending.{well_known}
use Rattle.ndef_c.specs.Buffers.{Gives}
use Rattle.ndef_c.specs.RecordList.{MayBeMessage, all_items}
use Rattle.ndef_c.specs.declared.record_list.RecordList.TheVariants as several
use Rattle.ndef_c.proofs.HandoverSaid.{IsCollisionMade, are_carriers, from_request, gives_request, request_series, to_request}
use Rattle.ndef_c.proofs.handover_making.ndef_write_request.Goals as goal

pub returns : goal.returns
returns c =
    let a = c.args in
    let p = are_carriers a.bytes a.references a.alternatives in
    let x = c.in-Some.ensures in
    let e : IsCollisionMade a.collision c.in-Some.made = x.item ∙ ap (λ o. well_known kinds.Collision [] o) c.to_be_bytes-number.ensures in
    let list = request_series c.in-Some.made (several.Alternatives a.bytes a.references a.alternatives) in
    let small = c.if-minor-gt15.false in
    let few = c.if-collision-gt65535.false in
    let four : a.minor < 16 = omega (arith, small) in
    let two : a.collision < 65536 = omega (arith, few) in
    let g = c.give_message.ensures in
    let octet = c.version_octet.ensures in
    record {
      bad = (
        λ s m. g.bad.0 s (subst (λ v. MayBeMessage (v ∷ []) list) (sym octet) (from_request a.collision c.in-Some.made x.made e p m)),
        λ f. g.bad.1 (λ m. f (to_request a.collision c.in-Some.made four two e p (subst (λ v. MayBeMessage (v ∷ []) list) octet m))),
      );
      kept = g.kept;
      request = λ n.
          let may = to_request a.collision c.in-Some.made four two e p (subst (λ v. MayBeMessage (v ∷ []) list) octet (g.may n)) in
          gives_request a.collision c.in-Some.made e p may _ _ _ _ (subst (λ v. Gives (v ∷ canonical (all_items list)) a.buffer.now c.give_message.new.buffer c.give_message.new.count c.give_message.result) octet (g.message n));
    }
