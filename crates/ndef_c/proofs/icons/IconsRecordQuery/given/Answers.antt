use Rattle.std.proofs.Common.{subst, arith}
use Rattle.ndef_format.specs.Messages.{run_record}
use Rattle.ndef_c.specs.Icons.{is_icon}
use Rattle.ndef_c.specs.Walks.{Lies}
use Rattle.ndef_c.proofs.Filtered.{index_of_expected}
use Rattle.ndef_c.proofs.icons.IconsRecordQuery.given.Goals as goal

pub returns : goal.returns
returns c = λ items index h w.
    let payload = c.args.self.now.payload.now in
    let found = c.args.found.now in
    let x = w.there in
    let id = x.id.count_is in
    let following = x.id_after in
    let after = x.part_after in
    record {
      icon = run_record x.run;
      is = index_of_expected is_icon payload items index found w;
      media_type = x.kind;
      image = subst (Lies payload found.payload_at found.part_length) w.one x.part;
      place = (w.before, w.index_is, w.stands);
      type_place = omega (arith, id, following, after);
    }
