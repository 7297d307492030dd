use Rattle.std.proofs.Common.{sym, subst}
use Rattle.ndef_format.specs.declared.table.Table.TheVariants as tables
use Rattle.ndef_c.specs.Handovers.{AreHandoverContents}
use Rattle.ndef_c.proofs.Handovers.{request_nest}
use Rattle.ndef_c.proofs.request.request_at.Goals as goal

pub returns : goal.returns
returns c = λ profile h.
    let n = request_nest profile c.args.payload.now h in
    let m = subst (AreHandoverContents tables.Request profile n.items) (sym c.after_version-message.ensures) n.are in
    record {
      in_set = h;
      short = c.requires.short;
      version = c.version_of-major.ensures;
      items = n.items;
      records = n.are.pieces;
      collision = c.collision_of.ensures profile n.items m;
      carriers = c.alternatives_in.ensures profile n.items m.pieces;
    }
