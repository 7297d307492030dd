use Rattle.std.proofs.Common.{sym, subst}
use Rattle.ndef_c.specs.Nested.{MayBeInPieces}
use Rattle.ndef_c.proofs.Handovers.{select_nest}
use Rattle.ndef_c.proofs.select.select_at.Goals as goal

pub returns : goal.returns
returns c = λ profile h.
    let n = select_nest profile c.args.payload.now h in
    let e = c.error_in-error.ensures profile n.items n.are in
    record {
      in_set = h;
      short = c.requires.short;
      version = c.version_of-major.ensures;
      items = n.items;
      records = n.are.pieces;
      error = e.0;
      is_error = e.1;
      tells = e.2;
      carriers = c.alternatives_in.ensures profile n.items (subst (MayBeInPieces profile n.items) (sym c.after_version.ensures) n.are.pieces);
    }
