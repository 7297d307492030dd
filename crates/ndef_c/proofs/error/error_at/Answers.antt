use Rattle.std.proofs.Common.{refl, sym, subst, ◌∙◌}
use Rattle.ndef_types.specs.Values.{StandsForError}
use Rattle.ndef_c.proofs.Errors.{lies_after}
use Rattle.ndef_c.proofs.error.error_at.Goals as goal

pub number_of-requires : goal.number_of-requires
number_of-requires c =
    let v = c.errors_are_exact.ensures.exact.each c.args.payload.now c.requires.error in
    let stands : StandsForError c.new-parts.result v.0 = subst (λ s. StandsForError s v.0) (sym c.new-parts.ensures) v.1.1 in
    rw (c.reason-reason.ensures v.0 stands, c.detail-detail.ensures.value v.0 stands) v.1.0.1

pub returns : goal.returns
returns c =
    let v = c.errors_are_exact.ensures.exact.each c.args.payload.now c.requires.error in
    let stands : StandsForError c.new-parts.result v.0 = subst (λ s. StandsForError s v.0) (sym c.new-parts.ensures) v.1.1 in
    record {
      in_set = c.requires.error;
      short = c.requires.short;
      error = v.0;
      stands = v.1.1;
      reason = c.from.ensures ∙ c.reason-reason.ensures v.0 stands;
      detail = rw (c.detail-detail.ensures.value v.0 stands) (lies_after v.0.reason v.0.detail c.args.payload.now v.1.1);
      place = refl;
      number = rw (← c.reason-reason.ensures v.0 stands, ← c.detail-detail.ensures.value v.0 stands, ← c.number_of.ensures) c.reported-has_number.ensures;
    }
