use Rattle.std.proofs.Common.{inl, inr, map, string_bytes}
use Rattle.clap.specs.Words.{app_of}
use Rattle.ndef_cli_make.proofs.Parsed.{faulty_by, maker, maker_after}
use Rattle.ndef_cli_make.proofs.parts.part_fault.Goals as goal

pub returns-in-Ok-clause-maker : goal.returns-in-Ok-clause-maker
returns-in-Ok-clause-maker c =
    let kept = c.try_get_matches_from_mut.ensures in maker_after c.args.command.now c.try_get_matches_from_mut.new.self c.requires kept.after kept.stays

pub returns-clause-error : goal.returns-clause-error
returns-clause-error c =
    let words = map string_bytes c.args.part.now in
    let app = app_of c.args.command.now in
    let kept = c.in-Err.ensures in
    elim c.requires [
      | inl broken ↦ inl (kept.fails (kept.stays broken))
      | inr is ↦ faulty_by app words c.in-Err.error (maker app words is) kept.kinds
    ]

pub returns-clause-maker : goal.returns-clause-maker
returns-clause-maker c =
    let kept = c.try_get_matches_from_mut.ensures in maker_after c.args.command.now c.try_get_matches_from_mut.new.self c.requires kept.after kept.stays
