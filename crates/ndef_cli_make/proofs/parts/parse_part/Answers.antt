use Rattle.std.proofs.Common.{◌≡◌, inl, inr, rules, map, string_bytes, Some}
use Rattle.clap.specs.Words.{app_of, kind_of}
use Rattle.clap.specs.declared.error.kind.ErrorKind.TheVariants.{OutOfMemory}
use Rattle.ndef_cli_make.specs.Asked.{asked_part}
use Rattle.ndef_cli_make.proofs.Parsed.{maker, maker_after, parsed, unparsed}
use Rattle.ndef_cli_make.proofs.parts.parse_part.Goals as goal

pub returns-in-Some-clause-said : goal.returns-in-Some-clause-said
returns-in-Some-clause-said c =
    let words = map string_bytes c.args.part.now in
    let app = app_of c.args.command.now in
    let kept = c.in-Ok.ensures in
    elim c.requires [
      | inl broken ↦ absurd (kept.fails (kept.stays broken))
      | inr is ↦ parsed app words c.in-Ok.matches (Some (asked_part (record { name = c.in-Some.name; matches = c.in-Some.matches }))) (maker app words is) kept.ok.2 kept.kinds (search rules)
    ]

pub returns-in-Some-clause-maker : goal.returns-in-Some-clause-maker
returns-in-Some-clause-maker c =
    let kept = c.try_get_matches_from_mut.ensures in maker_after c.args.command.now c.try_get_matches_from_mut.new.self c.requires kept.after kept.stays

pub returns-in-OutOfMemory-clause-maker : goal.returns-in-OutOfMemory-clause-maker
returns-in-OutOfMemory-clause-maker c =
    let kept = c.try_get_matches_from_mut.ensures in maker_after c.args.command.now c.try_get_matches_from_mut.new.self c.requires kept.after kept.stays

pub returns : goal.returns
returns c =
    let words = map string_bytes c.args.part.now in
    let app = app_of c.args.command.now in
    let kept = c.in-Err.ensures in
    let other : kind_of c.in-Err.error ≡ OutOfMemory → ⊥ = search rules in
    record {
      said = elim c.requires [
        | inl broken ↦ absurd (other (kept.fails (kept.stays broken)))
        | inr is ↦ unparsed app words (kind_of c.in-Err.error) OutOfMemory (maker app words is) other kept.kinds
      ];
      maker = maker_after c.args.command.now c.try_get_matches_from_mut.new.self c.requires kept.after kept.stays;
    }
