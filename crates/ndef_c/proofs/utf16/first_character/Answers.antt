use Rattle.std.proofs.Common.{sym, ◌∙◌, subst, arith, true≢false}
use Rattle.std.specs.Char.{InScalarRange}
use Rattle.ndef_c.proofs.Characters.{alone, first_of_two, in_range, some_unit}
use Rattle.ndef_c.proofs.utf16.first_character.Goals as goal

pub first_unit-unit-requires : goal.first_unit-unit-requires
first_unit-unit-requires c = let n = some_unit _ c.requires.0 c.requires.1 _ c.requires.2 in omega (arith, n)

pub character-requires : goal.character-requires
character-requires c =
    let r = c.requires in
    let a = alone c.args.little r.0 r.1 _ _ _ r.2 c.first_unit-unit.ensures (λ h. true≢false (sym (c.is_surrogate.ensures.1 h) ∙ c.if-not-is_surrogate.true)) in
    subst InScalarRange (sym a.same) (in_range _ r.0 r.1 _ r.2)

pub returns-then-not-is_surrogate : goal.returns-then-not-is_surrogate
returns-then-not-is_surrogate c = λ d ds h.
    let a = alone c.args.little d ds _ _ _ h c.first_unit-unit.ensures (λ k. true≢false (sym (c.is_surrogate.ensures.1 k) ∙ c.if-not-is_surrogate.true)) in
    (c.character.ensures ∙ a.same, a.following)

pub first_unit-low-requires : goal.first_unit-low-requires
first_unit-low-requires c =
    let r = c.requires in
    let s = c.is_surrogate.ensures.0 c.if-not-is_surrogate.false in
    (first_of_two c.args.little r.0 r.1 _ _ _ r.2 c.first_unit-unit.ensures s.0 s.1).enough

pub character-requires-2 : goal.character-requires-2
character-requires-2 c =
    let r = c.requires in
    let s = c.is_surrogate.ensures.0 c.if-not-is_surrogate.false in
    let f = first_of_two c.args.little r.0 r.1 _ _ _ r.2 c.first_unit-unit.ensures s.0 s.1 in
    let two = f.second _ _ c.first_unit-low.ensures in
    subst InScalarRange (sym two.2) (in_range _ r.0 r.1 _ r.2)

pub returns : goal.returns
returns c = λ d ds h.
    let s = c.is_surrogate.ensures.0 c.if-not-is_surrogate.false in
    let f = first_of_two c.args.little d ds _ _ _ h c.first_unit-unit.ensures s.0 s.1 in
    let two = f.second _ _ c.first_unit-low.ensures in
    (c.character-2.ensures ∙ two.2, two.3)
