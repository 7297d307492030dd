-- The messages that a strict reader takes, as other readers take them.
use Rattle.std.proofs.Common.{ℕ, sym, subst, List, [], ◌∷◌}
use Rattle.std.specs.List.{AllByRecursion}
use Rattle.ndef_format.specs.Laws.{IsNoStricter}
use Rattle.ndef_format.specs.Messages.{Item, SpellsBy}
use Rattle.ndef_format.specs.Records.{Run, IsRun}
use Rattle.ndef_format.specs.declared.profile.Profile.{Profile}
use Rattle.ndef_format.specs.declared.profile.Profile.TheVariants.{Strict, Standard}
use Rattle.ndef_value.specs.TnfLaws.{read_by_all}

strict_runs : (profile : Profile) (rs : List Run) → AllByRecursion (IsRun Strict) rs → AllByRecursion (IsRun profile) rs
strict_runs profile [] a = tt
strict_runs profile (r ∷ rs) a =
    let i = a.0.initial in (
      record {
        initial = record { read = read_by_all profile _ i.read; changed = i.changed; not_empty = i.not_empty };
        follow = a.0.follow;
      },
      strict_runs profile rs a.1,
    )

-- the runs that spell a message for a strict reader do so for each reader
pub strict_spelling : (profile : Profile) (runs : List Run) (m : List Item) (bytes : List ℕ)
    → SpellsBy Strict runs m bytes → SpellsBy profile runs m bytes
strict_spelling profile runs m bytes s =
    let x = s.message in
    record {
      message = record {
        each_run = strict_runs profile runs x.each_run;
        items = x.items;
        shaped = x.shaped;
        begins = x.begins;
        ends = x.ends;
      };
      spelled = s.spelled;
    }

-- what holds for each reader if for a strict one holds for one that is no stricter
pub no_stricter : (P : Profile → Type 0) (profile other : Profile) → IsNoStricter profile other
    → (P Strict → (p : Profile) → P p) → P profile → P other
no_stricter P Strict other a up h = up h other
no_stricter P Standard other a up h = subst P (sym a) h

-- and so do those that spell it for one that is stricter
pub spelling_for_more : (profile other : Profile) (runs : List Run) (m : List Item) (bytes : List ℕ)
    → IsNoStricter profile other → SpellsBy profile runs m bytes → SpellsBy other runs m bytes
spelling_for_more profile other runs m bytes a s =
    no_stricter (λ p. SpellsBy p runs m bytes) profile other a (λ h p. strict_spelling p runs m bytes h) s
