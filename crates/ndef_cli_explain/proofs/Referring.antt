-- The records to which references lead.
use Rattle.std.proofs.Common.{◌≡◌, ℕ, ◌<◌, ◌≤◌, ◌^◌, sym, ap, subst, arith, List, [], ◌∷◌, length, map, Option, Some, None, Result}
use Rattle.std.specs.Prelude.{Ok, Err, IfSome}
use Rattle.std.specs.List.{AllByRecursion}
use Rattle.std.proofs.lemmas.Option.{slice_get_within}
use Rattle.std.proofs.lemmas.List.{length-map}
use Rattle.ndef_format.specs.Messages.{Item, run_record}
use Rattle.ndef_format.specs.Records.{Run}
use Rattle.ndef_format.specs.declared.profile.Profile.{Profile}
use Rattle.ndef_types.specs.Links.{AreLinks, FindsLinks, IsIndexOf, StandsForLinks, alternatives, records_of}
use Rattle.ndef_types.specs.declared.link.Link.{Link}
use Rattle.ndef_types.specs.declared.link.LinkError.{LinkError}
use Rattle.ndef_cli_explain.specs.References.{IsAmong}

among : (outer : List Item) (id : List ℕ) (index : Option ℕ) (count : ℕ) → IsIndexOf outer id index → length outer < count → IfSome index (λ k. k < count)
among outer id None count is few = tt
among outer id (Some k) count (some, i, first) few = let within = slice_get_within outer k i first.at in omega (arith, within, few)

near : (outer carriers : List Item) (links : List Link) (count : ℕ) → AreLinks outer carriers links → length outer < count → AllByRecursion (IsAmong count) links
near outer [] [] count are few = tt
near outer [] (l ∷ links) count are few = absurd are
near outer (i ∷ carriers) [] count are few = absurd are
near outer (i ∷ carriers) (l ∷ links) count (stands, is, more) few = (among outer l.ac.reference l.index count is few, near outer carriers links count more few)

near_of : (profile : Profile) (outer : List Item) (payload : List ℕ) (links : List Link) (count : ℕ) → StandsForLinks profile outer payload links → length outer < count → AllByRecursion (IsAmong count) links
near_of profile outer [] links count stands few = absurd stands
near_of profile outer (version ∷ bytes) links count (message, stands, are) few = near outer (alternatives (records_of message)) links count are few

abbrev the_links : Result (List Link) LinkError → List Link
the_links (Ok links) = links
the_links (Err error) = []

none_near : (links : List Link) (count : ℕ) → ◌≡◌ {A = Result (List Link) LinkError} (Ok links) (Ok []) → AllByRecursion (IsAmong count) links
none_near links count e = subst (AllByRecursion (IsAmong count)) (sym (ap the_links e)) tt

-- each reference of a message leads to one of its records, or to none
pub near_links : (profile : Profile) (runs : List Run) (links : List Link) → FindsLinks profile (map run_record runs) (Ok links) → length runs ≤ 65535 → AllByRecursion (IsAmong (2 ^ 32)) links
near_links profile runs links (None, first, e) few = none_near links (2 ^ 32) e
near_links profile runs links (Some i, first, both) few =
    let n = length-map runs run_record in
    near_of profile (map run_record runs) i.payload links (2 ^ 32) both.1 (omega (arith, n, few))
