-- Contents of nested messages, as readers of each profile take them.
use Rattle.std.proofs.Common.{◌≢◌, List, [], ◌∷◌, ℕ, refl}
use Rattle.std.specs.List.{AllByRecursion}
use Rattle.ndef_format.specs.Messages.{Item}
use Rattle.ndef_format.specs.declared.profile.Profile.{Profile}
use Rattle.ndef_format.specs.declared.profile.Profile.TheVariants.{Strict}
use Rattle.ndef_format.specs.Kinds.{kind_of}
use Rattle.ndef_format.specs.Nested.{IsPayload, HasContents, kind_in, checked}
use Rattle.ndef_nest.specs.WiderLaws.{contents_for_more}
use Rattle.ndef_format.specs.declared.kind.Kind.{Kind}
use Rattle.ndef_format.specs.declared.kind.Kind.TheVariants as kinds
use Rattle.ndef_format.specs.declared.table.Table.{Table}
use Rattle.ndef_format.specs.declared.table.Table.TheVariants.{SmartPoster, Request, Select}

pub strict_is_read : (table : Table) (profile : Profile) (items : List Item) → HasContents table Strict items → HasContents table profile items
strict_is_read table profile items h = contents_for_more table Strict profile items tt h

request_payload : (profile : Profile) (kind : Kind) (payload : List ℕ) → IsPayload (checked Request kind) profile payload → IsPayload (checked Request kind) Strict payload
request_payload profile kinds.Other payload h = h
request_payload profile _ payload h = h

select_payload : (profile : Profile) (kind : Kind) (payload : List ℕ) → IsPayload (checked Select kind) profile payload → IsPayload (checked Select kind) Strict payload
select_payload profile kinds.Other payload h = h
select_payload profile _ payload h = h

handover_payload : (table : Table) (profile : Profile) (kind : Kind) (payload : List ℕ) → table ≢ SmartPoster → IsPayload (checked table kind) profile payload → IsPayload (checked table kind) Strict payload
handover_payload SmartPoster profile kind payload f h = absurd (f refl)
handover_payload Request profile kind payload f h = request_payload profile kind payload h
handover_payload Select profile kind payload f h = select_payload profile kind payload h

handover_members : (table : Table) (profile : Profile) (items : List Item) → table ≢ SmartPoster → AllByRecursion (λ i. IsPayload (kind_in table i.tnf i.kind) profile i.payload) items
    → AllByRecursion (λ i. IsPayload (kind_in table i.tnf i.kind) Strict i.payload) items
handover_members table profile [] f h = tt
handover_members table profile (i ∷ items) f h = (handover_payload table profile (kind_of i.tnf i.kind) i.payload f h.0, handover_members table profile items f h.1)

pub handovers_are_strict : (table : Table) (profile : Profile) (items : List Item) → table ≢ SmartPoster → HasContents table profile items → HasContents table Strict items
handovers_are_strict table profile items f h = record { members = handover_members table profile items f h.members; complete = h.complete }
