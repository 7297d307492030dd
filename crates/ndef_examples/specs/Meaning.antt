-- The payloads of the record type.
use Rattle.std.specs.Prelude.{ℕ, List, codes, length, ◌≡◌, ◌≢◌, ◌↔◌}
use Rattle.ndef_format.specs.Payloads.{IsTypedPayload, Sets}
use Rattle.ndef_format.specs.Records.{AreOctets}
use Rattle.ndef_format.specs.declared.profile.Profile.{Profile}
use Rattle.ndef_format.specs.declared.tnf.Tnf.{Tnf}
use Rattle.ndef_format.specs.declared.tnf.Tnf.TheVariants.{External}

-- A payload of the own type is two octets.
abbrev pub TemperaturesAreTwo : Sets → Type 0
TemperaturesAreTwo set = (records : ℕ) (profile : Profile) (s : List ℕ)
    → set External (codes "example.com:temp") records profile s ↔ (AreOctets s × (length s ≡ 2))

-- A payload of any type with another name is what the standards want.
abbrev pub OthersAreTyped : Sets → Type 0
OthersAreTyped set = (tnf : Tnf) (name : List ℕ) → name ≢ codes "example.com:temp"
    → (records : ℕ) (profile : Profile) (s : List ℕ)
    → set tnf name records profile s ↔ IsTypedPayload tnf name records profile s
