-- The payloads of a URI record (RTD URI 1.0).
use Rattle.std.specs.Prelude.{ℕ, ◌<◌, List, [], ◌∷◌, IsUtf8}
use Rattle.ndef_format.specs.declared.profile.Profile.{Profile}
use Rattle.ndef_format.specs.declared.profile.Profile.TheVariants.{Strict, Standard}

-- RTD URI 1.0, URI identifier codes: those above 23 are reserved; a strict reader refuses them,
-- though by the standard readers treat them as 00
abbrev pub IsReserved : Profile → ℕ → Type 0
IsReserved Strict code = 0x23 < code
IsReserved Standard code = ⊥

-- RTD URI 1.0: a code and a text
abbrev pub IsUri : Profile → List ℕ → Type 0
IsUri profile [] = ⊥
IsUri profile (code ∷ s) = (code < 256) × (IsReserved profile code → ⊥) × IsUtf8 s
