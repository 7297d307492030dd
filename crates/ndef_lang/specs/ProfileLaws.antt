-- Payloads of a strict reader, as other readers take them.
use Rattle.std.proofs.Common.{ℕ, List, [], ◌∷◌}
use Rattle.ndef_format.specs.Laws.{IsNoStricter}
use Rattle.ndef_format.specs.Nested.{IsPayload}
use Rattle.ndef_format.specs.Uris.{IsUri}
use Rattle.ndef_format.specs.declared.kind.Kind.{Kind}
use Rattle.ndef_format.specs.declared.kind.Kind.TheVariants as kinds
use Rattle.ndef_format.specs.declared.profile.Profile.{Profile}
use Rattle.ndef_format.specs.declared.profile.Profile.TheVariants.{Strict, Standard}
use Rattle.ndef_value.specs.ProfileLaws.{no_stricter}

strict_uri : (profile : Profile) (payload : List ℕ) → IsUri Strict payload → IsUri profile payload
strict_uri Strict payload h = h
strict_uri Standard [] h = h
strict_uri Standard (code ∷ rest) h = (h.0, λ k. k, h.2)

pub strict_payload : (profile : Profile) (kind : Kind) (payload : List ℕ) → IsPayload kind Strict payload
    → IsPayload kind profile payload
strict_payload profile kinds.Uri payload h = strict_uri profile payload h
strict_payload profile _ payload h = h

-- a payload for one reader is one for a reader that is no stricter
pub payload_for_more : (kind : Kind) (profile other : Profile) (payload : List ℕ) → IsNoStricter profile other
    → IsPayload kind profile payload → IsPayload kind other payload
payload_for_more kind profile other payload a h =
    no_stricter (λ p. IsPayload kind p payload) profile other a (λ strict p. strict_payload p kind payload strict) h
