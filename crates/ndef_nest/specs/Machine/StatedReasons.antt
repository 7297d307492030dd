-- The reason that is given for an octet of a nested message, if it is refused.
use Rattle.std.specs.Prelude.{ℕ, Bool, true, false, not, ◌==◌, ◌&&◌, nat_le, [], ◌∷◌, if◌then◌else◌}
use Rattle.ndef_format.specs.declared.tnf.Tnf.{Tnf}
use Rattle.ndef_format.specs.declared.tnf.Tnf.TheVariants.{WellKnown}
use Rattle.ndef_format.specs.declared.reason.Reason.{Reason}
use Rattle.ndef_format.specs.declared.reason.Reason.TheVariants.{UriMissing, UriAgain, CollisionMissing, DoesNotFit}
use Rattle.ndef_piece.specs.declared.bounds.Bounds.{Bounds}
use Rattle.ndef_lang.specs.Machine.Kind.{kind_after, missing_of}
use Rattle.ndef_nest.specs.declared.demand.Demand.{Demand}
use Rattle.ndef_nest.specs.declared.demand.Demand.TheVariants as demands
use Rattle.ndef_nest.specs.declared.phase.Name.{Name}
use Rattle.ndef_format.specs.Nested.{is_uri}

-- NDEF 1.0, TNF: the type is one of the NFC Forum
abbrev pub is_well_known : Tnf → Bool
is_well_known WellKnown = true
is_well_known _ = false

-- NDEF 1.0, TNF and TYPE_LENGTH: the type may be a well-known one of that many octets
abbrev pub may_have : Bounds → ℕ → Bool
may_have b n = is_well_known b.tnf && (nat_le b.kind.0 n && nat_le n b.kind.1)

-- RTD Smart Poster 1.0 and Connection Handover 1.2: the reason for an octet with which a head continues
abbrev pub head_reason : Demand → Bounds → Reason
head_reason demands.OneUri b = if b.last && not (may_have b 1) then UriMissing else DoesNotFit
head_reason demands.Collision b = if may_have b 2 then DoesNotFit else CollisionMissing
head_reason _ b = DoesNotFit

-- Connection Handover 1.2: the octet of `cr` that comes when that many octets of the type are still to come
abbrev pub collision_octet : ℕ → ℕ
collision_octet left = if left == 2 then 0x63 else 0x72

-- the reason that is given for an octet of a type
abbrev pub name_reason : Demand → Name → ℕ → Reason
name_reason demands.OneUri n b = if n.last && not (b == 0x55) then UriMissing else DoesNotFit
name_reason demands.NoUri n b = if is_uri (kind_after n.names (b ∷ [])) then UriAgain else DoesNotFit
name_reason demands.Collision n b = if b == collision_octet (missing_of n.names) then DoesNotFit else CollisionMissing
name_reason demands.Anything n b = DoesNotFit
