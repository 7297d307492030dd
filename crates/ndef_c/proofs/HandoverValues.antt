-- The records of a handover that is written: a strict reader takes them for a request or a select.
use Rattle.std.proofs.Common.{◌≡◌, ℕ, ◌≤◌, ◌==◌, Bool, true, false, List, [], ◌∷◌, map, length, refl, sym, subst, arith, inl, inr}
use Rattle.std.proofs.lemmas.Bool.{eqb-true}
use Rattle.std.proofs.lemmas.List.Elements.{recursion_from_All}
use Rattle.std.specs.Int.{w16, to_be_bytes}
use Rattle.std.specs.List.{AllByRecursion}
use Rattle.std.specs.Prelude.{if◌then◌else◌}
use Rattle.ndef_value.specs.ListLaws.{all_append}
use Rattle.ndef_format.specs.Handovers.{IsAlternative}
use Rattle.ndef_format.specs.Messages.{Item}
use Rattle.ndef_format.specs.Records.{AreOctets}
use Rattle.ndef_format.specs.declared.kind.Kind.TheVariants as kinds
use Rattle.ndef_format.specs.declared.table.Table.{Table}
use Rattle.ndef_format.specs.declared.table.Table.TheVariants.{Request, Select}
use Rattle.ndef_types.specs.Decoding.{WritesPayloads}
use Rattle.ndef_types.specs.Handovers.{AreSelected}
use Rattle.ndef_types.specs.Values.{IsAcValue, WritesAc, ac_payload}
use Rattle.ndef_c.specs.AlternativeWrites.{MayBeAlternative, part_of}
use Rattle.ndef_c.specs.Appending.{well_known}
use Rattle.ndef_c.specs.Contents.{alternative_payload}
use Rattle.ndef_c.specs.HandoverMaking.{CarriersAsked, MayBeCarriers, MayBeErrorSaid, WrittenRequestsAreRead, WrittenSelectsAreRead, carrier_items, error_items, message_of, select_items}
use Rattle.ndef_c.specs.HandoverParts.{MayBeCarried, alternative_item, own_references}
use Rattle.ndef_c.specs.declared.handover_making.NdefSelectWriting.{NdefSelectWriting}
use Rattle.ndef_c.specs.declared.handover_parts.NdefAlternativeWriting.{NdefAlternativeWriting}
use Rattle.ndef_c.specs.declared.part.NdefPart.{NdefPart}
use Rattle.ndef_c.proofs.Counted.{alternative_of, alternative_short, is_alternative_of, payload_of}
use Rattle.ndef_c.proofs.NestedRecords.{HasPayload, IsMember, IsNamed, are_items, each_payload, member_of, number_octets}

-- ---- alternative carriers

-- what is written for an alternative carrier is its payload
abbrev AlternativesAreWritten : Type 0
AlternativesAreWritten = WritesPayloads IsAlternative IsAcValue WritesAc

alternative_in_set : AlternativesAreWritten → (power : ℕ) (bytes : List ℕ) (parts : List NdefPart) → AreOctets bytes → MayBeAlternative power bytes parts → IsAlternative (alternative_payload power bytes parts)
alternative_in_set written power bytes [] octets may = let some = may.some in absurd (omega (arith, some))
alternative_in_set written power bytes (reference ∷ auxiliary) octets may =
    let v = alternative_of power bytes reference auxiliary in
    subst IsAlternative (sym (payload_of power bytes reference auxiliary may.two_bits)) (written v (ac_payload v) (is_alternative_of power bytes reference auxiliary octets may).value refl)

carrier_members : AlternativesAreWritten → (table : Table) → IsNamed table kinds.Alternative → (bytes : List ℕ) (references : List NdefPart) (alternatives : List NdefAlternativeWriting) → AreOctets bytes
    → AllByRecursion (MayBeCarried bytes references) alternatives → AllByRecursion (IsMember table) (map (alternative_item bytes references) alternatives)
carrier_members written table n bytes references [] octets h = tt
carrier_members written table n bytes references (a ∷ alternatives) octets h =
    let own = own_references references a in
    let payload : HasPayload kinds.Alternative (alternative_payload a.power bytes own) = record { in_set = alternative_in_set written a.power bytes own octets h.0.may; short = alternative_short a.power bytes own h.0.may } in
    (member_of table kinds.Alternative (alternative_payload a.power bytes own) n payload, carrier_members written table n bytes references alternatives octets h.1)

are_members : AlternativesAreWritten → (table : Table) → IsNamed table kinds.Alternative → (c : CarriersAsked) → AreOctets c.bytes → MayBeCarriers c → AllByRecursion (IsMember table) (carrier_items c)
are_members written table n c octets may = carrier_members written table n c.bytes c.references c.alternatives octets (recursion_from_All (MayBeCarried c.bytes c.references) c.alternatives may)

-- ---- requests

collision_named : IsNamed Request kinds.Collision
collision_named = record { kind_is = refl; some = omega arith; few = omega arith; octets = (omega arith, (omega arith, tt)) }

alternative_of_request : IsNamed Request kinds.Alternative
alternative_of_request = record { kind_is = refl; some = omega arith; few = omega arith; octets = (omega arith, (omega arith, tt)) }

collision_payload : (number : ℕ) → HasPayload kinds.Collision (to_be_bytes w16 number)
collision_payload number = record { in_set = (number_octets 2 number, refl); short = omega arith }

pub requests_read : AlternativesAreWritten → WrittenRequestsAreRead
requests_read written minor collision c may octets =
    let first = well_known kinds.Collision [] (to_be_bytes w16 collision) in
    let all : AllByRecursion (IsMember Request) (first ∷ carrier_items c) =
    (member_of Request kinds.Collision (to_be_bytes w16 collision) collision_named (collision_payload collision), are_members written Request alternative_of_request c octets may.carriers) in
    record {
      minor = may.four_bits;
      items = are_items Request first (carrier_items c) all may.few;
      contents = record { members = each_payload Request (first ∷ carrier_items c) all; complete = refl };
    }

-- ---- selects

error_named : IsNamed Select kinds.Error
error_named = record { kind_is = refl; some = omega arith; few = omega arith; octets = (omega arith, (omega arith, (omega arith, tt))) }

alternative_of_select : IsNamed Select kinds.Alternative
alternative_of_select = record { kind_is = refl; some = omega arith; few = omega arith; octets = (omega arith, (omega arith, tt)) }

error_payload : (how : NdefSelectWriting) (bytes : List ℕ) → MayBeErrorSaid how bytes → how.has_error ≡ 1 → HasPayload kinds.Error (how.reason ∷ part_of bytes how.detail)
error_payload how bytes (inl none) e = absurd (omega (arith, none, e))
error_payload how bytes (inr one) e = let fits = one.1.may.fits in record { in_set = one.1.may.error; short = omega (arith, fits) }

error_if : (b : Bool) (payload : List ℕ) → (b ≡ true → HasPayload kinds.Error payload) → AllByRecursion (IsMember Select) (if b then well_known kinds.Error [] payload ∷ [] else [])
error_if true payload h = (member_of Select kinds.Error payload error_named (h refl), tt)
error_if false payload h = tt

error_member : (how : NdefSelectWriting) (bytes : List ℕ) → MayBeErrorSaid how bytes → AllByRecursion (IsMember Select) (error_items how bytes)
error_member how bytes may = error_if (how.has_error == 1) (how.reason ∷ part_of bytes how.detail) (λ t. error_payload how bytes may (eqb-true how.has_error 1 t))

are_selected : (items : List Item) → AllByRecursion (IsMember Select) items → length items ≤ 65535 → AreSelected (message_of items)
are_selected [] h few = tt
are_selected (i ∷ items) h few = (are_items Select i items h few, record { members = each_payload Select (i ∷ items) h; complete = tt })

pub selects_read : AlternativesAreWritten → WrittenSelectsAreRead
selects_read written s may octets =
    let carriers = are_members written Select alternative_of_select s.carriers octets may.carriers in
    let error = error_member s.how s.carriers.bytes may.error in
    record { minor = may.four_bits; message = are_selected (select_items s) (all_append (IsMember Select) (carrier_items s.carriers) (error_items s.how s.carriers.bytes) carriers error) may.few }
