-- The alternative carriers of a handover that is written, as parts of some bytes.
use Rattle.std.specs.Prelude.{ℕ, ◌+◌, ◌≤◌, List, [], length, take, drop}
use Rattle.ndef_format.specs.Messages.{Item}
use Rattle.ndef_format.specs.declared.kind.Kind.TheVariants as kinds
use Rattle.ndef_c.specs.AlternativeWrites.{MayBeAlternative}
use Rattle.ndef_c.specs.Appending.{well_known}
use Rattle.ndef_c.specs.Contents.{alternative_payload}
use Rattle.ndef_c.specs.declared.handover_parts.NdefAlternativeWriting.{NdefAlternativeWriting}
use Rattle.ndef_c.specs.declared.part.NdefPart.{NdefPart}

-- Connection Handover 1.2, Alternative Carrier record: its own references, the first of all, in the
-- number that it has
abbrev pub own_references : List NdefPart → NdefAlternativeWriting → List NdefPart
own_references all a = take a.references (drop a.first all)

-- Connection Handover 1.2, Alternative Carrier record: its references are some of all, and may be
-- written
pub record MayBeCarried (bytes : List ℕ) (all : List NdefPart) (a : NdefAlternativeWriting) : Type 0 where
  pub within : a.first + a.references ≤ length all
  pub may : MayBeAlternative a.power bytes (own_references all a)

-- Connection Handover 1.2, Alternative Carrier record: the record of these references
abbrev pub alternative_item : List ℕ → List NdefPart → NdefAlternativeWriting → Item
alternative_item bytes all a =
    well_known kinds.Alternative [] (alternative_payload a.power bytes (own_references all a))
