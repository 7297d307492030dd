use Rattle.std.proofs.Common.{◌≡◌, ◌-◌, ◌++◌, ℕ, List, length}
use Rattle.ndef_format.specs.Records.{Run}
use Rattle.ndef_format.specs.declared.profile.Profile.{Profile}
use Rattle.ndef_c.specs.Arrays.{set_over}
use Rattle.ndef_c.specs.Items.{AreItems, AreListed, IsItemAt}
use Rattle.ndef_c.specs.Walks.{AreWalked}
use Rattle.ndef_c.specs.declared.items.Listing.{Listing}
use Rattle.ndef_c.specs.declared.items.NdefItem.{NdefItem}
use Rattle.ndef_c.proofs.items.tell_items.Given as goal

-- of the records of a message these were given
pub record Given (profile : Profile) (m : Listing) (start : ℕ) (runs : List Run) (end at index : ℕ) (old now : List NdefItem) : Type 0 where
  pub done : List Run
  pub left : List Run
  pub all : runs ≡ done ++ left
  pub walked : AreWalked m.bytes.now at left end
  pub reported : List NdefItem
  pub are : AreItems (IsItemAt m.looks m.within profile m.bytes.now) start done reported at
  pub filled : now ≡ set_over reported old
  pub index_is : index ≡ length reported

abbrev pub invariant-loop-index : goal.invariant-loop-index
invariant-loop-index l =
    (profile : Profile) (runs : List Run) (end : ℕ) → AreListed profile l.message l.start runs end → length runs ≡ l.records
    → Given profile l.message l.start runs end l.at l.index l.fn.items l.items

abbrev pub decreases-loop-index : goal.decreases-loop-index
decreases-loop-index l = l.records - l.index
