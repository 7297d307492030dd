-- The state of an encoder of a message.
use Rattle.std.specs.Prelude.{◌≡◌, ℕ, ◌+◌, ◌≤◌, ◌==◌, Bool, false, List, [], ◌∷◌, ◌++◌, length, drop, Option, Some}
use Rattle.std.specs.List.{flat_map, slice_get}
use Rattle.std.specs.Option.{ForSome}
use Rattle.ndef_format.specs.Messages.{Item, all_pieces}
use Rattle.ndef_format.specs.Canonical.{AreItems, is_nil}
use Rattle.ndef_message.specs.Cut.{cut_runs}
use Rattle.ndef_message.specs.Steps.{IsProgress, octets_left}
use Rattle.ndef_message.specs.Written.{written_piece}
use Rattle.ndef_message.specs.declared.encoder.Spot.{Spot}
use Rattle.ndef_message.specs.declared.form.Form.{Form}
use Rattle.ndef_message.specs.declared.plan.Progress.{Progress}
use Rattle.ndef_message.specs.declared.plan.RecordPlan.{RecordPlan}

-- the plan of a record
abbrev pub plan_of : Form → Option ℕ → (first last : Bool) → Item → RecordPlan
plan_of form size first last m = record {
  tnf = m.tnf;
  kind_length = length m.kind;
  id_length = length m.id;
  payload_length = length m.payload;
  first = first;
  last = last;
  form = form;
  size = size;
}

-- the octets of some records
abbrev pub records_octets : Form → Option ℕ → (first : Bool) → List Item → List ℕ
records_octets form size first m = flat_map (written_piece form) (all_pieces (cut_runs first size m))

-- the rest of some records, of which the first is written up to here
abbrev pub records_left : Form → Option ℕ → (first : Bool) → Progress → List Item → List ℕ
records_left form size first at [] = []
records_left form size first at (m ∷ ms) =
    octets_left (plan_of form size first (is_nil ms) m) at m.kind m.id (drop at.taken m.payload)
    ++ records_octets form size false ms

-- the rest of a message
abbrev pub message_left : Form → Option ℕ → List Item → Spot → List ℕ
message_left form size m spot = records_left form size (spot.index == 0) spot.progress (drop spot.index m)

-- where writing in steps is in a message
pub record IsSpot (form : Form) (size : Option ℕ) (m : List Item) (spot : Spot) : Type 0 where
  pub items : AreItems m
  pub sized : ForSome size (λ n. 1 ≤ n)
  pub within : spot.index ≤ length m
  pub is : (r : Item) → slice_get m spot.index ≡ Some r
      → IsProgress (plan_of form size (spot.index == 0) (spot.index + 1 == length m) r) spot.progress
