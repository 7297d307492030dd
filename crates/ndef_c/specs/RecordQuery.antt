-- A query for records of a message, each of which is in one piece.
use Rattle.std.specs.Prelude.{◌≡◌, ℕ, Bool, true, List, ◌∷◌, ◌++◌, length, filter}
use Rattle.ndef_format.specs.Messages.{Item, run_record}
use Rattle.ndef_format.specs.declared.tnf.Tnf.{Tnf}
use Rattle.ndef_c.specs.Nested.{StandsAt}
use Rattle.ndef_c.specs.Walks.{IsRecordAt}
use Rattle.ndef_c.specs.declared.record.NdefRecord.{NdefRecord}

-- NDEF 1.0, TNF and TYPE: whether the type of a record is one of those that are wanted
abbrev pub has_type : (Tnf → List ℕ → Bool) → Item → Bool
has_type expected i = expected i.tnf i.kind

-- NDEF 1.0, messages: it is the record with the index among those records of a message that are wanted, and the
-- payload of its one piece begins there
pub record IsExpectedAt (expected : Item → Bool) (message : List ℕ) (items : List Item) (index : ℕ) (r : NdefRecord)
    : Type 0 where
  pub from : ℕ
  pub there : IsRecordAt message from r
  pub before : List Item
  pub after : List Item
  pub all : items ≡ before ++ run_record there.run ∷ after
  pub is_expected : expected (run_record there.run) ≡ true
  pub index_is : length (filter expected before) ≡ index
  pub one : there.run.initial.payload ≡ (run_record there.run).payload
  pub stands : StandsAt message before (run_record there.run) r.payload_at
