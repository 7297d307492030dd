-- The message after the edits, or why there is none.
use Rattle.std.proofs.Common.{◌≡◌, ◌∙◌, ◌++◌, ℕ, List, ap, ap₂, length, map, Result, Ok, Err, inr, sym, subst}
use Rattle.std.specs.Prelude.{false, nat_lt, Vec}
use Rattle.std.specs.declared.alloc.Global.{Global}
use Rattle.std.specs.List.{flat_map}
use Rattle.ndef_format.specs.Messages.{Item}
use Rattle.ndef_cli_make.specs.Asked.{AskedPart}
use Rattle.ndef_cli_make.specs.Edited.{Editing, EditsMessage, IsEditedIf, IsEditedOf, MakesEdit, ReadsOriginal, WritesRecords, edit_readers}
use Rattle.ndef_cli_make.specs.Editing.{AreNumbers, added_by, altered_by, edit_map, edited, kept_from, number_of}
use Rattle.ndef_cli.specs.Inputs.{GivesInput}
use Rattle.ndef_cli_make.specs.Making.{AreMadeIn}
use Rattle.ndef_cli_make.specs.declared.editing.Edit.{Edit}
use Rattle.ndef_cli_make.specs.declared.fault.Fault.{Fault}
use Rattle.ndef_cli_make.specs.declared.making.Writing.{Writing}
use Rattle.ndef_cli_make.specs.declared.making.Written.{Written}
use Rattle.ndef_cli_make.proofs.Edits.{kept_same, numbers_same}

-- the numbers of edits are those of what they stand for
pub numbers_for : {X Y : Type 0} (f : X → Y) (old : List Item) (count : ℕ) (edits : List (Edit X)) (result : Result Unit Fault) → count ≡ length old → AreNumbers count (map number_of edits) result
    → AreNumbers (length old) (map number_of (map (edit_map f) edits)) result
numbers_for f old count edits result same are = rw (sym same, numbers_same f edits) are

-- the records that are left, and then those that are added
pub all_edited : (old added records : List Item) (others items : List (Edit Item)) → records ≡ kept_from 1 others old ++ added → others ≡ flat_map altered_by items → added ≡ flat_map added_by items
    → records ≡ edited old items
all_edited old added records others items is left more =
    is ∙ ap₂ (λ (a b : List Item). a ++ b) (ap (λ es. kept_from 1 es old) left ∙ kept_same 1 items old) more

-- where the records are made
pub message_made : {I : Type 0} (gives : GivesInput I) (edits : List (Edit AskedPart)) (writing : Writing) (old : List Item) (before after : I) (items : List (Edit Item)) (records : List Item) (made : Result Written Fault)
    → AreNumbers (length old) (map number_of edits) (Ok tt) → AreMadeIn (MakesEdit gives) edits before after items → records ≡ edited old items → WritesRecords edits writing records made
    → EditsMessage gives edits writing old before after made
message_made gives edits writing old before after items records (Ok made) numbers are is writes =
    (items, numbers, are, subst (λ (left : List Item). WritesRecords edits writing left (Ok made)) is writes)
message_made gives edits writing old before after items records (Err fault) numbers are is writes =
    inr (numbers, inr (items, are, subst (λ (left : List Item). WritesRecords edits writing left (Err fault)) is writes))

-- where at most one input is standard input
pub file_edited : {I : Type 0} (gives : GivesInput I) (editing : Editing) (writing : Writing) (before middle after : I) (old : Vec Item Global) (made : Result Written Fault)
    → nat_lt 1 (edit_readers editing) ≡ false → ReadsOriginal gives editing.file before middle (Ok old) → EditsMessage gives editing.edits writing old.items middle after made
    → IsEditedOf gives editing writing before after made
file_edited gives editing writing before middle after old (Ok made) few reads edits =
    subst (λ b. IsEditedIf b gives editing writing before after (Ok made)) (sym few) (old, middle, reads, edits)
file_edited gives editing writing before middle after old (Err fault) few reads edits =
    subst (λ b. IsEditedIf b gives editing writing before after (Err fault)) (sym few) (inr (old, middle, reads, edits))
