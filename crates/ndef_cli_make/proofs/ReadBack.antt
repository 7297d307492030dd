-- Reading what was made.
use Rattle.std.specs.declared.alloc.Global.{Global}
use Rattle.std.proofs.Common.{◌≡◌, ◌∙◌, ◌≤◌, ◌++◌, ℕ, Bool, true, false, List, [], ◌∷◌, length, Option, None, Some, Result, Ok, Err, refl, sym, ap, subst, inl, inr, rules, arith, ◌+◌, map, cond}
use Rattle.std.specs.Prelude.{◌||◌, drop, nat_lt, Vec}
use Rattle.std.specs.Option.{option_map_or}
use Rattle.clap.specs.Words.{Text}
use Rattle.std.specs.List.{AllByRecursion, list_any, find, flat_map}
use Rattle.ndef_format.specs.Canonical.{AreItems, canonical}
use Rattle.ndef_format.specs.Messages.{Spells, SpellsBy, Item}
use Rattle.ndef_format.specs.Records.{IsRead, IsRun, Run}
use Rattle.ndef_format.specs.Limits.{LimitValues}
use Rattle.ndef_format.specs.declared.profile.Profile.{Profile}
use Rattle.ndef_format.specs.declared.profile.Profile.TheVariants.{Standard, Strict}
use Rattle.ndef_format.specs.Kinds.{kind_of}
use Rattle.ndef_format.specs.Reasons.{Conditions}
use Rattle.ndef_lang.specs.RecordLanguage.{SameTypes}
use Rattle.ndef_format.specs.Payloads.{Sets, IsTypedPayload, IsKindPayload}
use Rattle.ndef_format.specs.Uris.{IsUri}
use Rattle.ndef_format.specs.declared.kind.Kind.{Kind}
use Rattle.ndef_format.specs.declared.kind.Kind.TheVariants as kinds
use Rattle.ndef_format.specs.Nested.{Nested}
use Rattle.ndef_nest.specs.Nested.{StrictContentsAreRead}
use Rattle.ndef_format.specs.declared.table.Table.{Table}
use Rattle.ndef_format.specs.declared.table.Table.TheVariants as tables
use Rattle.ndef_format.specs.Accepted.{IsMember}
use Rattle.ndef_message.specs.Readings.{GivesBack, ReadsInput, RoundTrips}
use Rattle.ndef_message.specs.Written.{ShortIsCanonical}
use Rattle.ndef_message.specs.declared.form.Form.TheVariants.{Short}
use Rattle.ndef_cli_make.specs.Asked.{AskedPart}
use Rattle.ndef_cli_make.specs.Checking.{IsOfItsType, MakesIf, is_unchecked}
use Rattle.ndef_cli.specs.Inputs.{GivesInput}
use Rattle.ndef_cli_make.specs.Making.{MakesBy, MakesLinked, MakesMessage, MakesWith, shown_in, written_as, AreMadeIn, MakesAll, MakesFrom}
use Rattle.ndef_cli_make.specs.Editing.{origin_in, added_by, edited, in_place, kept_from, names, one_or_none, record_of, records_in}
use Rattle.ndef_cli_make.specs.Options.{subject_named}
use Rattle.ndef_cli_make.specs.Outcomes.{IsMadeFrom, IsSizeChecked}
use Rattle.ndef_cli_make.specs.Reading.{HoldsFew, IsReadBack, MadeIsRead, ReadsBack, message_octets}
use Rattle.ndef_cli_make.specs.References.{missing_reference}
use Rattle.ndef_cli_make.specs.Records.{Answer}
use Rattle.ndef_cli_make.specs.declared.fault.Fault.{Fault}
use Rattle.ndef_cli_make.specs.declared.making.OutputFormat.{OutputFormat}
use Rattle.ndef_cli_make.specs.SizeChecks.{size_check_in}
use Rattle.ndef_cli_make.specs.declared.making.Writing.{Writing}
use Rattle.ndef_cli_make.specs.declared.making.Written.{Written}
use Rattle.ndef_cli_make.specs.declared.size_check.SizeCheck.{SizeCheck}
use Rattle.ndef_value.specs.ListLaws.{all_append}
use Rattle.ndef_cli_make.specs.Edited.{Editing, ReadsOriginal, IsEditedIf, IsEditedOf, MakesEdit, WritesRecords, edit_readers}
use Rattle.ndef_cli_make.specs.declared.editing.Edit.{Edit}
use Rattle.ndef_cli_make.specs.declared.editing.Edit.TheVariants.{Keeps, Drops, Replaces, Adds}
use Rattle.ndef_cli_make.specs.declared.usage_error.UsageError.{UsageError}

-- ---- what a strict reader takes

read_by_each : (profile : Profile) (n : ℕ) → IsRead Strict n → IsRead profile n
read_by_each Strict n h = h
read_by_each Standard n h = omega (arith, h)

runs_for : (profile : Profile) (runs : List Run) → AllByRecursion (IsRun Strict) runs → AllByRecursion (IsRun profile) runs
runs_for profile [] h = tt
runs_for profile (r ∷ runs) h =
    let i = h.0.initial in
    (record { initial = record { read = read_by_each profile _ i.read; changed = i.changed; not_empty = i.not_empty }; follow = h.0.follow }, runs_for profile runs h.1)

flat_for : (profile : Profile) (runs : List Run) (items : List Item) (s : List ℕ) → SpellsBy Strict runs items s → SpellsBy profile runs items s
flat_for profile runs items s h =
    let m = h.message in
    record { message = record { each_run = runs_for profile runs m.each_run; items = m.items; shaped = m.shaped; begins = m.begins; ends = m.ends }; spelled = h.spelled }

uri_for : (profile : Profile) (s : List ℕ) → IsUri Strict s → IsUri profile s
uri_for Strict s h = h
uri_for Standard [] h = h
uri_for Standard (code ∷ rest) h = (h.0, λ k. k, h.2)

nested_for : StrictContentsAreRead → (table : Table) (records : ℕ) (profile : Profile) (s : List ℕ) → Nested table 65535 Strict s
    → ((inner : List Item) → Spells Strict inner s → length inner ≤ records) → Nested table records profile s
nested_for strict table records profile s h few = (
  h.0,
  h.1,
  record {
    spelling = flat_for profile h.0 h.1 s h.2.spelling;
    single = h.2.single;
    few = few h.1 (h.0, h.2.spelling);
    contents = strict table profile h.1 h.2.contents;
  },
)

-- a payload that a strict reader takes, each reader takes that lets in the records of the message in it
typed_for : StrictContentsAreRead → (records : ℕ) (profile : Profile) (kind : Kind) (s : List ℕ) → IsKindPayload kind 65535 Strict s
    → ((inner : List Item) → Spells Strict inner (message_octets kind s) → length inner ≤ records) → IsKindPayload kind records profile s
typed_for strict records profile kinds.Uri s h few = uri_for profile s h
typed_for strict records profile kinds.SmartPoster s h few = nested_for strict tables.SmartPoster records profile s h few
typed_for strict records profile kinds.Request [] h few = absurd h
typed_for strict records profile kinds.Request (v ∷ s) h few = (h.0, nested_for strict tables.Request records profile s h.1 few)
typed_for strict records profile kinds.Select [] h few = absurd h
typed_for strict records profile kinds.Select (v ∷ s) h few = (
  h.0,
  elim h.1 [
    | inl none ↦ inl none
    | inr some ↦ inr (nested_for strict tables.Select records profile s some few)
  ],
)
typed_for strict records profile _ s h few = h

-- ---- what was made

neither : (a b : Bool) → (a || b) ≡ false → (a ≡ false) × (b ≡ false)
neither false b e = (refl, e)
neither true b e = absurd (search rules)

checked_if : (unchecked : Bool) (makes : Answer → Type 0) (i : Item) → unchecked ≡ false → MakesIf unchecked makes (Ok i) → IsOfItsType i
checked_if true makes i e is = absurd (search rules)
checked_if false makes i e is = is.1

-- a record that is checked is one of its type
typed_if : (part : AskedPart) (payload : Result (List ℕ) Fault) (i : Item) → is_unchecked part ≡ false → MakesWith part payload (Ok i) → IsOfItsType i
typed_if part (Ok payload) i e is = checked_if (is_unchecked part) (MakesBy (subject_named part.0) part.1 payload) i e is
typed_if part (Err fault) i e is = absurd (search rules)

are_members : StrictContentsAreRead → (set : Sets) → SameTypes set IsTypedPayload → (limits : LimitValues) (items : List Item) → AllByRecursion IsOfItsType items
    → AllByRecursion (HoldsFew limits.records) items → AllByRecursion (IsMember set limits) items
are_members strict set same limits [] typed few = tt
are_members strict set same limits (i ∷ items) typed few = (
  (same i.tnf i.kind limits.records limits.profile i.payload).1 (typed_for strict limits.records limits.profile (kind_of i.tnf i.kind) i.payload typed.0 few.0),
  are_members strict set same limits items typed.1 few.1,
)

read_back : StrictContentsAreRead → ShortIsCanonical → (set : Sets) (holds : Conditions) → SameTypes set IsTypedPayload → RoundTrips set holds
    → (items : List Item) → AreItems items → AllByRecursion IsOfItsType items → IsReadBack set holds items
read_back strict short set holds same trips items are typed limits rest after result admits reads =
    let e = short items in
    let back = trips limits Short None items rest after result (λ n e. absurd (search rules)) are (are_members strict set same limits items typed admits.inner) admits.within
    (subst (λ bytes. ReadsInput set holds limits (bytes ++ rest) after result) (sym e) reads) in
    subst (λ bytes. GivesBack items bytes rest after result) e back

-- a message that is made has its records
linked : (o : Option (List ℕ)) (size_check : SizeCheck) (shown : OutputFormat) (items : List Item) (made : Written) → MakesLinked o size_check shown items (Ok made)
    → MakesMessage size_check shown items (Ok made)
linked None size_check shown items made is = is
linked (Some reference) size_check shown items made is = absurd is

-- ---- what holds of each record of an edit, and of each old one, holds of each that is left

first_or : {X : Type 0} (P : X → Type 0) (b : Bool) (d e : Edit X) (rest : Option (Edit X)) → AllByRecursion P (one_or_none (record_of d)) → (rest ≡ Some e → AllByRecursion P (one_or_none (record_of e)))
    → cond b (Some d) rest ≡ Some e → AllByRecursion P (one_or_none (record_of e))
first_or {X} P true d e rest own other is = let same : d ≡ e = search rules in subst (λ (k : Edit X). AllByRecursion P (one_or_none (record_of k))) same own
first_or P false d e rest own other is = other is

found : {X : Type 0} (P : X → Type 0) (test : Edit X → Bool) (edits : List (Edit X)) (e : Edit X) → AllByRecursion P (records_in edits) → find test edits ≡ Some e
    → AllByRecursion P (one_or_none (record_of e))
found P test [] e all is = absurd (search rules)
found P test (Keeps flags ∷ edits) e all is = first_or P (test (Keeps flags)) (Keeps flags) e (find test edits) tt (found P test edits e all) is
found P test (Drops n flags ∷ edits) e all is = first_or P (test (Drops n flags)) (Drops n flags) e (find test edits) tt (found P test edits e all) is
found P test (Replaces n x ∷ edits) e all is = first_or P (test (Replaces n x)) (Replaces n x) e (find test edits) (all.0, tt) (found P test edits e all.1) is
found P test (Adds x ∷ edits) e all is = first_or P (test (Adds x)) (Adds x) e (find test edits) (all.0, tt) (found P test edits e all.1) is

placed : {X : Type 0} (P : X → Type 0) (o : Option (Edit X)) (x : X) → P x → ((e : Edit X) → o ≡ Some e → AllByRecursion P (one_or_none (record_of e))) → AllByRecursion P (in_place o x)
placed P None x own other = (own, tt)
placed P (Some e) x own other = other e refl

kept : {X : Type 0} (P : X → Type 0) (n : ℕ) (edits : List (Edit X)) (old : List X) → AllByRecursion P old → AllByRecursion P (records_in edits) → AllByRecursion P (kept_from n edits old)
kept P n edits [] own all = tt
kept P n edits (x ∷ old) own all =
    all_append P (in_place (find (names n) edits) x) (kept_from (n + 1) edits old) (placed P (find (names n) edits) x own.0 (λ e is. found P (names n) edits e all is)) (kept P (n + 1) edits old own.1 all)

added : {X : Type 0} (P : X → Type 0) (edits : List (Edit X)) → AllByRecursion P (records_in edits) → AllByRecursion P (flat_map added_by edits)
added P [] all = tt
added P (Keeps flags ∷ edits) all = added P edits all
added P (Drops n flags ∷ edits) all = added P edits all
added P (Replaces n x ∷ edits) all = added P edits all.1
added P (Adds x ∷ edits) all = (all.0, added P edits all.1)

all_edited : {X : Type 0} (P : X → Type 0) (old : List X) (edits : List (Edit X)) → AllByRecursion P old → AllByRecursion P (records_in edits) → AllByRecursion P (edited old edits)
all_edited P old edits own all = all_append P (kept_from 1 edits old) (flat_map added_by edits) (kept P 1 edits old own all) (added P edits all)

-- ---- the records of edits

typed_one : {I : Type 0} (gives : GivesInput I) (part : AskedPart) (before after : I) (i : Item) → is_unchecked part ≡ false → MakesFrom gives part before after (Ok i) → IsOfItsType i
typed_one gives part before after i checked is = typed_if part is.0 i checked is.2

typed_as : (made wanted : Edit Item) → made ≡ wanted → AllByRecursion IsOfItsType (one_or_none (record_of wanted)) → AllByRecursion IsOfItsType (one_or_none (record_of made))
typed_as made wanted is all = subst (λ (e : Edit Item). AllByRecursion IsOfItsType (one_or_none (record_of e))) (sym is) all

are_typed : {I : Type 0} (gives : GivesInput I) (edits : List (Edit AskedPart)) (before after : I) (items : List (Edit Item)) → AreMadeIn (MakesEdit gives) edits before after items
    → list_any is_unchecked (records_in edits) ≡ false → AllByRecursion IsOfItsType (records_in items)
are_typed gives [] before after [] are checked = tt
are_typed gives [] before after (i ∷ items) are checked = absurd are
are_typed gives (edit ∷ edits) before after [] are checked = absurd are
are_typed gives (Keeps flags ∷ edits) before after (i ∷ items) are checked =
    let same : i ≡ Keeps flags = search rules in
    all_append IsOfItsType (one_or_none (record_of i)) (records_in items) (typed_as i (Keeps flags) same tt) (are_typed gives edits are.0 after items are.2 checked)
are_typed gives (Drops n flags ∷ edits) before after (i ∷ items) are checked =
    let same : i ≡ Drops n flags = search rules in
    all_append IsOfItsType (one_or_none (record_of i)) (records_in items) (typed_as i (Drops n flags) same tt) (are_typed gives edits are.0 after items are.2 checked)
are_typed gives (Replaces n part ∷ edits) before after (i ∷ items) are checked =
    let both = neither (is_unchecked part) (list_any is_unchecked (records_in edits)) checked in
    all_append IsOfItsType (one_or_none (record_of i)) (records_in items)
    (typed_as i (Replaces n are.1.0) are.1.2 (typed_one gives part before are.0 are.1.0 both.0 are.1.1, tt)) (are_typed gives edits are.0 after items are.2 both.1)
are_typed gives (Adds part ∷ edits) before after (i ∷ items) are checked =
    let both = neither (is_unchecked part) (list_any is_unchecked (records_in edits)) checked in
    all_append IsOfItsType (one_or_none (record_of i)) (records_in items)
    (typed_as i (Adds are.1.0) are.1.2 (typed_one gives part before are.0 are.1.0 both.0 are.1.1, tt)) (are_typed gives edits are.0 after items are.2 both.1)

-- ---- what was written

-- what is written is that of the records
written_all : (edits : List (Edit AskedPart)) (writing : Writing) (items : List Item) (made : Written) → WritesRecords edits writing items (Ok made) → MakesAll edits writing items (Ok made)
written_all edits writing [] made is = absurd (search rules)
written_all edits writing (i ∷ items) made is = is

-- the records of the message that is edited are of their types
original_typed : {I : Type 0} (gives : GivesInput I) (file : Option Text) (before after : I) (old : Vec Item Global) → ReadsOriginal gives file before after (Ok old) → AllByRecursion IsOfItsType old.items
original_typed gives None before after old reads = subst (AllByRecursion IsOfItsType) (sym reads.1) tt
original_typed gives (Some name) before after old reads = reads.2.members

edited_by : {I : Type 0} (gives : GivesInput I) → StrictContentsAreRead → ShortIsCanonical → (set : Sets) (holds : Conditions) → SameTypes set IsTypedPayload → RoundTrips set holds
    → (editing : Editing) (writing : Writing) (many : Bool) (before after : I) (made : Written) → IsEditedIf many gives editing writing before after (Ok made)
    → list_any is_unchecked (records_in editing.edits) ≡ false → ReadsBack gives set holds editing before after made
edited_by gives strict short set holds same trips editing writing true before after made is checked = absurd (search rules)
edited_by gives strict short set holds same trips editing writing false before after made (old, middle, reads, (items, numbers, are, writes)) checked =
    let edits = editing.edits in
    let left = edited old.items items in
    let all = written_all edits writing left made writes in
    let is = linked (missing_reference (records_in edits) left) writing.size_check (shown_in writing edits) left made all in
    let typed = all_edited IsOfItsType old.items items (original_typed gives editing.file before middle old reads) (are_typed gives editing.edits middle after items are checked) in (
      old,
      items,
      middle,
      reads,
      are,
      is.1 ∙ ap (λ shown. written_as shown (canonical left)) (sym is.2),
      read_back strict short set holds same trips left is.0 typed,
    )

-- the edit for which words ask
abbrev said : Edit AskedPart → Result (Edit AskedPart) UsageError
said edit = Ok edit

same_edits : (xs ys : List (Edit AskedPart)) → map said xs ≡ map said ys → xs ≡ ys
same_edits [] [] e = refl
same_edits [] (y ∷ ys) e = absurd (search rules)
same_edits (x ∷ xs) [] e = absurd (search rules)
same_edits (x ∷ xs) (y ∷ ys) e =
    let first : x ≡ y = search rules in
    let others : map said xs ≡ map said ys = search rules in
    ap (λ z. z ∷ xs) first ∙ ap (λ zs. y ∷ zs) (same_edits xs ys others)

pub made_is_read : {I : Type 0} (gives : GivesInput I) → StrictContentsAreRead → ShortIsCanonical → (set : Sets) (holds : Conditions) → SameTypes set IsTypedPayload → RoundTrips set holds → MadeIsRead gives set holds
made_is_read {I} gives strict short set holds same trips words parts terminal before after made editing is named asked none = checked_size (size_check_in (drop 1 words)) refl is
  where
    checked_size : (o : Option (SizeCheck × List Text)) → size_check_in (drop 1 words) ≡ o → IsSizeChecked gives o terminal before after (Ok made) → ReadsBack gives set holds editing before after made
    checked_size None e h = absurd (search rules)
    checked_size (Some m) e h =
        let writing : Writing = record { terminal = terminal; size_check = m.0 } in
        let from : origin_in m.1 ≡ Some (editing.file, parts) = ap (λ o. origin_in (option_map_or (λ x. x.1) o [])) (sym e) ∙ named in
        let k = subst (λ (o : Option (Option Text × List Text)). IsMadeFrom gives o writing before after (Ok made)) from h in
        let own = same_edits k.0 editing.edits (sym k.1 ∙ asked) in
        edited_by gives strict short set holds same trips editing writing (nat_lt 1 (edit_readers editing)) before after made
        (subst (λ (es : List (Edit AskedPart)). IsEditedOf gives (record { file = editing.file; edits = es }) writing before after (Ok made)) own k.2) none
