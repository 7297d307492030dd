-- The records of options, one after another.
use Rattle.std.proofs.Common.{◌≡◌, ◌∙◌, ◌<◌, ◌≤◌, ◌+◌, ℕ, List, [], ◌∷◌, ◌++◌, append-nil, length, take, map, get_or, Ok, Err, sym, ap, subst}
use Rattle.std.specs.List.{flat_map}
use Rattle.std.proofs.lemmas.List.{take_all}
use Rattle.std.proofs.lemmas.List.Concat.{flat_map-append}
use Rattle.clap.specs.Words.{Row, Text}
use Rattle.ndef_format.specs.Messages.{Item}
use Rattle.ndef_cli_make.specs.Contents.{Content, MakesContent, OnMade, contents_by, option_of, words_as}
use Rattle.ndef_cli_make.specs.Records.{AreMadeBy, FailsBy}
use Rattle.ndef_cli_make.specs.declared.contents.Property.{Property}
use Rattle.ndef_cli_make.specs.declared.contents.PropertyOption.{PropertyOption}
use Rattle.ndef_cli_make.specs.declared.fault.Fault.{Fault}
use Rattle.ndef_cli_make.proofs.Lists.{mapped_at, mapped_more}
use Rattle.ndef_cli_make.proofs.Made.{fails_within, made_both}

abbrev said : List Row → Property × Text → List Content
said rows option = words_as option.0 option.1 rows

-- the records of one option more
pub options_more : (payload : List ℕ) (rows : List Row) (options : List PropertyOption) (n : ℕ) (p : PropertyOption) (before after : List Item) → n < length options → p ≡ get_or options n p
    → AreMadeBy (MakesContent payload) (contents_by (map option_of (take n options)) rows) before → OnMade payload (words_as p.property p.id.now rows) before after (Ok tt)
    → AreMadeBy (MakesContent payload) (contents_by (map option_of (take (n + 1) options)) rows) after
options_more payload rows options n p before after l e are made =
    let front = contents_by (map option_of (take n options)) rows in
    let own = words_as p.property p.id.now rows in
    let is : contents_by (map option_of (take (n + 1) options)) rows ≡ front ++ own =
    ap (flat_map (said rows)) (mapped_more option_of options n p l e) ∙ flat_map-append (said rows) (map option_of (take n options)) (option_of p ∷ [])
    ∙ ap (λ t. front ++ t) (append-nil own) in
    subst (λ xs. AreMadeBy (MakesContent payload) xs after) (sym is) (subst (AreMadeBy (MakesContent payload) (front ++ own)) (sym made.2) (made_both (MakesContent payload) front own before made.0 are made.1))

-- an option of which a record isn't made
pub options_fail : (payload : List ℕ) (rows : List Row) (options : List PropertyOption) (n : ℕ) (p : PropertyOption) (before after : List Item) (fault : Fault) → n < length options → p ≡ get_or options n p
    → AreMadeBy (MakesContent payload) (contents_by (map option_of (take n options)) rows) before → OnMade payload (words_as p.property p.id.now rows) before after (Err fault)
    → FailsBy (MakesContent payload) (contents_by (map option_of options) rows) fault
options_fail payload rows options n p before after fault l e are fails =
    let split = mapped_at option_of options n p l e in
    let is = ap (flat_map (said rows)) split.1 ∙ flat_map-append (said rows) (map option_of (take n options)) (option_of p ∷ split.0) in
    subst (λ xs. FailsBy (MakesContent payload) xs fault) (sym is)
    (fails_within (MakesContent payload) (contents_by (map option_of (take n options)) rows) (words_as p.property p.id.now rows) (flat_map (said rows) split.0) before fault are fails)

-- all options
pub options_whole : (payload : List ℕ) (rows : List Row) (options : List PropertyOption) (n : ℕ) (items : List Item) → length options ≤ n
    → AreMadeBy (MakesContent payload) (contents_by (map option_of (take n options)) rows) items → AreMadeBy (MakesContent payload) (contents_by (map option_of options) rows) items
options_whole payload rows options n items l are = subst (λ qs. AreMadeBy (MakesContent payload) (contents_by (map option_of qs) rows) items) (take_all n options l) are
