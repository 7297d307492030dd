-- Payloads in one chunk, or in several.
use Rattle.std.proofs.Common.{◌≡◌, ℕ, true, false, refl, sym, ◌∙◌, ap, ap₂, List, [], ◌∷◌, ◌++◌, Option, Some, None, Bor}
use Rattle.std.specs.Prelude.{is_some, option_map}
use Rattle.std.proofs.lemmas.Grind.{flat_map-append}
use Rattle.std.proofs.lemmas.List.{map-append}
use Rattle.ndef_format.specs.Messages.{Item}
use Rattle.ndef_format.specs.Records.{Piece}
use Rattle.ndef_message.specs.Views.{only_payload}
use Rattle.ndef_cli_explain.specs.Forms.{Form, shown_by}
use Rattle.ndef_cli_explain.specs.OfEach.{Puts}
use Rattle.ndef_cli_explain.specs.Outputs.{with_either}
use Rattle.ndef_cli_explain.specs.Payloads.{AddsJoined, AreJoinedBy, Joined, payload_object, payload_objects, payload_text, payload_texts, with_payloads}
use Rattle.ndef_cli_explain.specs.declared.output.Output.{Output}
use Rattle.ndef_cli_explain.proofs.OutputParts.{either_more, either_none}

-- payloads, and then others
pub payloads_more : (form : Form) (out : Output) (one more : List Joined) → with_payloads form out (one ++ more) ≡ with_payloads form (with_payloads form out one) more
payloads_more form out one more =
    let shown = shown_by form in
    ap₂ (with_either form out) (flat_map-append (payload_text shown) one more) (map-append payload_object one more)
    ∙ either_more form out (payload_texts shown one) (payload_texts shown more) (payload_objects one) (payload_objects more)

pub map_some : (o : Option (Bor (List ℕ))) → is_some (option_map (λ s. s.now) o) ≡ is_some o
map_some None = refl
map_some (Some s) = refl

whole_by : (number : ℕ) (item : Item) (p : Piece) (later : List Piece) (o : Option (List ℕ)) → o ≡ only_payload (p ∷ later) → is_some o ≡ true → AreJoinedBy number item later []
whole_by number item p [] o e h = refl
whole_by number item p (q ∷ later) o e h = absurd (let k : true ≡ false = sym h ∙ ap is_some e in cc)

-- of a payload in one chunk nothing is put
pub whole : (form : Form) (number : ℕ) (item : Item) (p : Piece) (later : List Piece) (old : Output) (o : Option (List ℕ)) → o ≡ only_payload (p ∷ later) → is_some o ≡ true
    → Puts (with_payloads form) (AreJoinedBy number item later) old old
whole form number item p later old o e h = ([], whole_by number item p later o e h, sym (either_none form old))

-- of one in several chunks the payload
pub several : (form : Form) (number : ℕ) (item : Item) (p : Piece) (later : List Piece) (old new : Output) (o : Option (List ℕ)) → o ≡ only_payload (p ∷ later) → is_some o ≡ false
    → AddsJoined form number item old new → Puts (with_payloads form) (AreJoinedBy number item later) old new
several form number item p [] old new o e h adds = absurd (let k : true ≡ false = sym (ap is_some e) ∙ h in cc)
several form number item p (q ∷ later) old new o e h (one, is, n) = (one ∷ [], (one, is, refl), n)
