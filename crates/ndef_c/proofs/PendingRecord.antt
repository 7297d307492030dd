-- A record in one piece, its payload after the front of it.
use Rattle.std.proofs.Common.{◌≡◌, ℕ, Bool, false, List, [], ◌++◌, None, length, refl, sym, ap, ◌∙◌, append-nil, append_assoc}
use Rattle.ndef_format.specs.Messages.{Item}
use Rattle.ndef_format.specs.Records.{fields, octets}
use Rattle.ndef_piece.specs.Heads.{written_fields}
use Rattle.ndef_piece.specs.declared.head.Head.{Head}
use Rattle.ndef_message.specs.declared.form.Form.{Form}
use Rattle.ndef_message.specs.declared.form.Form.TheVariants.{Short}
use Rattle.ndef_message.specs.Cut.{first_piece}
use Rattle.ndef_message.specs.Written.{is_short, written_piece}
use Rattle.ndef_message.specs.WrittenLaws.{first_piece_is}
use Rattle.ndef_c.specs.Writes.{LastBegins, octets_of_piece, record_octets}

after_front : (head kind id part : List ℕ) → (head ++ (kind ++ (id ++ []))) ++ part ≡ head ++ (kind ++ (id ++ part))
after_front head kind id part = simp (append-nil, append_assoc)

-- the front of the piece, and the payload after it, are the octets of the record
pub whole_as : (form : Form) (first last : Bool) (m : Item) (head : Head) (part : List ℕ) → part ≡ m.payload
    → written_fields head ≡ fields (first_piece first last false m part) (is_short form (length part))
    → octets_of_piece head m.kind m.id [] ++ part ≡ record_octets form first last None m
whole_as form first last m head part e w =
    after_front (octets (written_fields head)) m.kind m.id part
    ∙ first_piece_is form first last false m part (written_fields head) m.kind m.id w refl refl
    ∙ sym (append-nil (written_piece form (first_piece first last false m part)))
    ∙ ap (λ p. written_piece form (first_piece first last false m p) ++ []) e

-- it begins with its last piece
pub whole_begins : (first last : Bool) (m : Item) → LastBegins Short first last None m 0
whole_begins first last m = record { done = []; piece = first_piece first last false m m.payload; pieces_are = refl; at_is = refl }
