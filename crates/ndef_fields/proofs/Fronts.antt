-- The fields of a front of a piece.
use Rattle.std.proofs.Common.{◌≡◌, ℕ, Bool, refl, sym, List, [], ◌++◌, take, drop, append_assoc}
use Rattle.std.specs.Prelude.{unwrap_or}
use Rattle.ndef_format.specs.Records.{HeadFields, Piece, SpellsPiece, body, fields, octets}
use Rattle.ndef_piece.specs.Come.{HasParts, id_come, id_length_come, kind_come, payload_length_come}
use Rattle.ndef_piece.specs.ComeLaws.{Come, come, piece_spelled}
use Rattle.ndef_piece.specs.HeaderLaws.{id_count}
use Rattle.ndef_piece.specs.declared.front.PieceFront.{PieceFront}
use Rattle.ndef_fields.specs.declared.name.FieldName.TheVariants as names
use Rattle.ndef_fields.specs.Fronts.{front_parts}
use Rattle.ndef_fields.specs.Messages.{head_parts, piece_parts}
use Rattle.ndef_fields.specs.Parts.{Part, reported}
use Rattle.ndef_fields.specs.Walks.{head_left}

-- the parts of a piece of which these have come
pub parts_come : (depth : ℕ) (f : HeadFields) (kind id content s z : List ℕ) (payload : List Part) → s ≡ octets f ++ z → Come f kind id content (octets f ++ z)
    → front_parts depth s payload ≡ head_parts depth f kind id payload
parts_come depth f kind id content s z payload e c = rw e (rw (c.payload_length, c.id_length, c.kind_is, c.id_is) refl)

-- the fields of a whole piece are those of its front
pub whole_front : (depth : ℕ) (p : Piece) (short : Bool) (bytes : List ℕ) (payload : List Part) → SpellsPiece p short bytes
    → front_parts depth bytes payload ≡ piece_parts depth p short payload
whole_front depth p short bytes payload s =
    parts_come depth (fields p short) p.kind (unwrap_or p.id []) p.payload bytes (body p) payload s.spelled
    (come (fields p short) p.kind (unwrap_or p.id []) p.payload (piece_spelled p short bytes s) refl (sym (id_count p.id)))

-- the parts of the head are those of a front
pub head_front : (depth : ℕ) (f : PieceFront) (payload : List Part) → HasParts f.octets.now f → head_left depth 6 f payload ≡ front_parts depth f.octets.now payload
head_front depth f payload h = rw (h.kind, h.id) refl

-- ---- what follows a front

apart : (a b c d e f x y : List Part) → (a ++ (b ++ (c ++ (d ++ (e ++ (f ++ x)))))) ++ y ≡ a ++ (b ++ (c ++ (d ++ (e ++ (f ++ (x ++ y))))))
apart a b c d e f x y = simp append_assoc

pub front_after : (depth : ℕ) (s : List ℕ) (x y : List Part) → front_parts depth s x ++ y ≡ front_parts depth s (x ++ y)
front_after depth s x y =
    apart
    (reported depth names.Header (take 1 s))
    (reported depth names.KindLength (take 1 (drop 1 s)))
    (reported depth names.PayloadLength (payload_length_come s))
    (reported depth names.IdLength (id_length_come s))
    (reported depth names.Kind (kind_come s))
    (reported depth names.Id (id_come s))
    x y
