-- The bytes of fields that follow one another, joined.
use Rattle.std.proofs.Common.{◌≡◌, ◌∙◌, ◌+◌, ℕ, List, [], ◌∷◌, ◌++◌, append-nil, append_assoc, length, take, drop, ap, sym, arith}
use Rattle.std.proofs.Math.Seq.{take-add}
use Rattle.std.proofs.lemmas.List.{take_all}
use Rattle.ndef_format.specs.Limits.{LimitValues}
use Rattle.ndef_format.specs.declared.kind.Kind.{Kind}
use Rattle.ndef_fields.specs.declared.field.Field.{Field}
use Rattle.ndef_fields.specs.FieldLaws.{AreGapless, bytes_of_field, joined_bytes}
use Rattle.ndef_fields.specs.Reports.{AreFields, AreFieldsBefore, ArePayloadFields}
use Rattle.ndef_fields.proofs.FrontLaws.{fields_follow, front_fields_follow, payload_fields_follow}

-- the bytes before a field, and its own
field_on : (bytes : List ℕ) (at : ℕ) (f : Field) → f.at ≡ at → take at bytes ++ bytes_of_field bytes f ≡ take (at + f.length) bytes
field_on bytes at f is = ap (λ n. take at bytes ++ take f.length (drop n bytes)) is ∙ sym (take-add at f.length bytes)

-- the bytes before fields, and theirs
fields_on : (bytes : List ℕ) (at : ℕ) (fs : List Field) (end : ℕ) → AreGapless at fs end → take at bytes ++ joined_bytes bytes fs ≡ take end bytes
fields_on bytes at [] end is = append-nil (take at bytes) ∙ ap (λ n. take n bytes) is
fields_on bytes at (f ∷ fs) end is =
    sym (append_assoc (take at bytes) (bytes_of_field bytes f) (joined_bytes bytes fs))
    ∙ ap (λ xs. xs ++ joined_bytes bytes fs) (field_on bytes at f is.0) ∙ fields_on bytes (at + f.length) fs end is.2

pub fields_are_message : (limits : LimitValues) (input : List ℕ) (reported : List Field) (a : AreFields limits input reported) → joined_bytes input reported ≡ take a.count input
fields_are_message limits input reported a = fields_on input 0 reported a.count (fields_follow limits input reported a)

pub fields_are_front : (bytes : List ℕ) (reported : List Field) → AreFieldsBefore bytes reported → joined_bytes bytes reported ≡ bytes
fields_are_front bytes reported a = fields_on bytes 0 reported (length bytes) (front_fields_follow bytes reported a) ∙ take_all (length bytes) bytes (omega arith)

pub fields_are_payload : (kind : Kind) (payload : List ℕ) (reported : List Field) → ArePayloadFields kind payload reported → joined_bytes payload reported ≡ payload
fields_are_payload kind payload reported a =
    fields_on payload 0 reported (length payload) (payload_fields_follow kind payload reported a) ∙ take_all (length payload) payload (omega arith)
