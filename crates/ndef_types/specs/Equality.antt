-- The equality of texts and of alternative carriers, and the octets that are hashed for it.
use Rattle.std.specs.Prelude.{◌≡◌, ◌==◌, ◌↔◌, ◌++◌, Bool, ℕ, List, IsTrue, encode_utf8_all}
use Rattle.std.specs.Cmp.Lexicographic.{pointwise}
use Rattle.std.specs.Hash as fed
use Rattle.std.specs.Hash.{HashWrites}
use Rattle.std.specs.Ordering.{eq_of_both, on}
use Rattle.ndef_types.specs.Values.{TextValue, AcValue}
use Rattle.ndef_types.specs.contracts.encoding.EncodingHash.TheImpl as encoding_hashes
use Rattle.ndef_types.specs.contracts.encoding.EncodingPartialEq.TheImpl as encodings
use Rattle.ndef_types.specs.contracts.power.PowerHash.TheImpl as power_hashes
use Rattle.ndef_types.specs.contracts.power.PowerPartialEq.TheImpl as powers

-- octet for octet
abbrev pub octets_eq : List ℕ → List ℕ → Bool
octets_eq = pointwise ◌==◌

-- RTD Text 1.0: the encoding, the language code and the text, in octets of UTF-8, are equal
abbrev pub text_eq : TextValue → TextValue → Bool
text_eq = eq_of_both (on (λ t. t.encoding) encodings.ghosts.eq)
    (eq_of_both (on (λ t. t.language) octets_eq) (on (λ t. encode_utf8_all t.text) octets_eq))

-- RTD Text 1.0: the encoding, the language code and the text
abbrev pub text_hash : TextValue → HashWrites
text_hash t =
    encoding_hashes.ghosts.hash_input t.encoding
    ++ (fed.str t.language ++ fed.str (encode_utf8_all t.text))

-- Connection Handover 1.2, Alternative Carrier record: the power state, the references and the
-- octets after them are equal
abbrev pub ac_eq : AcValue → AcValue → Bool
ac_eq = eq_of_both (on (λ a. a.power) powers.ghosts.eq)
    (eq_of_both (on (λ a. a.reference) octets_eq)
    (eq_of_both (on (λ a. a.auxiliary) (pointwise octets_eq)) (on (λ a. a.rest) octets_eq)))

-- Connection Handover 1.2, Alternative Carrier record: the power state, the references and the
-- octets after them
abbrev pub ac_hash : AcValue → HashWrites
ac_hash a =
    power_hashes.ghosts.hash_input a.power ++ (fed.slice fed.u8 a.reference
    ++ (fed.slice (fed.slice fed.u8) a.auxiliary ++ fed.slice fed.u8 a.rest))

-- ---- laws

-- Texts are equal exactly where they have the same encoding, language code and characters.
abbrev pub EqualTextsAreSame : Type 0
EqualTextsAreSame = (t u : TextValue) → IsTrue (text_eq t u) ↔ (t ≡ u)

-- Alternative carriers are equal exactly where all their parts are the same.
abbrev pub EqualAlternativesAreSame : Type 0
EqualAlternativesAreSame = (a b : AcValue) → IsTrue (ac_eq a b) ↔ (a ≡ b)
