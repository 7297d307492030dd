-- `==` of texts and alternative carriers is an equivalence, and equal ones are hashed alike.
use Rattle.std.specs.Cmp.{IsEquivalence, IsPartialEquivalence, and_equiv, on_equiv, partial_equiv_from_equiv, unsigned_Decides}
use Rattle.std.specs.Cmp.Lexicographic.{lists_equiv, nat_list_eq_equiv, pointwise_decides}
use Rattle.std.specs.Hash as fed
use Rattle.std.specs.Hash.{Alike, and-Alike, items_Alike, on_Alike, same_Alike}
use Rattle.std.specs.Prelude.{encode_utf8_all}
use Rattle.ndef_types.specs.Equality.{ac_eq, ac_hash, octets_eq, text_eq, text_hash}
use Rattle.ndef_types.specs.contracts.encoding.EncodingEq.TheImpl.Laws as encodings
use Rattle.ndef_types.specs.contracts.encoding.EncodingHash.TheImpl.Laws as encoding_hashes
use Rattle.ndef_types.specs.contracts.power.PowerEq.TheImpl.Laws as powers
use Rattle.ndef_types.specs.contracts.power.PowerHash.TheImpl.Laws as power_hashes

-- texts as octets
octets_alike : Alike octets_eq fed.str
octets_alike = same_Alike fed.str (pointwise_decides unsigned_Decides)

-- names and byte strings as octets
bytes_alike : Alike octets_eq (fed.slice fed.u8)
bytes_alike = items_Alike (same_Alike fed.u8 unsigned_Decides)

pub text_equiv : IsEquivalence text_eq
text_equiv =
    and_equiv (on_equiv (λ t. t.encoding) encodings.laws-law)
    (and_equiv (on_equiv (λ t. t.language) nat_list_eq_equiv)
    (on_equiv (λ t. encode_utf8_all t.text) nat_list_eq_equiv))

pub text_per : IsPartialEquivalence text_eq
text_per = partial_equiv_from_equiv text_equiv

pub text_alike : Alike text_eq text_hash
text_alike =
    and-Alike (on_Alike (λ t. t.encoding) (record { fed = encoding_hashes.respects_eq-law }))
    (and-Alike (on_Alike (λ t. t.language) octets_alike) (on_Alike (λ t. encode_utf8_all t.text) octets_alike))

pub ac_equiv : IsEquivalence ac_eq
ac_equiv =
    and_equiv (on_equiv (λ a. a.power) powers.laws-law)
    (and_equiv (on_equiv (λ a. a.reference) nat_list_eq_equiv)
    (and_equiv (on_equiv (λ a. a.auxiliary) (lists_equiv nat_list_eq_equiv))
    (on_equiv (λ a. a.rest) nat_list_eq_equiv)))

pub ac_per : IsPartialEquivalence ac_eq
ac_per = partial_equiv_from_equiv ac_equiv

pub ac_alike : Alike ac_eq ac_hash
ac_alike =
    and-Alike (on_Alike (λ a. a.power) (record { fed = power_hashes.respects_eq-law }))
    (and-Alike (on_Alike (λ a. a.reference) bytes_alike)
    (and-Alike (on_Alike (λ a. a.auxiliary) (items_Alike bytes_alike)) (on_Alike (λ a. a.rest) bytes_alike)))
