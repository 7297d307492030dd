-- Records that a strict reader takes in a nested message: their parts are octets, and their payloads those of their kinds.
use Rattle.std.proofs.Common.{◌≡◌, ℕ, zero, suc, ◌/◌, ◌<◌, ◌≤◌, ◌^◌, List, [], ◌∷◌, length, sym, subst, arith}
use Rattle.std.specs.Int.{byte_at, bytes_high_first}
use Rattle.std.specs.List.{AllByRecursion}
use Rattle.ndef_value.specs.ListLaws.{all_more}
use Rattle.ndef_format.specs.Canonical.{AreItems, IsItem}
use Rattle.ndef_format.specs.Kinds.{kind_name}
use Rattle.ndef_format.specs.Messages.{Item}
use Rattle.ndef_format.specs.Nested.{IsPayload, kind_in}
use Rattle.ndef_format.specs.Records.{AreOctets}
use Rattle.ndef_format.specs.declared.kind.Kind.{Kind}
use Rattle.ndef_format.specs.declared.profile.Profile.TheVariants.{Strict}
use Rattle.ndef_format.specs.declared.table.Table.{Table}
use Rattle.ndef_format.specs.declared.tnf.Tnf.TheVariants.{WellKnown}
use Rattle.ndef_lang.specs.Machine.LeafLaws.{payload_octets}
use Rattle.ndef_c.specs.Appending.{well_known}

-- a record of the nested message
pub record IsMember (table : Table) (i : Item) : Type 0 where
  pub item : IsItem i
  pub payload : IsPayload (kind_in table i.tnf i.kind) Strict i.payload

pub each_payload : (table : Table) (items : List Item) → AllByRecursion (IsMember table) items → AllByRecursion (λ i. IsPayload (kind_in table i.tnf i.kind) Strict i.payload) items
each_payload table items h = all_more (IsMember table) (λ i. IsPayload (kind_in table i.tnf i.kind) Strict i.payload) items (λ i m. m.payload) h

pub are_items : (table : Table) (i : Item) (items : List Item) → AllByRecursion (IsMember table) (i ∷ items) → length (i ∷ items) ≤ 65535 → AreItems (i ∷ items)
are_items table i items h few = record { some = omega arith; few = few; each = all_more (IsMember table) IsItem (i ∷ items) (λ j m. m.item) h }

-- ---- records of a kind

-- the name of the kind is that of the kind there
pub record IsNamed (table : Table) (kind : Kind) : Type 0 where
  pub kind_is : kind_in table WellKnown (kind_name kind) ≡ kind
  pub some : 0 < length (kind_name kind)
  pub few : length (kind_name kind) < 256
  pub octets : AreOctets (kind_name kind)

-- a payload of the kind, which leaves room in a record
pub record HasPayload (kind : Kind) (payload : List ℕ) : Type 0 where
  pub in_set : IsPayload kind Strict payload
  pub short : length payload < 2 ^ 32

pub member_of : (table : Table) (kind : Kind) (payload : List ℕ) → IsNamed table kind → HasPayload kind payload → IsMember table (well_known kind [] payload)
member_of table kind payload n p = record {
  item = record {
    shaped = record { changed = λ e. absurd (cc); shape = n.some };
    lengths = record { kind = n.few; id = omega arith; payload = p.short };
    kind = n.octets;
    id = tt;
    payload = payload_octets kind Strict payload p.in_set;
  };
  payload = subst (λ k. IsPayload k Strict payload) (sym n.kind_is) p.in_set;
}

-- ---- numbers

byte_small : (k n : ℕ) → byte_at k n < 256
byte_small zero n = omega arith
byte_small (suc k) n = let m = n / 256 ^ suc k in omega arith

pub number_octets : (k n : ℕ) → AreOctets (bytes_high_first k n)
number_octets zero n = tt
number_octets (suc k) n = (byte_small k n, number_octets k n)
