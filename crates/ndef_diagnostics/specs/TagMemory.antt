-- The place of a message in the memory of a tag.
use Rattle.std.specs.Prelude.{◌≡◌, ℕ, ◌+◌, ◌*◌, ◌-◌, ◌/◌, ◌%◌, ◌^◌, ◌<◌, ◌==◌, ◌||◌, ◌&&◌, ◌⊎◌, ◌↔◌, Bool, true, false, List, Option, Some, None, length, nat_le, nat_lt, slice_index, sum, take, if◌then◌else◌}
use Rattle.std.specs.Bool.{IsTrue}
use Rattle.std.specs.Option.{option_or}
use Rattle.ndef_diagnostics.specs.declared.tag_memory.Found.{Found}
use Rattle.ndef_diagnostics.specs.declared.tag_memory.Wrapping.{Wrapping}
use Rattle.ndef_diagnostics.specs.declared.tag_memory.Wrapping.TheVariants.{Block, Attributes, File, Interrupted, Unfinished}

-- ---- TLV blocks

-- NFC Forum, Type 2 Tag, TLV blocks: the length of a block has three octets, of which the first is FF, or one
abbrev pub is_long_block : List ℕ → (place : ℕ) → Bool
is_long_block bytes place = slice_index bytes (place + 1) == 0xFF

-- NFC Forum, Type 2 Tag, TLV blocks: the value of the block at a place begins here
abbrev pub value_at : List ℕ → (place : ℕ) → ℕ
value_at bytes place = if is_long_block bytes place then place + 4 else place + 2

-- NFC Forum, Type 2 Tag, TLV blocks: the number that two octets spell
abbrev pub two_octets : List ℕ → (place : ℕ) → ℕ
two_octets bytes place = 256 * slice_index bytes place + slice_index bytes (place + 1)

-- NFC Forum, Type 2 Tag, TLV blocks: the length of that value
abbrev pub value_length : List ℕ → (place : ℕ) → ℕ
value_length bytes place =
    if is_long_block bytes place then two_octets bytes (place + 2) else slice_index bytes (place + 1)

-- NFC Forum, Type 2 Tag, TLV blocks: the block after that at a place; a NULL block is one octet
abbrev pub next_block : List ℕ → (place : ℕ) → ℕ
next_block bytes place =
    if slice_index bytes place == 0 then place + 1 else value_at bytes place + value_length bytes place

-- NFC Forum, Type 2 Tag, TLV blocks: NULL, lock control, memory control or proprietary, which a reader passes over
abbrev pub is_passed : (tag : ℕ) → Bool
is_passed tag = (tag == 0) || (tag == 1) || (tag == 2) || (tag == 0xFD)

-- NFC Forum, Type 2 Tag, TLV blocks: who passes over blocks from one place on comes to another
pub data Reaches (bytes : List ℕ) : (place other : ℕ) → Type 0 where
  here : {place : ℕ} → Reaches bytes place place
  past : {place other : ℕ} → place < length bytes → is_passed (slice_index bytes place) ≡ true
      → Reaches bytes (next_block bytes place) other → Reaches bytes place other

-- NFC Forum, Type 2 Tag, TLV blocks: no block is passed over at a place
abbrev pub Stops : (bytes : List ℕ) → (place : ℕ) → Type 0
Stops bytes place = place < length bytes → is_passed (slice_index bytes place) ≡ true → ⊥

-- NFC Forum, Type 2 Tag, NDEF message TLV: the first one, of the blocks from a place on, is at this place
pub record IsMessageBlock (bytes : List ℕ) (start place : ℕ) : Type 0 where
  pub reached : Reaches bytes start place
  pub inside : place < length bytes
  pub tag : slice_index bytes place ≡ 3

-- NFC Forum, Type 1 Tag and Type 2 Tag, capability container: a version from 1.0 to 1.3
abbrev pub is_version : (octet : ℕ) → Bool
is_version octet = nat_le 0x10 octet && nat_le octet 0x13

-- NFC Forum, Type 1 Tag and Type 2 Tag, capability container: its first two octets, the second its version, at a place
abbrev pub is_container : List ℕ → (place : ℕ) → Bool
is_container bytes place = (slice_index bytes place == 0xE1) && is_version (slice_index bytes (place + 1))

-- NFC Forum, Type 1 Tag and Type 2 Tag, memory structure: the first one lies here, at most 16 octets after the first
-- octet of a tag, or there is none
abbrev pub IsFirstContainer : List ℕ → Option ℕ → Type 0
IsFirstContainer bytes (Some place) =
    (place < 17) × (is_container bytes place ≡ true)
    × ((other : ℕ) → other < place → is_container bytes other ≡ false)
IsFirstContainer bytes None = (place : ℕ) → place < 17 → is_container bytes place ≡ false

-- NFC Forum, Type 5 Tag, capability container: its first octet
abbrev pub is_type_5 : List ℕ → Bool
is_type_5 bytes = (slice_index bytes 0 == 0xE1) || (slice_index bytes 0 == 0xE2)

-- NFC Forum, Type 5 Tag, capability container: eight octets where the third is 0, else four
abbrev pub type_5_length : List ℕ → ℕ
type_5_length bytes = if slice_index bytes 2 == 0 then 8 else 4

-- NFC Forum, Type 1 Tag, Type 2 Tag and Type 5 Tag: the blocks begin after the capability container, or at once
abbrev pub blocks_at : (container : Option ℕ) → List ℕ → ℕ
blocks_at (Some place) bytes = place + 4
blocks_at None bytes = if is_type_5 bytes then type_5_length bytes else 0

-- ---- areas of a tag's memory that are no part of a message

-- NFC Forum, Type 2 Tag, lock control TLV and memory control TLV: the block at a place states an area
abbrev pub is_control : List ℕ → (place : ℕ) → Bool
is_control bytes place =
    (slice_index bytes place == 1 || slice_index bytes place == 2) && (value_length bytes place == 3)

-- NFC Forum, Type 2 Tag, lock control TLV and memory control TLV: the bytes of a page, by the value at a place
abbrev pub page_size : List ℕ → (at : ℕ) → ℕ
page_size bytes at = 2 ^ (slice_index bytes (at + 2) % 16)

-- NFC Forum, Type 2 Tag, lock control TLV and memory control TLV: the address of the area, by the value at a place
abbrev pub area_address : List ℕ → (at : ℕ) → ℕ
area_address bytes at = slice_index bytes at / 16 * page_size bytes at + slice_index bytes at % 16

-- NFC Forum, Type 2 Tag, lock control TLV and memory control TLV: the size as the block states it, where 0 is 256
abbrev pub area_size : (octet : ℕ) → ℕ
area_size octet = if octet == 0 then 256 else octet

-- NFC Forum, Type 2 Tag, lock control TLV and memory control TLV: the bytes of the area; lock control states bits
abbrev pub area_length : (tag size : ℕ) → ℕ
area_length tag size = if tag == 1 then (size + 7) / 8 else size

-- NFC Forum, Type 1 Tag and Type 2 Tag, memory structure: the blocks begin at address 12 or 16, so that an area of this
-- address and length may meet the bytes from the first block, at start, up to a place
abbrev pub meets : (start until address length : ℕ) → Bool
meets start until address length = nat_lt (start + address) (until + 16) && nat_lt 12 (address + length)

-- NFC Forum, Type 2 Tag, lock control TLV and memory control TLV: the area of the value at a place may meet those bytes
abbrev pub is_met : List ℕ → (start until place at : ℕ) → Bool
is_met bytes start until place at =
    meets start until (area_address bytes at)
    (area_length (slice_index bytes place) (area_size (slice_index bytes (at + 1))))

-- NFC Forum, Type 2 Tag, lock control TLV and memory control TLV: the block at a place states an area that may do so
abbrev pub states_area : List ℕ → (start until place : ℕ) → Bool
states_area bytes start until place =
    is_control bytes place && is_met bytes start until place (value_at bytes place)

-- NFC Forum, Type 2 Tag, lock control TLV and memory control TLV: of the blocks from a place on that a reader passes
-- over, which all come before that for a message, one states an area that may meet those bytes
pub record HasArea (bytes : List ℕ) (start until place : ℕ) : Type 0 where
  pub block : ℕ
  pub reached : Reaches bytes place block
  pub inside : block < length bytes
  pub states : states_area bytes start until block ≡ true

-- NFC Forum, Type 1 Tag, dynamic memory structure: the blocks begin 12 to 15 octets after the first octet, and the
-- container states more than the 120 bytes of a static memory
abbrev pub is_dynamic : List ℕ → (start : ℕ) → Bool
is_dynamic bytes start = nat_le 12 start && nat_le start 15 && nat_le 0x0F (slice_index bytes (start - 2))

-- NFC Forum, Type 1 Tag, dynamic memory structure: its reserved blocks, D to F, at addresses 104 to 127, begin before
-- a place
abbrev pub has_reserved_block : List ℕ → (start until : ℕ) → Bool
has_reserved_block bytes start until = is_dynamic bytes start && nat_lt (start + 92) until

-- NFC Forum, Type 1 Tag and Type 2 Tag, memory structure: reserved areas may lie between the first block and a place
abbrev pub IsCut : List ℕ → (start until : ℕ) → Type 0
IsCut bytes start until = HasArea bytes start until start ⊎ (has_reserved_block bytes start until ≡ true)

-- NFC Forum, Type 2 Tag, NDEF message TLV: the end of the message of the block at a place
abbrev pub message_end : List ℕ → (place : ℕ) → ℕ
message_end bytes place = value_at bytes place + value_length bytes place

-- NFC Forum, Type 1 Tag and Type 2 Tag, memory structure: whether reserved areas may lie among the blocks up to the end
-- of a message in one of them
abbrev pub TellsCut : List ℕ → (start : ℕ) → (block : Option ℕ) → (cut : Bool) → Type 0
TellsCut bytes start (Some place) cut = IsTrue cut ↔ IsCut bytes start (message_end bytes place)
TellsCut bytes start None cut = cut ≡ false

-- ---- the bytes that a tag has for a message

-- NDEF 1.0, MB: set in the first octet of a message
abbrev pub is_begun : (octet : ℕ) → Bool
is_begun octet = nat_le 0x80 octet

-- NFC Forum, Type 2 Tag, NDEF message TLV: the block at a place has no bytes for a message, and its length is there
abbrev pub is_empty : List ℕ → (place : ℕ) → Bool
is_empty bytes place = (value_length bytes place == 0) && nat_le (value_at bytes place) (length bytes)

-- NFC Forum, Type 2 Tag, NDEF message TLV: the bytes around a message in a block, which reserved areas may cut
abbrev pub block_wrapping : (cut : Bool) → Wrapping
block_wrapping cut = if cut then Interrupted else Block

-- NFC Forum, Type 2 Tag, NDEF message TLV: the bytes that the block at a place has for a message, which may be none
abbrev pub in_block : (cut : Bool) → List ℕ → (place : ℕ) → Option Found
in_block cut bytes place =
    if is_begun (slice_index bytes (value_at bytes place)) || is_empty bytes place
    then Some (record {
      wrapping = block_wrapping cut;
      at = value_at bytes place;
      length = value_length bytes place;
    })
    else None

-- NFC Forum, Type 3 Tag, attribute information block: its version, 1.0 or 1.1
abbrev pub is_attribute_version : (octet : ℕ) → Bool
is_attribute_version octet = (octet == 0x10) || (octet == 0x11)

-- NFC Forum, Type 3 Tag, attribute information block: the last two of its 16 octets are the sum of the others
abbrev pub has_attributes : List ℕ → Bool
has_attributes bytes = is_attribute_version (slice_index bytes 0) && (sum (take 14 bytes) == two_octets bytes 14)

-- NFC Forum, Type 3 Tag, attribute information block: WriteF is 0 where the message is whole
abbrev pub attribute_wrapping : (write : ℕ) → Wrapping
attribute_wrapping write = if write == 0 then Attributes else Unfinished

-- NFC Forum, Type 3 Tag, attribute information block: the length of the message after it
abbrev pub after_attributes : List ℕ → Found
after_attributes bytes =
    record {
      wrapping = attribute_wrapping (slice_index bytes 9);
      at = 16;
      length = 65536 * slice_index bytes 11 + two_octets bytes 12;
    }

-- NFC Forum, Type 4 Tag, NDEF file: a message with its length before it fills these bytes, or leaves some of them
abbrev pub fits : (whole : Bool) → (size all : ℕ) → Bool
fits whole size all = if whole then size == all else nat_le size all

-- NFC Forum, Type 4 Tag, NDEF file: a message of this length, at least 1, begins at a place
abbrev pub file_at : (whole : Bool) → List ℕ → (at size : ℕ) → Option Found
file_at whole bytes at size =
    if nat_le 1 size && fits whole (at + size) (length bytes) && is_begun (slice_index bytes at)
    then Some (record { wrapping = File; at = at; length = size })
    else None

-- NFC Forum, Type 4 Tag, NDEF file: the number that its first four octets spell
abbrev pub four_octets : List ℕ → ℕ
four_octets bytes = 65536 * two_octets bytes 0 + two_octets bytes 2

-- NFC Forum, Type 4 Tag, NDEF file: a length of two octets or, since mapping version 3.0, of four, and a message
abbrev pub in_file : (whole : Bool) → List ℕ → Option Found
in_file whole bytes =
    option_or (file_at whole bytes 2 (two_octets bytes 0)) (file_at whole bytes 4 (four_octets bytes))

-- NFC Forum, Type 2 Tag, NDEF message TLV: the place of the first such block from a place on, if there is one
abbrev pub IsFirstBlock : List ℕ → (start : ℕ) → Option ℕ → Type 0
IsFirstBlock bytes start (Some place) = IsMessageBlock bytes start place
IsFirstBlock bytes start None = (place : ℕ) → ¬ IsMessageBlock bytes start place

-- NFC Forum, Type 1 Tag and Type 2 Tag, memory structure: bytes that begin with a control TLV, or with two NULL TLVs
-- and one, or that have a capability container where these tags have it
abbrev pub is_memory : List ℕ → Bool
is_memory bytes =
    is_control bytes 0 || is_control bytes 2 || is_container bytes 8 || is_container bytes 10 || is_container bytes 12

-- NFC Forum, Type 4 Tag, NDEF file: what a file that is longer than it says has for a message; a tag's memory is none
abbrev pub in_longer_file : List ℕ → Option Found
in_longer_file bytes = if is_memory bytes then None else in_file false bytes

-- NFC Forum, Type 3 Tag and Type 4 Tag: what a tag's memory, or one of its files, has for a message without a block
abbrev pub in_other : List ℕ → Option Found
in_other bytes = if has_attributes bytes then Some (after_attributes bytes) else in_longer_file bytes

-- NFC Forum, Type 1 to Type 5 Tag: the bytes that it has for a message where no file of them is whole, by that block
abbrev pub in_blocks : Option ℕ → (cut : Bool) → List ℕ → Option Found
in_blocks (Some place) cut bytes = option_or (in_block cut bytes place) (in_other bytes)
in_blocks None cut bytes = in_other bytes

-- NFC Forum, Type 1 to Type 5 Tag: the bytes that it has for a message; those of a file that is as long as it says come
-- before all others
abbrev pub found_by : Option ℕ → (cut : Bool) → List ℕ → Option Found
found_by block cut bytes = option_or (in_file true bytes) (in_blocks block cut bytes)

-- the bytes that are looked at: 16 MiB
abbrev pub front : List ℕ → List ℕ
front bytes = take 16777216 bytes

-- NFC Forum, Type 1 to Type 5 Tag: those are the bytes that these have for a message
pub record Finds (bytes : List ℕ) (found : Option Found) : Type 0 where
  pub container : Option ℕ
  pub is_container : IsFirstContainer (front bytes) container
  pub block : Option ℕ
  pub is_block : IsFirstBlock (front bytes) (blocks_at container (front bytes)) block
  pub cut : Bool
  pub is_cut : TellsCut (front bytes) (blocks_at container (front bytes)) block cut
  pub found_is : found ≡ found_by block cut (front bytes)
