-- The octets of a record, piece after piece.
use Rattle.std.proofs.Common.{◌≡◌, ◌<◌, ◌≤◌, ◌==◌, ◌^◌, ℕ, Bool, false, List, [], ◌∷◌, ◌++◌, Option, Some, None, ◌&&◌, not, length, take, drop, refl, sym, ap, ap₂, ◌∙◌, arith, append-nil, append_assoc}
use Rattle.std.specs.Prelude.{unwrap_or}
use Rattle.std.specs.List.{flat_map}
use Rattle.std.proofs.lemmas.Grind.{flat_map-append}
use Rattle.ndef_format.specs.Messages.{Item, all_pieces}
use Rattle.ndef_format.specs.Records.{Piece, fields, pieces}
use Rattle.ndef_format.specs.Canonical.{is_nil}
use Rattle.ndef_piece.specs.Heads.{written_fields}
use Rattle.ndef_piece.specs.declared.head.Head.{Head}
use Rattle.ndef_message.specs.declared.form.Form.{Form}
use Rattle.ndef_message.specs.Cut.{first_piece, later_piece, later_pieces, all_parts, cut_run, cut_runs, none_left}
use Rattle.ndef_message.specs.CutLaws.{all_parts-none, all_parts-some, none_left-all_parts}
use Rattle.ndef_message.specs.Written.{written_piece, is_short}
use Rattle.ndef_message.specs.WrittenLaws.{first_piece_is, later_is, first-step, later-step, whole_run}
use Rattle.ndef_c.specs.Writes.{LastBegins, octets_of_piece, record_octets, octets_by, one_by_one, asked_octets, form_of, is_first, is_last, size_of}
use Rattle.ndef_c.specs.declared.writing.NdefWriting.{NdefWriting}
use Rattle.ndef_c.specs.declared.writing.Placement.{Placement}

-- the octets of what is left of a payload
abbrev pub left_octets : Form → Bool → ℕ → List ℕ → List ℕ
left_octets form last size rest = flat_map (written_piece form) (later_pieces last (all_parts size rest))

pub first_octets : (form : Form) (first last alone : Bool) (size : ℕ) (m : Item) (head : Head) (part rest : List ℕ) → 1 ≤ size → part ≡ take size m.payload → rest ≡ drop size m.payload → alone ≡ (length rest == 0)
    → written_fields head ≡ fields (first_piece first (alone && last) (not alone) m part) (is_short form (length part))
    → octets_of_piece head m.kind m.id part ++ left_octets form last size rest ≡ record_octets form first last (Some size) m
first_octets form first last alone size m head part rest h e f n w =
    ap (λ x. x ++ left_octets form last size rest) (first_piece_is form first (alone && last) (not alone) m part (written_fields head) m.kind m.id w refl refl)
    ∙ first-step form first last alone size m m.payload part rest h refl e f n

pub later_octets : (form : Form) (last ends : Bool) (size : ℕ) (rest part later : List ℕ) (head : Head) → 1 ≤ size → 0 < length rest → part ≡ take size rest → later ≡ drop size rest → ends ≡ (length later == 0)
    → written_fields head ≡ fields (later_piece (ends && last) (not ends) part) (is_short form (length part))
    → octets_of_piece head [] [] part ++ left_octets form last size later ≡ left_octets form last size rest
later_octets form last ends size rest part later head h some e f n w =
    ap (λ x. x ++ left_octets form last size later) (later_is form (ends && last) (not ends) part (written_fields head) w)
    ∙ later-step form last ends size rest part later h some e f n

-- the records one after another are those of the message
pub records_joined : (first : Bool) (form : Form) (size : Option ℕ) (m : List Item) → one_by_one form first size m ≡ flat_map (written_piece form) (all_pieces (cut_runs first size m))
records_joined first form size [] = refl
records_joined first form size (m ∷ ms) =
    ap (λ x. record_octets form first (is_nil ms) size m ++ x) (records_joined false form size ms)
    ∙ sym (flat_map-append (written_piece form) (pieces (cut_run first (is_nil ms) size m)) (all_pieces (cut_runs false size ms)))

-- a size that no payload goes beyond is none
pub run_most : (first last : Bool) (size : Option ℕ) (most : ℕ) (m : Item) → most ≡ unwrap_or size 4294967295 → length m.payload < 2 ^ 32 → cut_run first last (Some most) m ≡ cut_run first last size m
run_most first last None most m e small = whole_run first last most m (omega arith) small
run_most first last (Some size) most m e small = ap (λ n. cut_run first last (Some n) m) e

pub octets_most : (form : Form) (first last : Bool) (size : Option ℕ) (most : ℕ) (m : Item) → most ≡ unwrap_or size 4294967295 → length m.payload < 2 ^ 32
    → record_octets form first last (Some most) m ≡ record_octets form first last size m
octets_most form first last size most m e small = ap (λ r. flat_map (written_piece form) (pieces r)) (run_most first last size most m e small)

-- what is written so is what is asked
pub asked_by : (how : NdefWriting) (way : Placement) (m : Item) → way.first ≡ is_first how → way.last ≡ is_last how → way.form ≡ form_of how → way.size ≡ unwrap_or (size_of how) 4294967295 → length m.payload < 2 ^ 32
    → octets_by way m ≡ asked_octets how m
asked_by how way m f l o s small =
    ap (λ x. record_octets x way.first way.last (Some way.size) m) o
    ∙ ap₂ (λ x y. record_octets (form_of how) x y (Some way.size) m) f l
    ∙ octets_most (form_of how) (is_first how) (is_last how) (size_of how) way.size m s small

-- ---- where the last piece begins

-- of the pieces of a record these octets are written, the last of them from a place on, and so much is left of its payload
pub record Cutting (form : Form) (first last : Bool) (size : ℕ) (m : Item) (rest done : List ℕ) (at : ℕ) : Type 0 where
  pub reported : List Piece
  pub piece : Piece
  pub pieces_are : pieces (cut_run first last (Some size) m) ≡ reported ++ piece ∷ later_pieces last (all_parts size rest)
  pub written : done ≡ flat_map (written_piece form) (reported ++ piece ∷ [])
  pub at_is : at ≡ length (flat_map (written_piece form) reported)

pub cutting_at : (form : Form) (first last alone : Bool) (size : ℕ) (m : Item) (head : Head) (part rest : List ℕ) → 1 ≤ size → part ≡ take size m.payload → rest ≡ drop size m.payload → alone ≡ (length rest == 0)
    → written_fields head ≡ fields (first_piece first (alone && last) (not alone) m part) (is_short form (length part)) → Cutting form first last size m rest (octets_of_piece head m.kind m.id part) 0
cutting_at form first last alone size m head part rest h e f n w =
    let none : alone ≡ none_left (all_parts size rest) = n ∙ sym (none_left-all_parts size rest h) in
    let piece = first_piece first (alone && last) (not alone) m part in
    record {
      reported = [];
      piece = piece;
      pieces_are = sym (
          ap (λ b. first_piece first (b && last) (not b) m part ∷ later_pieces last (all_parts size rest)) none
          ∙ ap₂ (λ p l. first_piece first (none_left (all_parts size l) && last) (not (none_left (all_parts size l))) m p ∷ later_pieces last (all_parts size l)) e f);
      written = first_piece_is form first (alone && last) (not alone) m part (written_fields head) m.kind m.id w refl refl ∙ sym (append-nil (written_piece form piece));
      at_is = refl;
    }

pub cutting_on : {form : Form} {first last : Bool} {size : ℕ} {m : Item} {rest done : List ℕ} {at : ℕ} (ends : Bool) (part later : List ℕ) (head : Head) → Cutting form first last size m rest done at → 1 ≤ size → 0 < length rest
    → part ≡ take size rest → later ≡ drop size rest → ends ≡ (length later == 0) → written_fields head ≡ fields (later_piece (ends && last) (not ends) part) (is_short form (length part))
    → Cutting form first last size m later (done ++ octets_of_piece head [] [] part) (length done)
cutting_on {form} {first} {last} {size} {m} {rest} {done} {at} ends part later head c h some e f n w =
    let none : ends ≡ none_left (all_parts size later) = n ∙ sym (none_left-all_parts size later h) in
    let piece = later_piece (ends && last) (not ends) part in
    let step : later_pieces last (all_parts size rest) ≡ piece ∷ later_pieces last (all_parts size later) =
    ap (later_pieces last) (all_parts-some size rest h some)
    ∙ sym (ap (λ b. later_piece (b && last) (not b) part ∷ later_pieces last (all_parts size later)) none
    ∙ ap₂ (λ p l. later_piece (none_left (all_parts size l) && last) (not (none_left (all_parts size l))) p ∷ later_pieces last (all_parts size l)) e f) in
    let here : octets_of_piece head [] [] part ≡ flat_map (written_piece form) (piece ∷ []) =
    later_is form (ends && last) (not ends) part (written_fields head) w ∙ sym (append-nil (written_piece form piece)) in
    record {
      reported = c.reported ++ c.piece ∷ [];
      piece = piece;
      pieces_are = c.pieces_are ∙ ap (λ ps. c.reported ++ c.piece ∷ ps) step ∙ sym (append_assoc c.reported (c.piece ∷ []) (piece ∷ later_pieces last (all_parts size later)));
      written = ap₂ (λ x y. x ++ y) c.written here ∙ sym (flat_map-append (written_piece form) (c.reported ++ c.piece ∷ []) (piece ∷ []));
      at_is = ap length c.written;
    }

pub cutting_end : {form : Form} {first last : Bool} {size : ℕ} {m : Item} {rest done : List ℕ} {at : ℕ} → Cutting form first last size m rest done at → 1 ≤ size → length rest ≡ 0 → LastBegins form first last (Some size) m at
cutting_end {form} {first} {last} {size} {m} {rest} {done} {at} c h e = record {
  done = c.reported;
  piece = c.piece;
  pieces_are = c.pieces_are ∙ ap (λ ps. c.reported ++ c.piece ∷ later_pieces last ps) (all_parts-none size rest h e);
  at_is = c.at_is;
}

-- it begins there, in whichever form the size is given
pub last_by : {form : Form} {first last : Bool} {size : Option ℕ} {most : ℕ} {m : Item} {at : ℕ} → LastBegins form first last (Some most) m at → most ≡ unwrap_or size 4294967295 → length m.payload < 2 ^ 32 → LastBegins form first last size m at
last_by {form} {first} {last} {size} {most} {m} {at} l e small = record {
  done = l.done;
  piece = l.piece;
  pieces_are = ap pieces (sym (run_most first last size most m e small)) ∙ l.pieces_are;
  at_is = l.at_is;
}
