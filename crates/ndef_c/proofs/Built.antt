-- A message in a buffer, and the piece that ends it.
use Rattle.std.proofs.Common.{◌≡◌, ℕ, ◌+◌, ◌-◌, ◌^◌, ◌<◌, ◌≤◌, Bool, true, false, List, [], ◌++◌, take, drop, get_or, sym, ◌∙◌, ap, ap₂, subst, arith, length, length-take, append-nil, Some}
use Rattle.std.specs.Prelude.{slice_set, unwrap_or}
use Rattle.std.proofs.Math.Seq.{take-set-lt}
use Rattle.std.proofs.lemmas.List.{drop-drop, get_or-take}
use Rattle.ndef_format.specs.Messages.{Item}
use Rattle.ndef_format.specs.Records.{Piece, bit}
use Rattle.ndef_piece.specs.Heads.{HeadsAreUnambiguous}
use Rattle.ndef_piece.specs.Whole.{IsSplit}
use Rattle.ndef_c.specs.Built.{AppendedBegins, EndsWithPiece, GivesAppended, Holding, IsBuilt, appended_octets, held, reopened}
use Rattle.ndef_c.specs.Buffers.{IsPut}
use Rattle.ndef_c.specs.Writes.{LastBegins, form_of, octets_by, record_octets, size_of}
use Rattle.ndef_c.specs.declared.building.NdefMessageBuilder.{NdefMessageBuilder}
use Rattle.ndef_c.specs.declared.writing.NdefWriting.{NdefWriting}
use Rattle.ndef_c.specs.declared.writing.Placement.{Placement}
use Rattle.ndef_c.proofs.Alternatives.{octet_at}
use Rattle.ndef_message.specs.Machine.SeenLaws.{same_split}
use Rattle.ndef_c.proofs.Records.{last_by, octets_most}

-- ---- the piece that ends the bytes

-- what is shown there is that piece
pub ends_only : HeadsAreUnambiguous → (bytes : List ℕ) (at : ℕ) (p : Piece) (short : Bool) (rest : List ℕ) → IsSplit p short rest (drop at bytes) → EndsWithPiece bytes at → (p.last ≡ true) × (p.chunked ≡ false) × (rest ≡ [])
ends_only apart bytes at p short rest s e =
    let w = same_split p e.piece short e.short rest [] (drop at bytes) s e.split in
    (ap (λ q. q.last) w.0 ∙ e.last, ap (λ q. q.chunked) w.0 ∙ e.whole, w.1)

-- its bit is set
pub record Mark (bytes : List ℕ) (at : ℕ) : Type 0 where
  pub within : at < length bytes
  pub is_set : 64 ≤ get_or bytes at 0

pub mark_of : (bytes : List ℕ) (at : ℕ) → EndsWithPiece bytes at → Mark bytes at
mark_of bytes at e =
    let o = octet_at bytes at _ _ (e.split.joined ∙ append-nil e.split.front ∙ e.split.spells.spelled) in
    let one : bit e.piece.last ≡ 1 = ap bit e.last in
    let is = o.is in
    record { within = o.within; is_set = omega (arith, is, one) }

-- the octet that is cleared
pub record Cleared (buffer : List ℕ) (builder : NdefMessageBuilder) : Type 0 where
  pub before : builder.last_at < builder.length
  pub within : builder.last_at < length buffer
  pub is_set : 64 ≤ get_or buffer builder.last_at 0
  pub front : take builder.length (slice_set buffer builder.last_at (get_or buffer builder.last_at 0 - 64)) ≡ reopened (held buffer builder)

pub cleared : (buffer : List ℕ) (builder : NdefMessageBuilder) → IsBuilt (held buffer builder) → Cleared buffer builder
cleared buffer builder b =
    let m = mark_of (take builder.length buffer) builder.last_at b.ends in
    let n = length-take builder.length buffer in
    let w = m.within in
    let s = m.is_set in
    let before : builder.last_at < builder.length = omega (arith, n, w) in
    let same = get_or-take builder.length buffer builder.last_at 0 before in
    record {
      before = before;
      within = omega (arith, n, w);
      is_set = omega (arith, s, same);
      front = take-set-lt builder.length buffer builder.last_at _ before ∙ ap (λ x. slice_set (take builder.length buffer) builder.last_at (x - 64)) (sym same);
    }

-- ---- the record after it

-- what is put after the message
pub put_after : (buffer mid new octets : List ℕ) (builder : NdefMessageBuilder) (count : ℕ) → take builder.length mid ≡ reopened (held buffer builder) → drop builder.length mid ≡ drop builder.length buffer → count ≡ builder.length + length octets
    → IsPut builder.length octets mid new → new ≡ reopened (held buffer builder) ++ (octets ++ drop count buffer)
put_after buffer mid new octets builder count front following n p =
    let rest : drop (builder.length + length octets) mid ≡ drop count buffer =
    sym (drop-drop (length octets) builder.length mid) ∙ ap (drop (length octets)) following ∙ drop-drop (length octets) builder.length buffer ∙ ap (λ k. drop k buffer) (sym n) in
    p.is ∙ ap₂ (λ x y. x ++ (octets ++ y)) front rest

given_alike : (octets text : List ℕ) (P Q : ℕ → Type 0) (before after : Holding) (count status : ℕ) → octets ≡ text → ((at : ℕ) → P at → Q at) → GivesAppended octets P before after count status → GivesAppended text Q before after count status
given_alike octets text P Q before after count status e k g =
    let size = ap length e in record {
      count_is = let n = g.count_is in omega (arith, n, size);
      fits = λ h.
          let f = g.fits h in
          let n = f.2.length_is in (
            f.0,
            f.1 ∙ ap (λ x. reopened before ++ (x ++ drop count before.buffer)) e,
            record { length_is = omega (arith, n, size); records = f.2.records; at = f.2.at; begins_at = k f.2.at f.2.begins_at; last_at = f.2.last_at },
          );
      too_small = g.too_small;
    }

-- what is appended so is what is asked
pub appended_by : (first : Bool) (how : NdefWriting) (way : Placement) (m : Item) (before after : Holding) (count status : ℕ) → way.first ≡ first → way.last ≡ true → way.form ≡ form_of how → way.size ≡ unwrap_or (size_of how) 4294967295
    → length m.payload < 2 ^ 32 → GivesAppended (octets_by way m) (LastBegins way.form way.first way.last (Some way.size) m) before after count status
    → GivesAppended (appended_octets first how m) (AppendedBegins first how m) before after count status
appended_by first how way m before after count status f l o s small g =
    let octets : octets_by way m ≡ appended_octets first how m =
    ap (λ x. record_octets way.form x way.last (Some way.size) m) f
    ∙ ap (λ x. record_octets way.form first x (Some way.size) m) l
    ∙ ap (λ x. record_octets x first true (Some way.size) m) o
    ∙ octets_most (form_of how) first true (size_of how) way.size m s small in
    let begins : (at : ℕ) → LastBegins way.form way.first way.last (Some way.size) m at → AppendedBegins first how m at =
    λ at b. last_by (subst (λ x. LastBegins x first true (Some way.size) m at) o (subst (λ x. LastBegins way.form first x (Some way.size) m at) l (subst (λ x. LastBegins way.form x way.last (Some way.size) m at) f b))) s small in
    given_alike (octets_by way m) (appended_octets first how m) _ _ before after count status octets begins g
