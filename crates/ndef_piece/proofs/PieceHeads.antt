-- Heads and the pieces that have them.
use Rattle.std.proofs.Common.{◌≡◌, ℕ, zero, suc, Bool, true, false, refl, sym, ◌∙◌, ap, subst, arith, List, [], ◌∷◌, ◌++◌, length, inl, inr, Option, Some, None, length-append, replicate}
use Rattle.std.specs.Prelude.{unwrap_or}
use Rattle.std.specs.Option.{option_map}
use Rattle.ndef_format.specs.Records.{Piece, IsPiece, IsLater, IsRead, FitsForm, HeadFields, fields, octets, body, HasShape, tnf_of, AreOctets}
use Rattle.ndef_format.specs.declared.spot.Spot.{Spot}
use Rattle.ndef_piece.specs.Heads.{head}
use Rattle.ndef_format.specs.Positions.{MayOccur, CanBeSpelled, IsOpen, IsConsistentAt}
use Rattle.ndef_piece.specs.Pieces.{HeadsOfPieces, PiecesOfHeads, HeadsOfBytes, LengthsOfPieces}
use Rattle.ndef_piece.specs.HeaderLaws.{octets_size, header}
use Rattle.ndef_value.specs.ListLaws.{split_append}
use Rattle.ndef_piece.proofs.Apart.{heads_are_unambiguous}
use Rattle.ndef_value.specs.TnfLaws.{read_by_all}
use Rattle.ndef_piece.specs.Header.{size}
use Rattle.std.proofs.lemmas.List.{append-nil, length-replicate, nil_from_length}

-- the id length of a piece
pub id_length : (i : Option (List ℕ)) → unwrap_or (option_map length i) 0 ≡ length (unwrap_or i [])
id_length None = refl
id_length (Some d) = refl

-- a piece whose head has no id has none
no_id : (i : Option (List ℕ)) → option_map length i ≡ None → i ≡ None
no_id None e = refl
no_id (Some d) e = cc

-- a piece that goes on a run has the shape of its head
later_shape : (p : Piece) → IsLater p → HasShape (tnf_of p.tnf) (length p.kind) (unwrap_or (option_map length p.id) 0) (length p.payload)
later_shape p l = rw (l.tnf, l.kind) refl

-- a piece that may stand has the shape of its head
piece_shape : (spot : Spot) (p : Piece) (inside : Bool) → spot.inside ≡ inside → IsConsistentAt spot p → HasShape (tnf_of p.tnf) (length p.kind) (unwrap_or (option_map length p.id) 0) (length p.payload)
piece_shape spot p false e s = rw (id_length p.id) (s.initial e).1
piece_shape spot p true e s = later_shape p (s.later e)

-- and a type name format that is read
piece_read : (spot : Spot) (p : Piece) (inside : Bool) → spot.inside ≡ inside → IsConsistentAt spot p → IsRead spot.profile p.tnf
piece_read spot p false e s = (s.initial e).0.read
piece_read spot p true e s = read_by_all spot.profile p.tnf (let t = (s.later e).tnf in omega (arith, t))

-- an unchanged piece has no type
unchanged_kind : (t k i n : ℕ) → t ≡ 6 → HasShape (tnf_of t) k i n → k ≡ 0
unchanged_kind t k i n e s = rw e at s

pub heads_of_pieces : HeadsOfPieces
heads_of_pieces spot p short fits form = (
  (λ s. record {
    spelled = record { tnf = fits.tnf; kind = fits.kind_length; payload = fits.payload_length; form = form; id = rw (id_length p.id) fits.id_length };
    read = piece_read spot p spot.inside refl s;
    shape = piece_shape spot p spot.inside refl s;
    begins = s.begins;
    outside = λ o. ((s.initial o).0.changed, (s.initial o).0.not_empty);
    inside = λ i. ((s.later i).tnf, ap (option_map length) (s.later i).id);
    chunked = s.chunked;
    followed = s.followed;
    room = s.room;
  }),
  (λ m. record {
    begins = m.begins;
    initial = λ o. (
      record { read = m.read; changed = (m.outside o).0; not_empty = (m.outside o).1 },
      subst (λ i. HasShape (tnf_of p.tnf) (length p.kind) i (length p.payload)) (id_length p.id) m.shape,
    );
    later = λ i. record { tnf = (m.inside i).0; kind = nil_from_length p.kind (unchanged_kind p.tnf _ _ _ (m.inside i).0 m.shape); id = no_id p.id (m.inside i).1 };
    chunked = m.chunked;
    followed = m.followed;
    room = m.room;
  }),
)

pub pieces_of_heads : PiecesOfHeads
pieces_of_heads spot h p fits e m =
    let form : FitsForm h.short (length p.payload) = subst (λ n. FitsForm h.short n) (sym (ap (λ x. x.payload_length) e)) m.spelled.form in (
      (heads_of_pieces spot p h.short fits form).1 (subst (MayOccur spot) (sym e) m),
      record { piece = fits; form = form; spelled = ap (λ x. octets x ++ body p) (sym e) },
    )

-- no head ends before the last octet of an open front and one more
past_open : (spot : Spot) (g : HeadFields) (xs m : List ℕ) (b : ℕ) → IsOpen spot xs → CanBeSpelled g → xs ++ b ∷ [] ≡ octets g ++ m → m ≡ []
past_open spot g [] m b o l e = cc
past_open spot g (x ∷ xs) m b o l e =
    let s = o.spelled in
    let f : header o.fields ≡ header g = cc in
    let n = octets_size o.fields o.stands.spelled.tnf ∙ ap size f ∙ sym (octets_size g l.tnf) in
    nil_from_length m (omega (arith, n, ap length s, ap length e, length-append (x ∷ xs) (o.next ∷ o.rest), length-append (x ∷ xs) (b ∷ []), length-append (octets g) m))

pub heads_of_bytes : HeadsOfBytes
heads_of_bytes spot p short bytes xs rest b spelled stands o e =
    let g = fields p short in
    let m : MayOccur spot g = (heads_of_pieces spot p short spelled.piece spelled.form).0 stands in
    let whole : octets g ++ body p ≡ (xs ++ b ∷ []) ++ rest = sym spelled.spelled ∙ e in
    elim (split_append (octets g) (body p) (xs ++ b ∷ []) rest whole) [
      | inl w ↦ (
        (g, record { stands = m; rest = w.0 ∷ w.1; spelled = w.2 }),
        (λ h v. absurd (let q = heads_are_unambiguous v.fields g (w.0 ∷ w.1) [] v.stands.spelled m.spelled (ap (λ z. z ++ w.0 ∷ w.1) v.spelled ∙ sym w.2 ∙ sym (append-nil (octets g))) in
            let e = q.1 in cc)),
      )
      | inr w ↦
          let z : w.0 ≡ [] = past_open spot g xs w.0 b o m.spelled w.1 in
          let f : octets g ≡ xs ++ b ∷ [] = sym (w.1 ∙ ap (λ y. octets g ++ y) z ∙ append-nil (octets g)) in (
            (g, record { stands = m; rest = []; spelled = f ∙ sym (append-nil (xs ++ b ∷ [])) }),
            (λ h v. (sym v.read ∙ ap head (heads_are_unambiguous v.fields g [] [] v.stands.spelled m.spelled (ap (λ z. z ++ []) (v.spelled ∙ sym f))).0, sym (w.2 ∙ ap (λ y. y ++ rest) z))),
          )
    ]

-- ---- a piece for each head
abbrev zeros : ℕ → List ℕ
zeros n = replicate n 0

zeros_length : (n : ℕ) → length (zeros n) ≡ n
zeros_length n = length-replicate {A = ℕ} n 0

zero_octets : (n : ℕ) → AreOctets (zeros n)
zero_octets zero = tt
zero_octets (suc n) = (omega arith, zero_octets n)

abbrev zero_id : Option ℕ → Option (List ℕ)
zero_id None = None
zero_id (Some n) = Some (zeros n)

zero_id_length : (i : Option ℕ) → option_map length (zero_id i) ≡ i
zero_id_length None = refl
zero_id_length (Some n) = ap Some (zeros_length n)

zero_id_octets : (i : Option ℕ) → AreOctets (unwrap_or (zero_id i) [])
zero_id_octets None = tt
zero_id_octets (Some n) = zero_octets n

-- a piece of zeros, with the lengths of a head
abbrev pub zero_piece : HeadFields → Piece
zero_piece h = record {
  first = h.first;
  last = h.last;
  chunked = h.chunked;
  tnf = h.tnf;
  kind = zeros h.kind_length;
  id = zero_id h.id_length;
  payload = zeros h.payload_length;
}

pub zero_head : (h : HeadFields) → fields (zero_piece h) h.short ≡ h
zero_head h = rw (zeros_length h.kind_length, zeros_length h.payload_length, zero_id_length h.id_length) refl

pub zero_fits : (h : HeadFields) → CanBeSpelled h → IsPiece (zero_piece h)
zero_fits h l = record {
  tnf = l.tnf;
  kind = zero_octets h.kind_length;
  kind_length = rw (zeros_length h.kind_length) l.kind;
  id = zero_id_octets h.id_length;
  id_length = rw (← id_length (zero_id h.id_length), zero_id_length h.id_length) l.id;
  payload = zero_octets h.payload_length;
  payload_length = rw (zeros_length h.payload_length) l.payload;
}

pub lengths_of_pieces : LengthsOfPieces
lengths_of_pieces spot xs n = (
  (λ w.
      let h = w.0 in
      let b = w.1 in
      let fits = zero_fits h b.stands.spelled in
      let form : FitsForm h.short (length (zero_piece h).payload) = rw (zeros_length h.payload_length) b.stands.spelled.form in
      (zero_piece h, h.short, b.rest, fits, form, (pieces_of_heads spot h (zero_piece h) fits (zero_head h) b.stands).0, zeros_length h.payload_length ∙ w.2, ap octets (zero_head h) ∙ b.spelled)),
  (λ w. (fields w.0 w.1, record { stands = (heads_of_pieces spot w.0 w.1 w.3 w.4).0 w.5; rest = w.2; spelled = w.7 }, w.6)),
)
