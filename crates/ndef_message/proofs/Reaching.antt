-- Each front of a message leads to a point.
use Rattle.std.proofs.Common.{◌≡◌, ℕ, inl, inr, Bool, false, refl, sym, ◌∙◌, ap, subst, arith, List, [], ◌∷◌, ◌++◌, length, append_assoc, length-append}
use Rattle.std.specs.Prelude.{unwrap_or}
use Rattle.std.proofs.lemmas.List.{append-nil}
use Rattle.ndef_value.specs.ListLaws.{split_append, octets_front}
use Rattle.ndef_format.specs.Messages.{Item, SpellsPieces}
use Rattle.ndef_format.specs.Records.{Piece, AreOctets, SpellsPiece, fields, octets, body}
use Rattle.ndef_format.specs.Limits.{LimitValues, AreInRange}
use Rattle.ndef_format.specs.Payloads.{Sets}
use Rattle.ndef_format.specs.Positions.{IsConsistentAt}
use Rattle.ndef_piece.specs.Walk.{Before, start, spot, ending_record, after, Walk, Walked}
use Rattle.ndef_format.specs.Accepted.{IsViable}
use Rattle.ndef_message.specs.Machine.Points.{Point, InHead, InType, InId, InPayload, AtEnd, before, octets_at, IsPartAt, IsProperAt, IsAtPoint}
use Rattle.ndef_message.specs.Machine.Format.{FormatLaws}
use Rattle.ndef_message.proofs.Parts.{id_is_long}
use Rattle.ndef_message.proofs.Rests.{walked_snoc, spell_append}

no_front : (xs ys : List ℕ) → xs ++ ys ≡ [] → xs ≡ []
no_front [] ys e = refl
no_front (x ∷ xs) ys e = cc

module _ (laws : FormatLaws) (limits : LimitValues) where
  -- a point with these octets of its piece, before which this is known
  abbrev Within : Before → List ℕ → Type 0
  Within c xs = (point : Point) × (before point ≡ c) × (octets_at point ≡ xs) × IsProperAt limits point

  -- a front that ends in a piece
  module _ (c : Before) (p : Piece) (short : Bool) (bytes : List ℕ) (open_still : c.over ≡ false) (stands : IsConsistentAt (spot limits.profile c) p) (spells : SpellsPiece p short bytes) where
    part : (kind id payload k i z : List ℕ) → p.kind ≡ kind ++ k → unwrap_or p.id [] ≡ id ++ i → p.payload ≡ payload ++ z → IsPartAt limits c (fields p short) kind id payload
    part kind id payload k i z a b d =
        let is = spells.piece in
        record {
          goes_on = open_still;
          stands = (laws.to_heads (spot limits.profile c) p short is spells.form).0 stands;
          kind_octets = octets_front kind k (subst AreOctets a is.kind);
          id_octets = octets_front id i (subst AreOctets b is.id);
          payload_octets = octets_front payload z (subst AreOctets d is.payload);
        }

    in_piece : (xs : List ℕ) (next : ℕ) (rest : List ℕ) → bytes ≡ xs ++ next ∷ rest → Within c xs
    in_piece xs next rest e =
        let f = fields p short in
        let kind = p.kind in
        let id = unwrap_or p.id [] in
        let long = id_is_long p short f refl in
        elim (split_append (octets f) (body p) xs (next ∷ rest) (sym spells.spelled ∙ e)) as (λ v. Within c xs) [
          | inl q ↦
              let may = (laws.to_heads (spot limits.profile c) p short spells.piece spells.form).0 stands in
              (InHead c xs, refl, refl, (open_still, record { fields = f; stands = may; next = q.0; rest = q.1; spelled = q.2 }))
          | inr q ↦ elim (split_append kind (id ++ p.payload) q.0 (next ∷ rest) q.2) as (λ v. Within c xs) [
            | inl u ↦ (
              InType c f q.0,
              refl,
              ap (λ y. octets f ++ y) (append-nil q.0) ∙ sym q.1,
              (part q.0 [] [] (u.0 ∷ u.1) id p.payload u.2 refl refl, omega (arith, ap length u.2, length-append q.0 (u.0 ∷ u.1))),
            )
            | inr u ↦ elim (split_append id p.payload u.0 (next ∷ rest) u.2) as (λ v. Within c xs) [
              | inl v ↦ (
                InId c f kind u.0,
                refl,
                ap (λ y. octets f ++ (kind ++ y)) (append-nil u.0) ∙ ap (λ y. octets f ++ y) (sym u.1) ∙ sym q.1,
                (part kind u.0 [] [] (v.0 ∷ v.1) p.payload (sym (append-nil kind)) v.2 refl, refl, omega (arith, long, ap length v.2, length-append u.0 (v.0 ∷ v.1))),
              )
              | inr v ↦ (
                InPayload c f kind id v.0,
                refl,
                ap (λ y. octets f ++ (kind ++ y)) (sym v.1) ∙ ap (λ y. octets f ++ y) (sym u.1) ∙ sym q.1,
                (part kind id v.0 [] [] (next ∷ rest) (sym (append-nil kind)) (sym (append-nil id)) v.2, refl, long, omega (arith, ap length v.2, length-append v.0 (next ∷ rest))),
              )
            ]
          ]
        ]

  -- the bytes lead to a point
  abbrev Reaches : List ℕ → Type 0
  Reaches bytes = (given : List Item) × (point : Point) × IsAtPoint limits bytes given point

  at_point : (ps : List Piece) (c : Before) (given : List Item) (done xs : List ℕ) → Walked limits (start limits) ps given c → SpellsPieces ps done → Within c xs → Reaches (done ++ xs)
  at_point ps c given done xs w s x = (
    given,
    x.0,
    record { pieces = ps; done = done; walked = subst (Walked limits (start limits) ps given) (sym x.1) w; spelled = s; split = ap (λ y. done ++ y) (sym x.2); proper = x.3 },
  )

  there : (qs : List Piece) (c : Before) (items : List Item) (ps : List Piece) (given : List Item) (done xs more : List ℕ) → Walk limits c qs items → SpellsPieces qs (xs ++ more)
      → Walked limits (start limits) ps given c → SpellsPieces ps done → Reaches (done ++ xs)
  there [] c items ps given done xs more walk spelled w s = at_point ps c given done xs w s (AtEnd c, refl, sym (no_front xs more spelled), walk.0)
  there (p ∷ qs) c items ps given done xs more walk spelled w s =
      elim (split_append spelled.1 spelled.2 xs more (sym spelled.3)) as (λ v. Reaches (done ++ xs)) [
        | inl q ↦ at_point ps c given done xs w s (in_piece c p spelled.0 spelled.1 walk.0 walk.1 spelled.4 xs q.0 q.1 q.2)
        | inr q ↦
            let one : SpellsPieces (p ∷ []) spelled.1 = (spelled.0, spelled.1, [], sym (append-nil spelled.1), spelled.4, refl) in
            let r = there qs (after limits c p) walk.2 (ps ++ p ∷ []) (given ++ ending_record c p) (done ++ spelled.1) q.0 more walk.4 (subst (SpellsPieces qs) q.2 spelled.5)
            (walked_snoc limits ps (start limits) c given p w walk.0 walk.1) (spell_append ps (p ∷ []) done spelled.1 s one) in
            subst Reaches (append_assoc done spelled.1 q.0 ∙ ap (λ y. done ++ y) (sym q.1)) r
      ]

  -- bytes that can be completed lead to a point
  pub viable_reaches : (set : Sets) → AreInRange limits → (bytes : List ℕ) → IsViable set limits bytes → Reaches bytes
  viable_reaches set range bytes v =
      let m = v.1.1 in
      let r = (laws.spelling limits v.1.0 (bytes ++ v.0) range).1 (m.runs, m.spelling, m.within) in
      there r.0 (start limits) v.1.0 [] [] [] bytes v.0 r.1 r.2 (refl, refl) refl
