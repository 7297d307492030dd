-- The continuations of a message: an open run with its payload to come, and any message to its end.
use Rattle.std.proofs.Common.{◌≡◌, ◌≢◌, ℕ, ◌-◌, ◌<◌, inl, inr, Bool, true, false, cond, refl, sym, ◌∙◌, ap, subst, arith, List, [], ◌∷◌, ◌++◌, length, append_assoc, None}
use Rattle.std.specs.Prelude.{is_some}
use Rattle.std.proofs.lemmas.List.{append-nil}
use Rattle.std.proofs.lemmas.Bool.{cases_Bool, true≢false, false≢true}
use Rattle.ndef_format.specs.Records.{Piece, HasShape, IsInitial, tnf_of}
use Rattle.ndef_format.specs.Messages.{Item}
use Rattle.ndef_format.specs.Limits.{LimitValues}
use Rattle.ndef_format.specs.declared.profile.Profile.{Profile}
use Rattle.ndef_piece.specs.Walk.{Before, inside, Walk, RunsGoOn, WalksCanEnd}
use Rattle.ndef_value.specs.TnfLaws.{read_by_all}

-- ---- the payload of an open run

-- the record with another payload
abbrev with : Item → List ℕ → Item
with m payload = record { tnf = m.tnf; kind = m.kind; id = m.id; payload = payload }

-- u is what the payload begins with, v what comes after it
go_to : (limits : LimitValues) (n : ℕ) (m : Item) (u : List ℕ) (ps : List Piece) (k room : ℕ) (v : List ℕ) (items : List Item) → Walk limits (inside n k room (with m (u ++ v))) ps items
    → (payload : List ℕ) × (rest : List Item) × (items ≡ with m (u ++ payload) ∷ rest) × Walk limits (inside n k room (with m v)) ps (with m payload ∷ rest)
go_to limits n m u [] k room v items w = absurd (false≢true w.0)
go_to limits n m u (p ∷ ps) k room v items w =
    elim (cases_Bool p.chunked) [
      | inl c ↦
          let walk = rw c at w.4 in
          let e = rw c at w.3 in
          let t = go_to limits n m u ps (k - 1) (room - length p.payload) (v ++ p.payload) w.2
          (subst (λ x. Walk limits (inside n (k - 1) (room - length p.payload) (with m x)) ps w.2) (append_assoc u v p.payload) walk) in
          (t.0, t.1, e ∙ t.2, (refl, w.1, with m t.0 ∷ t.1, rw c refl, rw c t.3))
      | inr c ↦
          let walk = rw c at w.4 in
          let e = rw c at w.3 in
          (v ++ p.payload, w.2, e ∙ ap (λ x. with m x ∷ w.2) (append_assoc u v p.payload), (refl, w.1, w.2, rw c refl, rw c walk))
    ]

-- and back
go_from : (limits : LimitValues) (n : ℕ) (m : Item) (u : List ℕ) (ps : List Piece) (k room : ℕ) (v payload : List ℕ) (rest : List Item)
    → Walk limits (inside n k room (with m v)) ps (with m payload ∷ rest) → Walk limits (inside n k room (with m (u ++ v))) ps (with m (u ++ payload) ∷ rest)
go_from limits n m u [] k room v payload rest w = absurd (false≢true w.0)
go_from limits n m u (p ∷ ps) k room v payload rest w =
    elim (cases_Bool p.chunked) [
      | inl c ↦
          let walk = rw c at w.4 in
          let e = rw c at w.3 in
          let t = go_from limits n m u ps (k - 1) (room - length p.payload) (v ++ p.payload) payload rest
          (subst (Walk limits (inside n (k - 1) (room - length p.payload) (with m (v ++ p.payload))) ps) (sym e) walk) in (
            refl,
            w.1,
            with m (u ++ payload) ∷ rest,
            rw c refl,
            rw c (subst (λ x. Walk limits (inside n (k - 1) (room - length p.payload) (with m x)) ps (with m (u ++ payload) ∷ rest)) (sym (append_assoc u v p.payload)) t),
          )
      | inr c ↦
          let walk = rw c at w.4 in
          let e : with m payload ∷ rest ≡ with m (v ++ p.payload) ∷ w.2 = rw c at w.3 in
          let f : with m payload ≡ with m (v ++ p.payload) = cc in
          let g : rest ≡ w.2 = cc in
          let h : payload ≡ v ++ p.payload = ap (λ x. x.payload) f in
          let k : with m (u ++ payload) ∷ rest ≡ with m ((u ++ v) ++ p.payload) ∷ w.2 =
          ap (λ x. with m (u ++ x) ∷ rest) h ∙ ap (λ x. with m x ∷ rest) (sym (append_assoc u v p.payload)) ∙ ap (λ x. with m ((u ++ v) ++ p.payload) ∷ x) g in
          (refl, w.1, w.2, rw c k, rw c walk)
    ]

pub runs_go_on : RunsGoOn
runs_go_on limits n k room m ps items = (
  (λ w. go_to limits n m m.payload ps k room [] items (subst (λ x. Walk limits (inside n k room (with m x)) ps items) (sym (append-nil m.payload)) w)),
  (λ w. subst (λ x. Walk limits (inside n k room (with m x)) ps items) (append-nil m.payload)
      (subst (Walk limits (inside n k room (with m (m.payload ++ []))) ps) (sym w.2) (go_from limits n m m.payload ps k room [] w.0 w.1 w.3))),
)

-- ---- the end of a message

-- a last piece with this payload, unknown or unchanged
abbrev ending : Before → List ℕ → Piece
ending c payload = record { first = c.first; last = true; chunked = false; tnf = cond (is_some c.begun) 6 5; kind = []; id = None; payload = payload }

ending_small : (b : Bool) → cond b 6 5 < 7
ending_small true = omega arith
ending_small false = omega arith

differ : (n : ℕ) → n ≡ 5 → n ≢ 6
differ n e f = omega arith

-- where no run is open it is an initial piece
ending_initial : (profile : Profile) (c : Before) (payload : List ℕ) → is_some c.begun ≡ false → IsInitial profile (ending c payload) × HasShape (tnf_of (ending c payload).tnf) 0 0 (length payload)
ending_initial profile c payload e = rw e (record { read = read_by_all profile 5 (omega arith); changed = differ 5 refl; not_empty = λ z. absurd (false≢true z) }, refl)

pub walks_can_end : WalksCanEnd
walks_can_end limits c payload o octets fits small =
    let t = ending_small (is_some c.begun) in (
      ending c payload,
      record { tnf = omega (arith, t); kind = tt; kind_length = omega arith; id = tt; id_length = omega arith; payload = octets; payload_length = omega (arith, fits, small) },
      refl,
      (
        o,
        record {
          begins = refl;
          initial = λ e. ending_initial limits.profile c payload e;
          later = λ e. record { tnf = ap (λ b. cond b 6 5) e; kind = refl; id = refl };
          chunked = λ e. absurd (false≢true e);
          followed = λ e l. absurd (true≢false l);
          room = fits;
        },
        [],
        refl,
        (refl, refl),
      ),
    )
