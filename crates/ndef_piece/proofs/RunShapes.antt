-- The properties of the record of a run by a piece of it.
use Rattle.std.proofs.Common.{ℕ, sym, subst, arith, List, [], ◌∷◌, ◌++◌, length, length-append}
use Rattle.std.specs.Prelude.{unwrap_or}
use Rattle.std.proofs.lemmas.List.{append-nil}
use Rattle.ndef_format.specs.Records.{Piece, Run, HasShape, IsInitial, Follow, tnf_of}
use Rattle.ndef_format.specs.Messages.{Item, IsShaped, payload_of, run_record}
use Rattle.ndef_format.specs.declared.profile.Profile.{Profile}
use Rattle.ndef_value.specs.TnfLaws.{changed_name}
use Rattle.ndef_piece.proofs.Sorts.{empty, named, unnamed, sort, other_payload, read_small}

-- an initial piece and what follows it
abbrev pub run : Piece → List Piece → Run
run p later = record { initial = p; later = later }

-- the record of a run has the shape of its initial piece
pub shaped_run : (profile : Profile) (p : Piece) (later : List Piece) → IsInitial profile p → Follow p.chunked later
    → HasShape (tnf_of p.tnf) (length p.kind) (length (unwrap_or p.id [])) (length p.payload) → IsShaped (run_record (run p later))
shaped_run profile p [] i f s = record {
  changed = changed_name p.tnf (read_small profile p.tnf i.read) i.changed;
  shape = subst (λ xs. HasShape (tnf_of p.tnf) (length p.kind) (length (unwrap_or p.id [])) (length xs)) (sym (append-nil p.payload)) s;
}
shaped_run profile p (q ∷ later) i f s = record {
  changed = changed_name p.tnf (read_small profile p.tnf i.read) i.changed;
  shape = other_payload p.tnf (read_small profile p.tnf i.read) _ _ _ _ s (i.not_empty f.0);
}

-- and the initial piece that of the record
pub shaped_piece : (profile : Profile) (p : Piece) (later : List Piece) → IsInitial profile p → IsShaped (run_record (run p later))
    → HasShape (tnf_of p.tnf) (length p.kind) (length (unwrap_or p.id [])) (length p.payload)
shaped_piece profile p later i s =
    let k = length p.kind in
    let d = length (unwrap_or p.id []) in
    let n = length p.payload in
    let m = length (payload_of (p ∷ later)) in
    let s' : HasShape (tnf_of p.tnf) k d m = s.shape in
    elim (sort p.tnf (read_small profile p.tnf i.read)) [
      | empty z ↦
          let w = rw z at s' in
          let l = length-append p.payload (payload_of later) in
          rw z (w.0, w.1, omega (arith, w.2, l))
      | named a b f ↦ (f k d n).1 ((f k d m).0 s')
      | unnamed a f ↦ (f k d n).1 ((f k d m).0 s')
    ]

-- the record with more payload
abbrev pub grown : Item → List ℕ → Item
grown m payload = record { tnf = m.tnf; kind = m.kind; id = m.id; payload = m.payload ++ payload }
