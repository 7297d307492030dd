-- A message that is accepted is accepted in the canonical spelling too.
use Rattle.std.proofs.Common.{◌≡◌, ◌≢◌, ℕ, ◌<◌, ◌≤◌, ◌^◌, Bool, true, false, sym, subst, arith, List, [], ◌∷◌, length, map, append-nil}
use Rattle.std.specs.List.{AllByRecursion}
use Rattle.ndef_format.specs.Accepted.{Accepted, IsMember}
use Rattle.ndef_format.specs.Canonical.{canonical, IsItem, whole_pieces}
use Rattle.ndef_format.specs.Messages.{IsShaped, BeginsOnce, SpellsPieces, all_pieces, payload_of, run_record}
use Rattle.ndef_format.specs.Payloads.{Sets}
use Rattle.ndef_format.specs.Records.{AreOctets, IsPiece, Piece, Run, pieces}
use Rattle.ndef_format.specs.Laws.{CanonicalIsAccepted, CanonicalSpells}
use Rattle.ndef_value.specs.ListLaws.{all_back, all_front, octets_append}

-- ---- the records of a message are records

spelled_pieces : (ps : List Piece) (bytes : List ℕ) → SpellsPieces ps bytes → AllByRecursion IsPiece ps
spelled_pieces [] bytes s = tt
spelled_pieces (p ∷ ps) bytes s = (s.4.piece, spelled_pieces ps s.2 s.5)

payload_octets : (ps : List Piece) → AllByRecursion IsPiece ps → AreOctets (payload_of ps)
payload_octets [] h = tt
payload_octets (p ∷ ps) h = octets_append p.payload (payload_of ps) h.0.payload (payload_octets ps h.1)

are_items : (most : ℕ) (rs : List Run) → most < 2 ^ 32 → AllByRecursion IsPiece (all_pieces rs) → AllByRecursion IsShaped (map run_record rs)
    → AllByRecursion (λ r. length (payload_of (pieces r)) ≤ most) rs → AllByRecursion IsItem (map run_record rs)
are_items most [] few h s n = tt
are_items most (r ∷ rs) few h s n =
    let own = all_front IsPiece (pieces r) (all_pieces rs) h in
    let size = n.0 in (
      record {
        shaped = s.0;
        lengths = record { kind = own.0.kind_length; id = own.0.id_length; payload = omega arith };
        kind = own.0.kind;
        id = own.0.id;
        payload = payload_octets (pieces r) own;
      },
      are_items most rs few (all_back IsPiece (pieces r) (all_pieces rs) h) s.1 n.1,
    )

some : (rs : List Run) → BeginsOnce (all_pieces rs) → map run_record rs ≢ []
some [] b = absurd b
some (r ∷ rs) b = λ e. cc

-- ---- their canonical spelling is within the limits

abbrev one : Piece → Run
one p = record { initial = p; later = [] }

number : (first : Bool) (rs : List Run) → length (map one (whole_pieces first (map run_record rs))) ≡ length rs
number first [] = omega arith
number first (r ∷ rs) = let e = number false rs in omega arith

single : (most : ℕ) (ps : List Piece) → 1 ≤ most → AllByRecursion (λ r. length (pieces r) ≤ most) (map one ps)
single most [] h = tt
single most (p ∷ ps) h = (omega arith, single most ps h)

small : (most : ℕ) (first : Bool) (rs : List Run) → AllByRecursion (λ r. length (payload_of (pieces r)) ≤ most) rs
    → AllByRecursion (λ r. length (payload_of (pieces r)) ≤ most) (map one (whole_pieces first (map run_record rs)))
small most first [] h = tt
small most first (r ∷ rs) h = (subst (λ x. length x ≤ most) (sym (append-nil (payload_of (pieces r)))) h.0, small most false rs h.1)

pub canonical_is_accepted : CanonicalSpells → (set : Sets) → CanonicalIsAccepted set
canonical_is_accepted spells set limits m bytes range d =
    let x = d.spelling.message in
    let same = x.items in
    let rs = d.runs in
    let n = map run_record rs in
    let items = are_items limits.payload rs range.payload.1 (spelled_pieces (all_pieces rs) bytes d.spelling.spelled) (subst (AllByRecursion IsShaped) (sym same) x.shaped) d.within.small in
    let there : Accepted set limits n (canonical n) = record {
      runs = map one (whole_pieces true n);
      spelling = spells limits.profile n (some rs x.begins) items;
      within = record {
        few_records = (let few = d.within.few_records in let e = number true rs in omega arith);
        few_pieces = single limits.pieces (whole_pieces true n) range.pieces.0;
        small = small limits.payload true rs d.within.small;
      };
      members = subst (AllByRecursion (IsMember set limits)) (sym same) d.members;
    } in
    subst (λ y. Accepted set limits y (canonical y)) same there
