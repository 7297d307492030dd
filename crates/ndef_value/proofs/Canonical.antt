-- The canonical spelling is one.
use Rattle.std.proofs.Common.{◌≡◌, ◌≢◌, ℕ, ◌<◌, Bool, true, false, refl, sym, ◌∙◌, ap, subst, arith, List, [], ◌∷◌, ◌++◌, length, map}
use Rattle.std.specs.Prelude.{unwrap_or, nat_lt}
use Rattle.std.specs.List.{flat_map, AllByRecursion}
use Rattle.std.proofs.lemmas.List.{append-nil}
use Rattle.std.proofs.lemmas.Bool.{ltb-true}
use Rattle.ndef_value.specs.TnfLaws.{same_tnf, code_below, read_code, changed_code}
use Rattle.ndef_format.specs.Records.{code, Piece, IsPiece, octets, fields, body, FitsForm, Run, IsRun, AreOctets}
use Rattle.ndef_format.specs.Messages.{SpellsPieces, run_record, Item, IsShaped, BeginsOnce, EndsOnce, all_pieces}
use Rattle.ndef_format.specs.Canonical.{IsItem, written_id, whole_piece, whole_pieces, is_nil, canonical}
use Rattle.ndef_format.specs.Laws.{CanonicalSpells}
use Rattle.ndef_format.specs.declared.tnf.Tnf.{Tnf}
use Rattle.ndef_format.specs.declared.profile.Profile.{Profile}

pub same_id : (id : List ℕ) → unwrap_or (written_id id) [] ≡ id
same_id [] = refl
same_id (x ∷ xs) = refl

abbrev one : Piece → Run
one p = record { initial = p; later = [] }

clash : true ≡ false → ⊥
clash e = cc

make : (t u : Tnf) (k i j n m : List ℕ) → t ≡ u → i ≡ j → n ≡ m → ◌≡◌ {A = Item} (record { tnf = t; kind = k; id = i; payload = n }) (record { tnf = u; kind = k; id = j; payload = m })
make t u k i j n m e f g = rw (e, f, g) refl

same_item : (first last : Bool) (m : Item) → run_record (one (whole_piece first last m)) ≡ m
same_item first last m = make _ _ m.kind _ _ _ _ (same_tnf m.tnf) (same_id m.id) (append-nil m.payload)

is_run : (profile : Profile) (first last : Bool) (m : Item) → IsItem m → IsRun profile (one (whole_piece first last m))
is_run profile first last m i = record {
  initial = record { read = read_code profile (code m.tnf) (code_below m.tnf); changed = changed_code m.tnf i.shaped.changed; not_empty = λ e. absurd (clash (sym e)) };
  follow = refl;
}

runs : (profile : Profile) (first : Bool) (m : List Item) → AllByRecursion IsItem m → AllByRecursion (IsRun profile) (map one (whole_pieces first m))
runs profile first [] a = tt
runs profile first (m ∷ ms) a = (is_run profile first (is_nil ms) m a.0, runs profile false ms a.1)

items : (first : Bool) (m : List Item) → map run_record (map one (whole_pieces first m)) ≡ m
items first [] = refl
items first (m ∷ ms) =
    let e = same_item first (is_nil ms) m in
    let f = items false ms in
    ap (λ x. x ∷ map run_record (map one (whole_pieces false ms))) e ∙ ap (λ x. m ∷ x) f

shapes : (m : List Item) → AllByRecursion IsItem m → AllByRecursion IsShaped m
shapes [] a = tt
shapes (m ∷ ms) a = (a.0.shaped, shapes ms a.1)

alone : (ps : List Piece) → all_pieces (map one ps) ≡ ps
alone [] = refl
alone (p ∷ ps) = ap (λ x. p ∷ x) (alone ps)

later_firsts : (m : List Item) → AllByRecursion (λ q. q.first ≡ false) (whole_pieces false m)
later_firsts [] = tt
later_firsts (m ∷ ms) = (refl, later_firsts ms)

begins : (m : List Item) → m ≢ [] → BeginsOnce (whole_pieces true m)
begins [] e = absurd (e refl)
begins (m ∷ ms) e = (refl, later_firsts ms)

ends : (first : Bool) (m : List Item) → m ≢ [] → EndsOnce (whole_pieces first m)
ends first [] e = absurd (e refl)
ends first (m ∷ []) e = refl
ends first (m ∷ n ∷ ms) e = (refl, ends false (n ∷ ms) (λ f. cc))

form : (n : ℕ) (b : Bool) → nat_lt n 256 ≡ b → FitsForm b n
form n true e = ltb-true n 256 e
form n false e = tt

is_piece : (first last : Bool) (m : Item) → IsItem m → IsPiece (whole_piece first last m)
is_piece first last m i =
    let c = code_below m.tnf in
    record {
      tnf = omega (arith, c);
      kind = i.kind;
      kind_length = i.lengths.kind;
      id = subst AreOctets (sym (same_id m.id)) i.id;
      id_length = subst (λ x. length x < 256) (sym (same_id m.id)) i.lengths.id;
      payload = i.payload;
      payload_length = i.lengths.payload;
    }

spelled : (first : Bool) (m : List Item) → AllByRecursion IsItem m
    → SpellsPieces (whole_pieces first m) (flat_map (λ p. octets (fields p (nat_lt (length p.payload) 256)) ++ body p) (whole_pieces first m))
spelled first [] a = refl
spelled first (m ∷ ms) a =
    let p = whole_piece first (is_nil ms) m in (
      nat_lt (length m.payload) 256,
      octets (fields p (nat_lt (length m.payload) 256)) ++ body p,
      _,
      refl,
      record { piece = is_piece first (is_nil ms) m a.0; form = form (length m.payload) _ refl; spelled = refl },
      spelled false ms a.1,
    )

pub canonical_is_flat : CanonicalSpells
canonical_is_flat profile m e a = record {
  message = record {
    each_run = runs profile true m a;
    items = items true m;
    shaped = shapes m a;
    begins = subst BeginsOnce (sym (alone (whole_pieces true m))) (begins m e);
    ends = subst EndsOnce (sym (alone (whole_pieces true m))) (ends true m e);
  };
  spelled = subst (λ ps. SpellsPieces ps (canonical m)) (sym (alone (whole_pieces true m))) (spelled true m a);
}
