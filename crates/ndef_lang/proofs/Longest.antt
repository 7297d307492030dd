-- The greatest length is that of a message.
use Rattle.std.proofs.Common.{◌≡◌, ℕ, zero, suc, ◌+◌, ◌-◌, ◌*◌, ◌^◌, ◌<◌, ◌≤◌, Bool, true, false, refl, inr, sym, ◌∙◌, ap, subst, arith, List, [], ◌∷◌, ◌++◌, length, map, Some, None, length-append, append-nil}
use Rattle.std.specs.List.{flat_map, AllByRecursion}
use Rattle.ndef_format.specs.Accepted.{Accepted, IsMember}
use Rattle.ndef_format.specs.Limits.{LimitValues, greatest_length}
use Rattle.ndef_format.specs.Messages.{IsShaped, BeginsOnce, EndsOnce, SpellsPieces, all_pieces, payload_of, run_record}
use Rattle.ndef_format.specs.Payloads.{Sets}
use Rattle.ndef_format.specs.Records.{AreOctets, Piece, IsPiece, Run, IsRun, IsRead, tnf_of, Follow, pieces, octets, fields, body}
use Rattle.ndef_format.specs.Laws.{GreatestIsReached, IsNoName}
use Rattle.ndef_lang.specs.RecordLanguage.{TakesOthers}
use Rattle.ndef_format.specs.declared.profile.Profile.{Profile}
use Rattle.ndef_format.specs.declared.profile.Profile.TheVariants.{Strict, Standard}
use Rattle.ndef_value.specs.ListLaws.{all_append, zeros, zeros_length, zeros_octets}
use Rattle.ndef_value.specs.PieceLaws.{piece_octets}

-- the long spelling of a piece
abbrev long : Piece → List ℕ
long p = octets (fields p false) ++ body p

long_append : (xs ys : List Piece) → length (flat_map long (xs ++ ys)) ≡ length (flat_map long xs) + length (flat_map long ys)
long_append [] ys = omega arith
long_append (x ∷ xs) ys =
    let e = long_append xs ys in
    let a = length-append (long x) (flat_map long (xs ++ ys)) in
    let b = length-append (long x) (flat_map long xs) in
    omega arith

long_spells : (ps : List Piece) → AllByRecursion IsPiece ps → SpellsPieces ps (flat_map long ps)
long_spells [] h = refl
long_spells (p ∷ ps) h = (false, long p, flat_map long ps, refl, record { piece = h.0; form = tt; spelled = refl }, long_spells ps h.1)

-- ---- the pieces

abbrev is_some_more : ℕ → Bool
is_some_more zero = false
is_some_more (suc n) = true

abbrev is_none_more : ℕ → Bool
is_none_more zero = true
is_none_more (suc n) = false

-- the last of a record's pieces is that of the message, if the record is
abbrev ends : Bool → ℕ → Bool
ends last zero = last
ends last (suc n) = false

abbrev empty_piece : (last : Bool) → ℕ → Piece
empty_piece last n = record { first = false; last = ends last n; chunked = is_some_more n; tnf = 6; kind = []; id = None; payload = [] }

abbrev later : (last : Bool) → ℕ → List Piece
later last zero = []
later last (suc n) = empty_piece last n ∷ later last n

a_zero : (n : ℕ) → IsNoName (zeros (suc n))
unfolding zeros
a_zero n = inr ([], zeros n, refl)

clash : true ≡ false → ⊥
clash e = cc

reads_media : (profile : Profile) → IsRead profile 2
reads_media Strict = omega arith
reads_media Standard = omega arith

module _ (name content : List ℕ) (no_name : IsNoName name) (named : AreOctets name) (long_name : length name ≡ 255) (filled : AreOctets content) (small : length content < 2 ^ 32) where
  abbrev initial : (first last : Bool) → ℕ → Piece
  initial first last n = record { first = first; last = ends last n; chunked = is_some_more n; tnf = 2; kind = name; id = Some name; payload = content }

  abbrev run : (first last : Bool) → ℕ → Run
  run first last n = record { initial = initial first last n; later = later last n }

  -- that many records, each with n pieces after its first
  abbrev runs : (first : Bool) → (records n : ℕ) → List Run
  runs first zero n = []
  runs first (suc k) n = run first (is_none_more k) n ∷ runs false k n

  -- ---- they are a message

  later_follow : (last : Bool) (n : ℕ) → Follow (is_some_more n) (later last n)
  later_follow last zero = refl
  later_follow last (suc n) = (refl, record { tnf = refl; kind = refl; id = refl }, later_follow last n)

  run_is : (profile : Profile) (first last : Bool) (n : ℕ) → IsRun profile (run first last n)
  run_is profile first last n = record {
    initial = record { read = reads_media profile; changed = λ e. absurd (omega (arith, e)); not_empty = λ c e. absurd (omega (arith, e)) };
    follow = later_follow last n;
  }

  runs_are : (profile : Profile) (first : Bool) (k n : ℕ) → AllByRecursion (IsRun profile) (runs first k n)
  runs_are profile first zero n = tt
  runs_are profile first (suc k) n = (run_is profile first (is_none_more k) n, runs_are profile false k n)

  later_payload : (last : Bool) (n : ℕ) → payload_of (later last n) ≡ []
  later_payload last zero = refl
  later_payload last (suc n) = later_payload last n

  run_payload : (first last : Bool) (n : ℕ) → payload_of (pieces (run first last n)) ≡ content
  run_payload first last n = ap (λ x. content ++ x) (later_payload last n) ∙ append-nil content

  shapes : (first : Bool) (k n : ℕ) → AllByRecursion IsShaped (map run_record (runs first k n))
  shapes first zero n = tt
  shapes first (suc k) n = (record { changed = λ e. cc; shape = omega (arith, long_name) }, shapes false k n)

  later_firsts : (last : Bool) (n : ℕ) → AllByRecursion (λ q. q.first ≡ false) (later last n)
  later_firsts last zero = tt
  later_firsts last (suc n) = (refl, later_firsts last n)

  rest_firsts : (k n : ℕ) → AllByRecursion (λ q. q.first ≡ false) (all_pieces (runs false k n))
  rest_firsts zero n = tt
  rest_firsts (suc k) n = (refl, all_append (λ q. q.first ≡ false) (later (is_none_more k) n) (all_pieces (runs false k n)) (later_firsts (is_none_more k) n) (rest_firsts k n))

  begins : (k n : ℕ) → BeginsOnce (all_pieces (runs true (suc k) n))
  begins k n = (refl, all_append (λ q. q.first ≡ false) (later (is_none_more k) n) (all_pieces (runs false k n)) (later_firsts (is_none_more k) n) (rest_firsts k n))

  alone : (p : Piece) (qs : List Piece) → p.last ≡ true → qs ≡ [] → EndsOnce (p ∷ qs)
  alone p qs e none = subst (λ x. EndsOnce (p ∷ x)) (sym none) e

  following : (p : Piece) (qs : List Piece) → p.last ≡ false → EndsOnce qs → EndsOnce (p ∷ qs)
  following p [] e h = absurd h
  following p (q ∷ qs) e h = (e, h)

  ends_after : (p : Piece) (last : Bool) (n : ℕ) (qs : List Piece) → p.last ≡ ends last n → (last ≡ true → qs ≡ []) → (last ≡ false → EndsOnce qs) → EndsOnce (p ∷ (later last n ++ qs))
  ends_after p true zero qs e none h = alone p qs e (none refl)
  ends_after p false zero qs e none h = following p qs e (h refl)
  ends_after p last (suc n) qs e none h = (e, ends_after (empty_piece last n) last n qs refl none h)

  ends_all : (first : Bool) (k n : ℕ) → EndsOnce (all_pieces (runs first (suc k) n))
  ends_all first zero n = ends_after (initial first true n) true n [] refl (λ e. refl) (λ e. absurd (clash e))
  ends_all first (suc k) n = ends_after (initial first false n) false n (all_pieces (runs false (suc k) n)) refl (λ e. absurd (clash (sym e))) (λ e. ends_all false k n)

  -- ---- their spelling

  later_pieces : (last : Bool) (n : ℕ) → AllByRecursion IsPiece (later last n)
  later_pieces last zero = tt
  later_pieces last (suc n) = (
    record { tnf = omega arith; kind = tt; kind_length = omega arith; id = tt; id_length = omega arith; payload = tt; payload_length = omega arith },
    later_pieces last n,
  )

  all_are : (first : Bool) (k n : ℕ) → AllByRecursion IsPiece (all_pieces (runs first k n))
  all_are first zero n = tt
  all_are first (suc k) n = (
    record {
      tnf = omega arith;
      kind = named;
      kind_length = omega (arith, long_name);
      id = named;
      id_length = omega (arith, long_name);
      payload = filled;
      payload_length = small;
    },
    all_append IsPiece (later (is_none_more k) n) (all_pieces (runs false k n)) (later_pieces (is_none_more k) n) (all_are false k n),
  )

  later_long : (last : Bool) (n : ℕ) → length (flat_map long (later last n)) ≡ 6 * n
  later_long last zero = omega arith
  later_long last (suc n) =
      let more = later_long last n in
      let here = piece_octets (empty_piece last n) false in
      let all = length-append (long (empty_piece last n)) (flat_map long (later last n)) in
      omega arith

  run_long : (first last : Bool) (n : ℕ) → length (flat_map long (pieces (run first last n))) ≡ 6 * n + 517 + length content
  run_long first last n =
      let more = later_long last n in
      let here = piece_octets (initial first last n) false in
      let all = length-append (long (initial first last n)) (flat_map long (later last n)) in
      omega (arith, long_name)

  one_more : (a b k size : ℕ) → a ≡ size → b ≡ k * size → a + b ≡ suc k * size
  one_more a b k size h e = omega arith

  runs_long : (first : Bool) (k n : ℕ) → length (flat_map long (all_pieces (runs first k n))) ≡ k * (6 * n + 517 + length content)
  runs_long first zero n = omega arith
  runs_long first (suc k) n =
      long_append (pieces (run first (is_none_more k) n)) (all_pieces (runs false k n))
      ∙ one_more _ _ k (6 * n + 517 + length content) (run_long first (is_none_more k) n) (runs_long false k n)

  -- ---- within the limits

  runs_number : (first : Bool) (k n : ℕ) → length (runs first k n) ≡ k
  runs_number first zero n = refl
  runs_number first (suc k) n = let e = runs_number false k n in omega arith

  later_number : (last : Bool) (n : ℕ) → length (later last n) ≡ n
  later_number last zero = refl
  later_number last (suc n) = let e = later_number last n in omega arith

  few_pieces : (most : ℕ) (first : Bool) (k n : ℕ) → n + 1 ≤ most → AllByRecursion (λ r. length (pieces r) ≤ most) (runs first k n)
  few_pieces most first zero n h = tt
  few_pieces most first (suc k) n h = ((let e = later_number (is_none_more k) n in omega arith), few_pieces most false k n h)

  small_payloads : (most : ℕ) (first : Bool) (k n : ℕ) → length content ≤ most → AllByRecursion (λ r. length (payload_of (pieces r)) ≤ most) (runs first k n)
  small_payloads most first zero n h = tt
  small_payloads most first (suc k) n h = (subst (λ x. length x ≤ most) (sym (run_payload first (is_none_more k) n)) h, small_payloads most false k n h)

  members : (set : Sets) → TakesOthers set → (limits : LimitValues) (first : Bool) (k n : ℕ) → AllByRecursion (IsMember set limits) (map run_record (runs first k n))
  members set others limits first zero n = tt
  members set others limits first (suc k) n =
      (others (tnf_of 2) name no_name limits.records limits.profile _ (subst AreOctets (sym (run_payload first (is_none_more k) n)) filled), members set others limits false k n)

  accepted : (set : Sets) → TakesOthers set → (limits : LimitValues) (k n : ℕ) → limits.records ≡ suc k → limits.pieces ≡ n + 1 → length content ≡ limits.payload
      → Accepted set limits (map run_record (runs true (suc k) n)) (flat_map long (all_pieces (runs true (suc k) n)))
  accepted set others limits k n few parts full = record {
    runs = runs true (suc k) n;
    spelling = record {
      message = record {
        each_run = runs_are limits.profile true (suc k) n;
        items = refl;
        shaped = shapes true (suc k) n;
        begins = begins k n;
        ends = ends_all true k n;
      };
      spelled = long_spells (all_pieces (runs true (suc k) n)) (all_are true (suc k) n);
    };
    within = record {
      few_records = (let e = runs_number true (suc k) n in omega arith);
      few_pieces = few_pieces limits.pieces true (suc k) n (omega arith);
      small = small_payloads limits.payload true (suc k) n (omega arith);
    };
    members = members set others limits true (suc k) n;
  }

  greatest : (limits : LimitValues) (k n : ℕ) → limits.records ≡ suc k → limits.pieces ≡ n + 1 → length content ≡ limits.payload
      → length (flat_map long (all_pieces (runs true (suc k) n))) ≡ greatest_length limits
  greatest limits k n few parts full =
      runs_long true (suc k) n
      ∙ ap (λ x. x * (6 * n + 517 + length content)) (sym few)
      ∙ ap (λ x. limits.records * x) (let q : 6 * n + 517 + length content ≡ 6 * limits.pieces + 511 + limits.payload = omega arith in q)

pub greatest_length_is_reached : (set : Sets) → TakesOthers set → GreatestIsReached set
greatest_length_is_reached set others limits range =
    let k = limits.records - 1 in
    let n = limits.pieces - 1 in
    let few : limits.records ≡ suc k = (let h = range.records.0 in omega arith) in
    let parts : limits.pieces ≡ n + 1 = (let h = range.pieces.0 in omega arith) in
    let name = zeros 255 in
    let content = zeros limits.payload in
    let named = zeros_octets 255 in
    let long_name = zeros_length 255 in
    let filled = zeros_octets limits.payload in
    let full = zeros_length limits.payload in
    let small : length content < 2 ^ 32 = (let h = range.payload.1 in omega arith) in (
      map run_record (runs name content (a_zero 254) named long_name filled small true (suc k) n),
      flat_map long (all_pieces (runs name content (a_zero 254) named long_name filled small true (suc k) n)),
      accepted name content (a_zero 254) named long_name filled small set others limits k n few parts full,
      greatest name content (a_zero 254) named long_name filled small limits k n few parts full,
    )
