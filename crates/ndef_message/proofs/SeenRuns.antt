-- A run that is read piece by piece, and the runs after it.
use Rattle.std.proofs.Common.{◌≡◌, ℕ, ◌+◌, ◌-◌, ◌<◌, ◌≤◌, take, drop, take_at, drop_at, ◌^◌, true, false, refl, sym, ◌∙◌, ap, ap₂, subst, arith, List, [], ◌∷◌, ◌++◌, length, length-append, append_assoc, append-nil, true≢false, Some, None}
use Rattle.std.specs.Prelude.{unwrap_or}
use Rattle.std.specs.List.{AllByRecursion, concat}
use Rattle.ndef_format.specs.Records.{Piece, Run, pieces, Follow}
use Rattle.ndef_format.specs.Messages.{SpellsPieces, all_pieces, payload_of, run_record}
use Rattle.ndef_format.specs.Canonical.{HasLengths}
use Rattle.ndef_message.specs.Machine.Seen.{AreRun, AreRuns, IsSeenRecord, pieces_of, runs_of, run_of}
use Rattle.ndef_message.specs.Views.{payloads, only_payload}
use Rattle.ndef_message.proofs.Rests.{spell_append}
use Rattle.ndef_message.specs.Machine.SeenLaws.{First, first_piece_of, pieces_reported, run_reported, run_is}

-- these bytes and payload octets of a run were read, some of its pieces are left, and runs after it
pub record Going (bytes rest : List ℕ) (size : ℕ) : Type 0 where
  pub run : Run
  pub runs : List Run
  pub done : List Piece
  pub next : Piece
  pub later : List Piece
  pub are : done ++ next ∷ later ≡ pieces run
  pub follow : Follow next.chunked later
  pub read : IsSeenRecord run
  pub each : AllByRecursion IsSeenRecord runs
  pub front : List ℕ
  pub split : bytes ≡ front ++ rest
  pub spelled : SpellsPieces done front
  pub left : SpellsPieces (next ∷ (later ++ all_pieces runs)) rest
  pub counted : size + length (payload_of (next ∷ later)) ≡ length (payload_of (pieces run))

-- before the first piece
pub going_at : (bytes : List ℕ) → 0 < length bytes → AreRuns bytes → Going bytes bytes 0
going_at bytes some a = by_runs a.runs a.spelled a.read
  where
    by_runs : (rs : List Run) → SpellsPieces (all_pieces rs) bytes → AllByRecursion IsSeenRecord rs → Going bytes bytes 0
    by_runs [] s h = absurd (let n = ap length s in omega (arith, n, some))
    by_runs (r ∷ rs) s h = record {
      run = r;
      runs = rs;
      done = [];
      next = r.initial;
      later = r.later;
      are = refl;
      follow = h.0.follow;
      read = h.0;
      each = h.1;
      front = [];
      split = refl;
      spelled = refl;
      left = s;
      counted = omega arith;
    }

-- the next piece
pub next_of : {bytes rest : List ℕ} {size : ℕ} (g : Going bytes rest size) → First g.next (g.later ++ all_pieces g.runs) rest
next_of {rest = rest} g = first_piece_of g.next (g.later ++ all_pieces g.runs) rest g.left

-- the pieces read so far with it
one_more : {bytes rest : List ℕ} {size : ℕ} (g : Going bytes rest size) → SpellsPieces (g.done ++ g.next ∷ []) (g.front ++ (next_of g).split.front)
one_more g =
    let n = next_of g in
    let octets = n.split.front in
    spell_append g.done (g.next ∷ []) g.front octets g.spelled (n.short, octets, [], sym (append-nil octets), n.split.spells, refl)

further : {bytes rest : List ℕ} {size : ℕ} (g : Going bytes rest size) → bytes ≡ (g.front ++ (next_of g).split.front) ++ (next_of g).rest
further g = let n = next_of g in g.split ∙ ap (λ x. g.front ++ x) n.split.joined ∙ sym (append_assoc g.front n.split.front n.rest)

-- its payload has room in 32 bits, with those before it
pub room_of : {bytes rest : List ℕ} {size : ℕ} (g : Going bytes rest size) → size + length g.next.payload < 2 ^ 32
room_of {size = size} g =
    let n = g.counted ∙ refl in
    let k = length-append g.next.payload (payload_of g.later) in
    let m = g.read.small in
    omega (arith, n, k, m)

-- after a piece that another one follows
pub goes_on : {bytes rest : List ℕ} {size : ℕ} (g : Going bytes rest size) → g.next.chunked ≡ true → (following : List ℕ) → following ≡ (next_of g).rest → (n : ℕ) → n ≡ size + length g.next.payload
    → Going bytes following n
goes_on {bytes} {rest} {size} g c following b n e = by_later g.later g.are g.follow (next_of g).more g.counted
  where
    by_later : (later : List Piece) → g.done ++ g.next ∷ later ≡ pieces g.run → Follow g.next.chunked later → SpellsPieces (later ++ all_pieces g.runs) (next_of g).rest
        → size + length (payload_of (g.next ∷ later)) ≡ length (payload_of (pieces g.run)) → Going bytes following n
    by_later [] are f more k = absurd (true≢false (sym c ∙ f))
    by_later (q ∷ later) are f more k = record {
      run = g.run;
      runs = g.runs;
      done = g.done ++ g.next ∷ [];
      next = q;
      later = later;
      are = append_assoc g.done (g.next ∷ []) (q ∷ later) ∙ are;
      follow = f.2;
      read = g.read;
      each = g.each;
      front = g.front ++ (next_of g).split.front;
      split = further g ∙ ap (λ x. (g.front ++ (next_of g).split.front) ++ x) (sym b);
      spelled = one_more g;
      left = subst (SpellsPieces (q ∷ (later ++ all_pieces g.runs))) (sym b) more;
      counted = let l = length-append g.next.payload (payload_of (q ∷ later)) in omega (arith, l, k, e);
    }

-- after the last piece of the run
pub record Over (bytes following : List ℕ) (size : ℕ) : Type 0 where
  pub front : List ℕ
  pub split : bytes ≡ front ++ following
  pub run : AreRun front size
  pub rest : AreRuns following

pub is_over : {bytes rest : List ℕ} {size : ℕ} (g : Going bytes rest size) → g.next.chunked ≡ false → (following : List ℕ) → following ≡ (next_of g).rest → (n : ℕ) → n ≡ size + length g.next.payload
    → Over bytes following n
is_over {bytes} {rest} {size} g c following b n e = by_later g.later g.are g.follow (next_of g).more g.counted
  where
    by_later : (later : List Piece) → g.done ++ g.next ∷ later ≡ pieces g.run → Follow g.next.chunked later → SpellsPieces (later ++ all_pieces g.runs) (next_of g).rest
        → size + length (payload_of (g.next ∷ later)) ≡ length (payload_of (pieces g.run)) → Over bytes following n
    by_later (q ∷ later) are f more k = absurd (true≢false (sym f.0 ∙ c))
    by_later [] are f more k = record {
      front = g.front ++ (next_of g).split.front;
      split = further g ∙ ap (λ x. (g.front ++ (next_of g).split.front) ++ x) (sym b);
      run = record {
        run = g.run;
        spelled = subst (λ ps. SpellsPieces ps (g.front ++ (next_of g).split.front)) are (one_more g);
        read = g.read;
        size_is = let l = length-append g.next.payload [] in omega (arith, l, k, e);
      };
      rest = record { runs = g.runs; spelled = subst (SpellsPieces (all_pieces g.runs)) (sym b) more; read = g.each };
    }

-- it is a part of the bytes
pub within : {bytes rest : List ℕ} {size : ℕ} (g : Going bytes rest size) → length (next_of g).rest ≤ length bytes
within g =
    let e = ap length (further g) ∙ length-append (g.front ++ (next_of g).split.front) (next_of g).rest in
    omega (arith, e)

-- the first part of the bytes, cut off by its length
pub cut_off : {bytes following front back : List ℕ} {size : ℕ} (o : Over bytes following size) → front ≡ take (length bytes - length following) bytes → back ≡ drop (length bytes - length following) bytes
    → (front ≡ o.front) × (back ≡ following)
cut_off {bytes} {following} {front} {back} o f b =
    let n = length bytes - length following in
    let e = ap length o.split ∙ length-append o.front following in
    let size : length o.front ≡ n = omega (arith, e) in
    (f ∙ ap (take n) o.split ∙ take_at o.front following n size, b ∙ ap (drop n) o.split ∙ drop_at o.front following n size)

-- what is known of both parts
pub reported : {bytes following : List ℕ} {size : ℕ} (o : Over bytes following size) → runs_of (pieces_of bytes) ≡ run_of o.front ∷ runs_of (pieces_of following)
reported {bytes} {following} o =
    let r = o.run.run in
    let rs = o.rest.runs in
    let all : SpellsPieces (pieces r ++ all_pieces rs) bytes = subst (SpellsPieces (pieces r ++ all_pieces rs)) (sym o.split) (spell_append (pieces r) (all_pieces rs) o.front following o.run.spelled o.rest.spelled) in
    ap runs_of (pieces_reported (pieces r ++ all_pieces rs) bytes all)
    ∙ run_reported r.initial r.later (all_pieces rs) o.run.read.follow
    ∙ ap₂ (λ x ps. x ∷ runs_of ps) (sym (run_is r o.front o.run.spelled)) (sym (pieces_reported (all_pieces rs) following o.rest.spelled))

-- ---- one run

-- the run that is seen is the one that the bytes are
pub run_seen : {bytes : List ℕ} {size : ℕ} {r : Run} (a : AreRun bytes size) → run_of bytes ≡ r → a.run ≡ r
run_seen {bytes} a e = sym (run_is a.run bytes a.spelled) ∙ e

-- its initial piece
pub initial_of : {bytes : List ℕ} {size : ℕ} (a : AreRun bytes size) → First a.run.initial a.run.later bytes
initial_of {bytes} a = first_piece_of a.run.initial a.run.later bytes a.spelled

pub read_seen : {bytes : List ℕ} {size : ℕ} {r : Run} (a : AreRun bytes size) → run_of bytes ≡ r → IsSeenRecord r
read_seen a e = subst IsSeenRecord (run_seen a e) a.read

pub payloads_joined : (ps : List Piece) → concat (payloads ps) ≡ payload_of ps
payloads_joined [] = refl
payloads_joined (p ∷ ps) = ap (λ x. p.payload ++ x) (payloads_joined ps)

-- the payload of a run of one piece, and of none other
pub only_one : (p : Piece) (later : List Piece) → Follow p.chunked later → p.chunked ≡ false → Some p.payload ≡ only_payload (p ∷ later)
only_one p [] f c = refl
only_one p (q ∷ later) f c = absurd (true≢false (sym f.0 ∙ c))

pub not_only_one : (p : Piece) (later : List Piece) → Follow p.chunked later → p.chunked ≡ true → None ≡ only_payload (p ∷ later)
not_only_one p [] f c = absurd (true≢false (sym c ∙ f))
not_only_one p (q ∷ later) f c = refl

id_size : (p : Piece) (bytes : List ℕ) (later : List Piece) → SpellsPieces (p ∷ later) bytes → (length p.kind < 256) × (length (unwrap_or p.id []) < 256)
id_size p bytes later s = (s.4.piece.kind_length, s.4.piece.id_length)

-- its parts are as long as those of a record
pub lengths_seen : {bytes : List ℕ} {size : ℕ} {r : Run} (a : AreRun bytes size) → run_of bytes ≡ r → HasLengths (run_record r)
lengths_seen {bytes} a e =
    let n = id_size a.run.initial bytes a.run.later a.spelled in
    subst (λ r. HasLengths (run_record r)) (run_seen a e) (record { kind = n.0; id = n.1; payload = a.read.small })
