-- The sentences about the end of the input are true.
use Rattle.std.proofs.Common.{◌≡◌, ◌≢◌, ◌<◌, ℕ, Bool, true, false, List, [], ◌∷◌, ◌++◌, length, refl, sym, ◌∙◌, ap, ap₂, subst, arith, append_assoc, length-append}
use Rattle.ndef_format.specs.Messages.{EndsOnce, SpellsPieces}
use Rattle.ndef_format.specs.Positions.{NoneLast}
use Rattle.ndef_format.specs.Records.{Piece}
use Rattle.ndef_message.specs.Machine.SeenLaws.{same_split}
use Rattle.ndef_diagnostics.specs.Expectations.{missing}
use Rattle.ndef_diagnostics.specs.Truths.{MessageIsMissing, NextIsMissing}
use Rattle.ndef_diagnostics.specs.declared.expected.Expected.{Expected}
use Rattle.ndef_diagnostics.specs.declared.expected.Expected.TheVariants.{Message, NextChunk, NextRecord}

-- ---- what is missing

-- what these expectations say of the pieces
record Says (in_chunks : Bool) (w : Expected) : Type 0 where
  message : w ≢ Message
  next : w ≡ NextRecord → in_chunks ≡ false
  chunk : w ≡ NextChunk → in_chunks ≡ true

says : (in_chunks : Bool) (s : List ℕ) → Says in_chunks (missing in_chunks s)
says in_chunks [] = record { message = λ e. grind arith; next = λ e. grind arith; chunk = λ e. grind arith }
says in_chunks (h ∷ []) = record { message = λ e. cc; next = λ e. cc; chunk = λ e. cc }
says in_chunks (h ∷ k ∷ s) = record { message = λ e. grind arith; next = λ e. grind arith; chunk = λ e. grind arith }

-- ---- pieces that follow

some_pieces : (ps : List Piece) (bytes : List ℕ) → SpellsPieces ps bytes → 0 < length bytes → ps ≢ []
some_pieces [] bytes i l = absurd (omega (arith, ap length i, l))
some_pieces (p ∷ ps) bytes i l = λ e. cc

pub go_on : (ps qs : List Piece) (front more : List ℕ) → SpellsPieces ps front → SpellsPieces qs (front ++ more) → 0 < length more
    → (others : List Piece) × (qs ≡ ps ++ others) × (others ≢ []) × SpellsPieces others more
go_on [] qs front more a b l = let j = subst (λ z. SpellsPieces qs (z ++ more)) a b in (qs, refl, some_pieces qs more j l, j)
go_on (p ∷ ps) [] front more a b l = absurd (omega (arith, ap length b, length-append front more, l))
go_on (p ∷ ps) (q ∷ qs) front more (short, head, rest, e, i, n) (form, first, later, d, j, m) l =
    let same =
    same_split p q short form (rest ++ more) later (front ++ more)
    (record { front = head; spells = i; joined = ap (λ z. z ++ more) e ∙ append_assoc head rest more }) (record { front = first; spells = j; joined = d }) in
    let k = go_on ps qs rest more n (subst (SpellsPieces qs) (sym same.1) m) l in
    (k.0, ap₂ (λ x xs. x ∷ xs) (sym same.0) k.1, k.2, k.3)

none_last : (ps others : List Piece) → EndsOnce (ps ++ others) → others ≢ [] → NoneLast ps
none_last [] others e h = tt
none_last (p ∷ []) [] e h = absurd (h refl)
none_last (p ∷ []) (q ∷ others) e h = (e.0, tt)
none_last (p ∷ q ∷ ps) others e h = (e.0, none_last (q ∷ ps) others e.1 h)

-- ---- the laws

pub message_missing : MessageIsMissing
message_missing [] s in_chunks e = refl
message_missing (b ∷ input) s in_chunks e = absurd ((says in_chunks s).message e)

next_missing : (w : Expected) (in_chunks : Bool) → w ≢ Message → ((chunks : Bool) (s : List ℕ) → missing chunks s ≡ w → chunks ≡ in_chunks)
    → NextIsMissing w in_chunks
next_missing w in_chunks other implies [] s more whole ps e i last l = absurd (other (sym e))
next_missing w in_chunks other implies (b ∷ input) s more whole ps e i last l =
    let spelled = subst (SpellsPieces ps) (ap (λ z. z ++ more) whole.split ∙ append_assoc whole.front s more) i in
    let k = go_on whole.pieces ps whole.front (s ++ more) whole.spelled spelled (omega (arith, length-append s more, l)) in
    record {
      none_last = none_last whole.pieces k.0 (subst EndsOnce k.1 last) k.2;
      chunk = implies _ s e;
      others = k.0;
      follow = k.1;
      some = k.2;
    }

pub record_missing : NextIsMissing NextRecord false
record_missing = next_missing NextRecord false (λ e. cc) (λ chunks s e. (says chunks s).next e)

pub chunk_missing : NextIsMissing NextChunk true
chunk_missing = next_missing NextChunk true (λ e. cc) (λ chunks s e. (says chunks s).chunk e)
