-- The order of the reasons.
use Rattle.std.proofs.Common.{◌≡◌, ℕ, zero, suc, List, [], ◌∷◌, refl, sym, ◌∙◌, ap}
use Rattle.ndef_format.specs.Reasons.{rank_of, RanksAreApart}
use Rattle.ndef_format.specs.declared.reason.Reason.{Reason}
use Rattle.ndef_format.specs.declared.reason.Reason.TheVariants.{ReservedTnf, BeginMissing, BeginAgain, UnchangedOutside, ChangedInside, IdInside, ChunkAtEnd, ChunkOfEmpty, TooManyPieces, TooManyRecords, TypeNotEmpty, TypeEmpty, EmptyNotEmpty, PayloadTooLarge, TextBit, Language, Utf8, Utf16, UriCode, UriMissing, UriAgain, Version, CollisionMissing, DoesNotFit, EndOfInput}

-- the reason at a place of a list
reason_at : List Reason → ℕ → Reason
reason_at [] n = EndOfInput
reason_at (r ∷ rs) zero = r
reason_at (r ∷ rs) (suc n) = reason_at rs n

-- the reasons by their ranks, which begin at 1
abbrev in_order : List Reason
in_order = DoesNotFit ∷ ReservedTnf ∷ BeginMissing ∷ BeginAgain ∷ UnchangedOutside ∷ ChangedInside ∷ IdInside ∷ ChunkAtEnd ∷ ChunkOfEmpty ∷ TooManyPieces ∷ TooManyRecords ∷ TypeNotEmpty ∷ TypeEmpty ∷ EmptyNotEmpty ∷ PayloadTooLarge ∷ TextBit ∷ Language ∷ Utf8 ∷ Utf16 ∷ UriCode ∷ UriMissing ∷ UriAgain ∷ Version ∷ CollisionMissing ∷ DoesNotFit ∷ EndOfInput ∷ []

reason_of_rank : (reason : Reason) → reason_at in_order (rank_of reason) ≡ reason
unfolding reason_at
reason_of_rank ReservedTnf = refl
reason_of_rank BeginMissing = refl
reason_of_rank BeginAgain = refl
reason_of_rank UnchangedOutside = refl
reason_of_rank ChangedInside = refl
reason_of_rank IdInside = refl
reason_of_rank ChunkAtEnd = refl
reason_of_rank ChunkOfEmpty = refl
reason_of_rank TooManyPieces = refl
reason_of_rank TooManyRecords = refl
reason_of_rank TypeNotEmpty = refl
reason_of_rank TypeEmpty = refl
reason_of_rank EmptyNotEmpty = refl
reason_of_rank PayloadTooLarge = refl
reason_of_rank TextBit = refl
reason_of_rank Language = refl
reason_of_rank Utf8 = refl
reason_of_rank Utf16 = refl
reason_of_rank UriCode = refl
reason_of_rank UriMissing = refl
reason_of_rank UriAgain = refl
reason_of_rank Version = refl
reason_of_rank CollisionMissing = refl
reason_of_rank DoesNotFit = refl
reason_of_rank EndOfInput = refl

pub ranks_are_apart : RanksAreApart
ranks_are_apart reason other e = sym (reason_of_rank reason) ∙ ap (reason_at in_order) e ∙ reason_of_rank other
