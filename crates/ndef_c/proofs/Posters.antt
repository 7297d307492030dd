-- The records of posters.
use Rattle.std.proofs.Common.{ℕ, List, Some, inr, subst}
use Rattle.ndef_format.specs.Messages.{Item}
use Rattle.ndef_format.specs.declared.profile.Profile.{Profile}
use Rattle.ndef_format.specs.Nested.{IsPayload, kind_in}
use Rattle.ndef_format.specs.declared.kind.Kind.{Kind}
use Rattle.ndef_format.specs.declared.table.Table.TheVariants.{SmartPoster}
use Rattle.ndef_types.specs.Contents.{IsFirstOf, IsOfKind}
use Rattle.ndef_types.specs.ContentsLaws.{has_at}
use Rattle.ndef_c.specs.Nested.{MayBeInPieces}
use Rattle.ndef_c.specs.Posters.{HasPosterRecords}

pub in_pieces : (profile : Profile) (items : List Item) (payload : List ℕ) → HasPosterRecords profile items payload → MayBeInPieces profile items payload
in_pieces profile items payload h = inr (record { runs = h.0; spelling = h.1.spelling; single = h.1.single })

-- the first record of a kind has a payload of it
pub first_has : (profile : Profile) (items : List Item) (payload : List ℕ) (kind : Kind) (i : Item) → HasPosterRecords profile items payload → IsFirstOf (IsOfKind SmartPoster kind) items (Some i) → IsPayload kind profile i.payload
first_has profile items payload kind i h f =
    subst (λ k. IsPayload k profile i.payload) f.1.has (has_at (λ j. IsPayload (kind_in SmartPoster j.tnf j.kind) profile j.payload) items f.0 i h.1.contents.members f.1.at)
