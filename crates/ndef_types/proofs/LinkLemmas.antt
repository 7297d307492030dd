-- Links, record by record.
use Rattle.std.proofs.Common.{◌≡◌, ◌≢◌, ℕ, zero, suc, false, List, [], ◌∷◌, drop, map, refl, sym, ◌∙◌, ap, None, Some, append-nil}
use Rattle.std.specs.Prelude.{slice_get, if◌then◌else◌}
use Rattle.std.specs.List.{AllByRecursion}
use Rattle.ndef_format.specs.Handovers.{IsAlternative}
use Rattle.ndef_format.specs.Messages.{Item, payload_of, run_record}
use Rattle.ndef_format.specs.Records.{Piece, Run, pieces}
use Rattle.ndef_format.specs.Kinds.{kind_of}
use Rattle.ndef_format.specs.declared.kind.Kind.{Kind}
use Rattle.ndef_format.specs.declared.kind.Kind.TheVariants as kinds
use Rattle.ndef_message.specs.Views.{only_payload}
use Rattle.ndef_types.specs.Links.{AreLinks, HasWholeCarrier, IsIndexOf, alternatives, is_alternative}
use Rattle.ndef_types.specs.Values.{StandsForAc}
use Rattle.ndef_types.specs.declared.link.Link.{Link}

not_alternative : (kind : Kind) → kind ≢ kinds.Alternative → is_alternative kind ≡ false
not_alternative kinds.Alternative h = absurd (h refl)
not_alternative _ h = refl

pub alternative_here : (i : Item) (items : List Item) → kind_of i.tnf i.kind ≡ kinds.Alternative → alternatives (i ∷ items) ≡ i ∷ alternatives items
alternative_here i items a = ap (λ kind. if is_alternative kind then i ∷ alternatives items else alternatives items) a

pub alternative_later : (i : Item) (items : List Item) → kind_of i.tnf i.kind ≢ kinds.Alternative → alternatives (i ∷ items) ≡ alternatives items
alternative_later i items a = ap (λ b. if b then i ∷ alternatives items else alternatives items) (not_alternative (kind_of i.tnf i.kind) a)

-- one alternative carrier more in front
pub link_here : (outer items : List Item) (i : Item) (k : Link) (links : List Link) → kind_of i.tnf i.kind ≡ kinds.Alternative → StandsForAc i.payload k.ac → IsIndexOf outer k.ac.reference k.index
    → AreLinks outer (alternatives items) links → AreLinks outer (alternatives (i ∷ items)) (k ∷ links)
link_here outer items i k links a s x h = rw (alternative_here i items a) (s, x, h)

-- ---- the index of a record

-- what is in front of the records that are left stands at their place
pub at_front : (items : List Item) (n : ℕ) (i : Item) (rest : List Item) → drop n items ≡ i ∷ rest → (slice_get items n ≡ Some i) × (drop (suc n) items ≡ rest)
at_front [] zero i rest e = absurd (cc)
at_front [] (suc n) i rest e = absurd (cc)
at_front (j ∷ items) zero i rest e = (cc, cc)
at_front (j ∷ items) (suc n) i rest e = at_front items n i rest e

-- ---- the payload of a carrier

only_of : (p : Piece) (later : List Piece) (s : List ℕ) → Some s ≡ only_payload (p ∷ later) → s ≡ payload_of (p ∷ later)
only_of p [] s e = let x : s ≡ p.payload = cc in x ∙ sym (append-nil p.payload)
only_of p (q ∷ later) s e = absurd (cc)

pub only_is_whole : (r : Run) (s : List ℕ) → Some s ≡ only_payload (pieces r) → s ≡ (run_record r).payload
only_is_whole r s e = only_of r.initial r.later s e

pub whole_carriers : (runs : List Run) → AllByRecursion (λ r. r.later ≡ []) runs → AllByRecursion (λ i. kind_of i.tnf i.kind ≡ kinds.Alternative → IsAlternative i.payload) (map run_record runs)
    → AllByRecursion HasWholeCarrier runs
whole_carriers [] s h = tt
whole_carriers (r ∷ runs) s h = (λ e. (s.0, h.0 e), whole_carriers runs s.1 h.1)
