-- The first handover of the records of a view.
use Rattle.std.proofs.Common.{◌≡◌, ◌≢◌, sym, subst, ◌⊎◌, inl, inr, suc, true, false, List, [], ◌∷◌, map, refl, Option, None, Some, Bool}
use Rattle.std.specs.Prelude.{if◌then◌else◌}
use Rattle.std.specs.List.{find}
use Rattle.ndef_format.specs.Messages.{Item, run_record}
use Rattle.ndef_format.specs.Records.{Run}
use Rattle.ndef_format.specs.Kinds.{kind_of}
use Rattle.ndef_format.specs.declared.kind.Kind.{Kind}
use Rattle.ndef_format.specs.declared.kind.Kind.TheVariants as kinds
use Rattle.ndef_types.specs.Contents.{IsFirstOf}
use Rattle.ndef_types.specs.Links.{HandoverIsChunked, IsHandoverRecord, is_handover}

-- the record of the run is a handover
abbrev is_one : Run → Bool
is_one r = is_handover (kind_of (run_record r).tnf (run_record r).kind)

kinds_reported : (kind : Kind) → is_handover kind ≡ true → (kind ≡ kinds.Request) ⊎ (kind ≡ kinds.Select)
kinds_reported kinds.Request e = inl refl
kinds_reported kinds.Select e = inr refl
kinds_reported _ e = cc

kinds_untold : (kind : Kind) → is_handover kind ≡ false → (kind ≡ kinds.Request) ⊎ (kind ≡ kinds.Select) → ⊥
kinds_untold kinds.Request e h = cc
kinds_untold kinds.Select e h = cc
kinds_untold _ e h = elim h [ inl p ↦ cc | inr p ↦ cc ]

-- the record of the run that was found
abbrev pub found_of : Option Run → Option Item
found_of None = None
found_of (Some r) = Some (run_record r)

-- the first handover of some records
abbrev IsFound : List Run → Option Run → Type 0
IsFound runs found = IsFirstOf IsHandoverRecord (map run_record runs) (found_of found)

first_later : (r : Run) (runs : List Run) (found : Option Run) → ¬ IsHandoverRecord (run_record r) → IsFound runs found → IsFound (r ∷ runs) found
first_later r runs None n f = (n, f)
first_later r runs (Some q) n f = (suc f.0, record { at = f.1.at; has = f.1.has; before = (n, f.1.before) })

first_here : (r : Run) (runs : List Run) (b : Bool) → is_one r ≡ b → IsFound runs (find is_one runs) → IsFound (r ∷ runs) (if b then Some r else find is_one runs)
first_here r runs true e f = (0, record { at = refl; has = kinds_reported _ e; before = tt })
first_here r runs false e f = first_later r runs (find is_one runs) (kinds_untold _ e) f

-- what is found among the runs is the first handover
pub first_found : (runs : List Run) → IsFirstOf IsHandoverRecord (map run_record runs) (found_of (find (λ r. is_handover (kind_of (run_record r).tnf (run_record r).kind)) runs))
first_found [] = tt
first_found (r ∷ runs) = first_here r runs (is_one r) refl (first_found runs)

-- ---- a chunked handover

chunked_on : (r : Run) (runs : List Run) → ¬ IsHandoverRecord (run_record r) → HandoverIsChunked runs → HandoverIsChunked (r ∷ runs)
chunked_on r runs n h = record {
  index = suc h.index;
  run = h.run;
  at = h.at;
  first = record { at = h.first.at; has = h.first.has; before = (n, h.first.before) };
  chunked = h.chunked;
}

-- the first handover that is found is chunked
pub found_chunked : (runs : List Run) (q : Run) → find (λ r. is_handover (kind_of (run_record r).tnf (run_record r).kind)) runs ≡ Some q → q.later ≢ [] → HandoverIsChunked runs
found_chunked [] q e c = absurd (cc)
found_chunked (r ∷ runs) q e c = by (is_one r) refl e (λ f. found_chunked runs q f c)
  where
    by : (b : Bool) → is_one r ≡ b → (if b then Some r else find is_one runs) ≡ Some q → (find is_one runs ≡ Some q → HandoverIsChunked runs) → HandoverIsChunked (r ∷ runs)
    by true t f more =
        let p : r ≡ q = cc in
        record { index = 0; run = r; at = refl; first = record { at = refl; has = kinds_reported _ t; before = tt }; chunked = subst (λ x. x.later ≢ []) (sym p) c }
    by false t f more = chunked_on r runs (kinds_untold _ t) (more f)
