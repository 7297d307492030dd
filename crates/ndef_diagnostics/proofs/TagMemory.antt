-- Blocks that are passed over lead to one place.
use Rattle.std.proofs.Common.{◌≡◌, ◌<◌, ◌↔◌, ℕ, Bool, List, Option, Some, None, length, slice_index, true, false, refl, rules, sym, ap, subst, arith, ◌∙◌}
use Rattle.ndef_diagnostics.specs.declared.tag_memory.Found.{Found}
use Rattle.std.specs.Bool.{IsTrue}
use Rattle.ndef_diagnostics.specs.TagMemory.{Reaches, Stops, Finds, HasArea, IsFirstBlock, IsFirstContainer, IsMessageBlock, TellsCut, blocks_at, found_by, front, here, past, is_passed, next_block, states_area}
use Rattle.ndef_diagnostics.proofs.Tests.{not_true}

-- who comes to a block that is passed over comes to the next
pub further : {bytes : List ℕ} {start place : ℕ} → Reaches bytes start place → place < length bytes
    → is_passed (slice_index bytes place) ≡ true → Reaches bytes start (next_block bytes place)
further here inside passed = past inside passed here
further (past i p r) inside passed = past i p (further r inside passed)

-- the places that are not passed over, and to which one comes from a place, are one
pub one_stop : {bytes : List ℕ} {start place other : ℕ} → Reaches bytes start place → Stops bytes place
    → Reaches bytes start other → Stops bytes other → place ≡ other
one_stop here s here t = refl
one_stop here s (past i p r) t = absurd (s i p)
one_stop (past i p r) s here t = absurd (t i p)
one_stop (past i p r) s (past j q o) t = one_stop r s o t

-- a block for a message is not passed over
pub at_message : {bytes : List ℕ} {start place : ℕ} → IsMessageBlock bytes start place → Stops bytes place
at_message b = λ inside passed. let tag = b.tag in search rules

-- a block that states an area is passed over
control_passed : (bytes : List ℕ) (start until place : ℕ) → states_area bytes start until place ≡ true
    → is_passed (slice_index bytes place) ≡ true
control_passed bytes start until place states = search rules

ahead : {bytes : List ℕ} {start until place block : ℕ} → Reaches bytes place block → block < length bytes
    → states_area bytes start until block ≡ true → states_area bytes start until place ≡ false
    → HasArea bytes start until (next_block bytes place)
ahead here inside states none = absurd cc
ahead (past i p r) inside states none = record { block = _; reached = r; inside = inside; states = states }

-- an area of the blocks from one on that states none is of those after it
pub area_ahead : {bytes : List ℕ} {start until place : ℕ} → HasArea bytes start until place
    → states_area bytes start until place ≡ false → HasArea bytes start until (next_block bytes place)
area_ahead h none = ahead h.reached h.inside h.states none

at_stop : (bytes : List ℕ) (start until place block : ℕ) → Stops bytes place → Reaches bytes place block
    → block < length bytes → states_area bytes start until block ≡ true → ⊥
at_stop bytes start until place block s here inside states = s inside (control_passed bytes start until place states)
at_stop bytes start until place block s (past i p r) inside states = s i p

-- no area is stated from a place on at which no block is passed over
pub no_area : (bytes : List ℕ) (start until place : ℕ) → Stops bytes place → HasArea bytes start until place → ⊥
no_area bytes start until place s h = at_stop bytes start until place h.block s h.reached h.inside h.states

-- there is one answer to a question
one_answer : {P : Type 0} (b c : Bool) → IsTrue b ↔ P → IsTrue c ↔ P → b ≡ c
one_answer true true f g = refl
one_answer false false f g = refl
one_answer true false f g = absurd (not_true refl (g.1 (f.0 (search rules))))
one_answer false true f g = absurd (not_true refl (f.1 (g.0 (search rules))))

-- whether reserved areas may cut the message of a block has one answer
one_cut : (bytes : List ℕ) (start : ℕ) (block : Option ℕ) (b c : Bool) → TellsCut bytes start block b
    → TellsCut bytes start block c → b ≡ c
one_cut bytes start (Some place) b c f g = one_answer b c f g
one_cut bytes start None b c f g = f ∙ sym g

-- there is one first container
one_container : (bytes : List ℕ) (container other : Option ℕ) → IsFirstContainer bytes container
    → IsFirstContainer bytes other → container ≡ other
one_container bytes None None f g = refl
one_container bytes None (Some q) f g = let e = f q g.0 in let h = g.1 in search rules
one_container bytes (Some p) None f g = let e = g p f.0 in let h = f.1 in search rules
one_container bytes (Some p) (Some q) f g =
    let below : p < q → ⊥ = λ less. let e = g.2 p less in let h = f.1 in search rules in
    let above : q < p → ⊥ = λ less. let e = f.2 q less in let h = g.1 in search rules in
    let e : p ≡ q = omega (arith, below, above) in ap Some e

-- there is one first block
one_block : (bytes : List ℕ) (start : ℕ) (block other : Option ℕ) → IsFirstBlock bytes start block
    → IsFirstBlock bytes start other → block ≡ other
one_block bytes start None None f g = refl
one_block bytes start None (Some q) f g = absurd (f q g)
one_block bytes start (Some p) None f g = absurd (g p f)
one_block bytes start (Some p) (Some q) f g = ap Some (one_stop f.reached (at_message f) g.reached (at_message g))

-- a tag has one thing for a message
pub one_find : (bytes : List ℕ) (found other : Option Found) → Finds bytes found → Finds bytes other → found ≡ other
one_find bytes found other f g =
    let c = one_container (front bytes) f.container g.container f.is_container g.is_container in
    let start = ap (λ c. blocks_at c (front bytes)) c in
    let block = subst (λ s. IsFirstBlock (front bytes) s f.block) start f.is_block in
    let b = one_block (front bytes) (blocks_at g.container (front bytes)) f.block g.block block g.is_block in
    let cut = subst (λ s. TellsCut (front bytes) s f.block f.cut) start f.is_cut in
    let cut = subst (λ b. TellsCut (front bytes) (blocks_at g.container (front bytes)) b f.cut) b cut in
    let d = one_cut (front bytes) (blocks_at g.container (front bytes)) g.block f.cut g.cut cut g.is_cut in
    f.found_is ∙ ap (λ b. found_by b f.cut (front bytes)) b ∙ ap (λ d. found_by g.block d (front bytes)) d
    ∙ sym g.found_is
