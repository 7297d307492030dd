use Rattle.std.proofs.Common.{◌≡◌, length, min, arith, length-take, subst, sym, ◌∙◌, ap}
use Rattle.ndef_diagnostics.specs.TagMemory.{IsFirstBlock, TellsCut}
use Rattle.ndef_diagnostics.proofs.tag_memory.found_in.Goals as goal

pub first_block-block-requires : goal.first_block-block-requires
first_block-block-requires c =
    let e : length c.front_of-front.result.now ≡ min 16777216 (length c.args.bytes.now) =
    ap length c.front_of-front.ensures ∙ length-take 16777216 c.args.bytes.now in
    omega (arith, e)

pub is_cut-requires-clause-length : goal.is_cut-requires-clause-length
is_cut-requires-clause-length c =
    let e : length c.front_of-front.result.now ≡ min 16777216 (length c.args.bytes.now) =
    ap length c.front_of-front.ensures ∙ length-take 16777216 c.args.bytes.now in
    omega (arith, e)

pub returns : goal.returns
returns c =
    let e = c.front_of-front.ensures in
    let start = c.blocks_at-start.ensures.value in
    let front = c.front_of-front.result.now in
    let first = c.first_block-block.result in
    let block = subst (λ s. IsFirstBlock front s first) start c.first_block-block.ensures.first in
    let cut = subst (λ s. TellsCut front s first c.is_cut.result) start c.is_cut.ensures in
    record {
      container = c.first_container-container.result;
      is_container = rw (sym e) c.first_container-container.ensures.first;
      block = c.first_block-block.result;
      is_block = rw (sym e) block;
      cut = c.is_cut.result;
      is_cut = rw (sym e) cut;
      found_is = rw (sym e) c.found_by.ensures;
    }
