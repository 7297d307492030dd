use Rattle.std.proofs.Common.{◌==◌, drop, length, sym, ◌∙◌, ap, subst, true≢false}
use Rattle.ndef_format.specs.HeadReasons.{is_set}
use Rattle.ndef_piece.specs.Whole.{IsSplit, shown}
use Rattle.ndef_c.proofs.Ahead.{empty_rest}
use Rattle.ndef_c.proofs.Built.{ends_only}
use Rattle.ndef_c.proofs.building.ends_with_piece.Goals as goal

pub returns-then-not-is_last : goal.returns-then-not-is_last
returns-then-not-is_last c =
    let s = subst (IsSplit (shown c.in-Some.piece) _ c.in-Some.piece.rest.now) c.split_at.ensures.back c.in-Some.ensures.piece in
    (λ t. absurd (true≢false (sym t)), λ e. absurd (true≢false (sym (ends_only c.heads_are_unambiguous.ensures.apart _ _ _ _ _ s e).0 ∙ sym c.is_last.ensures ∙ c.if-not-is_last.true)))

pub returns-then-is_chunked : goal.returns-then-is_chunked
returns-then-is_chunked c =
    let s = subst (IsSplit (shown c.in-Some.piece) _ c.in-Some.piece.rest.now) c.split_at.ensures.back c.in-Some.ensures.piece in
    (λ t. absurd (true≢false (sym t)), λ e. absurd (true≢false (sym c.if-is_chunked.true ∙ c.is_chunked.ensures ∙ (ends_only c.heads_are_unambiguous.ensures.apart _ _ _ _ _ s e).1)))

pub returns : goal.returns
returns c =
    let p = c.in-Some.piece in
    let s = subst (IsSplit (shown p) _ p.rest.now) c.split_at.ensures.back c.in-Some.ensures.piece in (
      λ t. record {
        piece = shown p;
        short = is_set 4 p.header;
        split = subst (λ r. IsSplit (shown p) (is_set 4 p.header) r (drop c.args.at c.args.bytes.now)) (empty_rest p.rest.now (sym c.is_empty.ensures ∙ t)) s;
        last = sym c.is_last.ensures ∙ c.if-not-is_last.false;
        whole = sym c.is_chunked.ensures ∙ c.if-is_chunked.false;
      },
      λ e. c.is_empty.ensures ∙ ap (λ r. length r == 0) (ends_only c.heads_are_unambiguous.ensures.apart _ _ _ _ _ s e).2,
    )
