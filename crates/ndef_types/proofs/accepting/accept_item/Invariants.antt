use Rattle.std.proofs.Common.{◌≡◌, ◌+◌, length, take, drop}
use Rattle.std.specs.List.{concat}
use Rattle.ndef_format.specs.Messages.{run_record}
use Rattle.ndef_lang.specs.Language.{Continues, PassesBetween}
use Rattle.ndef_types.proofs.accepting.accept_item.Given as goal

abbrev pub invariant-loop-piece : goal.invariant-loop-piece
invariant-loop-piece g l =
    let payload = (run_record l.fn.item).payload in
    let L = g.L.Language in
    record {
      counted : l.at + l.left ≡ length payload;
      rest : drop l.at payload ≡ concat l.piece-iterator;
      stepped : Continues (L.payloads l.fn.kind 65535 l.fn.profile) (L.future l.state) (take l.at payload);
      reached : L.reached l.state l.fn.kind 65535 l.fn.profile (take l.at payload);
      fits : PassesBetween (L.future l.state) l.left l.left;
    }
