use Rattle.std.proofs.Common.{map, take}
use Rattle.ndef_cli_make.specs.Contents.{MakesContent}
use Rattle.ndef_cli_make.proofs.Made.{AreKept}
use Rattle.ndef_cli_make.proofs.contents.push_texts.Given as goal

abbrev pub invariant-loop-text : goal.invariant-loop-text
invariant-loop-text l =
    AreKept (MakesContent l.payload) (map (λ text. (l.property, text.now)) (take l.text-index l.texts)) l.initial.records.items l.records.items
