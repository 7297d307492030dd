use Rattle.std.proofs.Common.{rules, arith, ◌++◌, ◌∷◌, [], false, refl, sym, ◌∙◌, ap, subst, map-id, append_assoc}
use Rattle.std.proofs.lemmas.Iterator.{YieldsList-from_chars}
use Rattle.std.proofs.lemmas.Iterator.Consumers.{YieldsList-end}
use Rattle.std.proofs.lemmas.Str.{chars_past_char, IsUtf8-past_char}
use Rattle.std.specs.Str.Iter.{chars_rest}
use Rattle.ndef_format.specs.Texts.{units_of, spelled}
use Rattle.ndef_types.specs.UnitLaws.{text_more}
use Rattle.ndef_c.specs.Buffers.{Puts}
use Rattle.ndef_c.proofs.Puts.{puts_none, puts_on}
use Rattle.ndef_c.proofs.utf16.put_units.Goals as goal

pub loop-c-init : goal.loop-c-init
loop-c-init c = record { utf8 = search rules; ahead = search rules; puts = puts_none c.args.out.now (omega arith) }

pub loop-c-preserved : goal.loop-c-preserved
loop-c-preserved c =
    let i = c.loop-c.invariant in
    let d = c.in-Some.c in
    let rest = chars_rest c.loop-c.c-iterator in
    let past = chars_past_char rest (chars_rest c.next.new.self) d i.utf8 c.in-Some.ensures.steps.0 in
    let more = text_more c.loop-c.yielded d [] (spelled false (units_of c.loop-c.yielded)) refl in
    record {
      utf8 = IsUtf8-past_char rest (chars_rest c.next.new.self) d i.utf8 c.in-Some.ensures.steps.0;
      ahead = append_assoc c.loop-c.yielded (d ∷ []) _ ∙ ap (λ x. c.loop-c.yielded ++ x) (sym past) ∙ i.ahead;
      puts = subst (λ x. Puts c.args.out.now x c.put_character.new.out) more (puts_on i.puts c.put_character.ensures);
    }

pub returns : goal.returns
returns c =
    let end = YieldsList-end (YieldsList-from_chars c.args.text.now c.utf8.text cc) c.loop-c.yielded _ c.loop-c.yielded_by _ _ c.in-None.is c.next.ensures.steps in
    subst (λ cs. Puts c.args.out.now (spelled false (units_of cs)) c.loop-c.out) (sym (map-id c.loop-c.yielded) ∙ end.0) c.loop-c.invariant.puts
