use Rattle.std.proofs.Common.{rules, ◌≡◌, ◌++◌, length, refl, ap, arith, true}
use Rattle.ndef_format.specs.Canonical.{canonical}
use Rattle.ndef_c.specs.RecordList.{MayBeMessage, all_items, left_octets}
use Rattle.ndef_c.proofs.Puts.{gives_puts, no_room, some_of}
use Rattle.ndef_c.proofs.Several.{left_canonical}
use Rattle.ndef_c.proofs.series_writing.give_message.Goals as goal

pub returns-then-records-clause-bad : goal.returns-then-records-clause-bad
returns-then-records-clause-bad c = (
  λ _ m.
      let few = m.few in
      let count = c.all_count-records.ensures in
      let many = c.if-records.true in
      omega (arith, few, count, many),
  λ _. refl,
)

pub returns-in_default-clause-bad : goal.returns-in_default-clause-bad
returns-in_default-clause-bad c = (λ _ m. c.in_default.ensures.none m.each, λ _. refl)

pub returns-then-needed-clause-bad : goal.returns-then-needed-clause-bad
returns-then-needed-clause-bad c = (
  λ _ m.
      let items = all_items c.args.several.now in
      let count = c.all_count-records.ensures in
      let few = c.if-records.false in
      let records : c.all_count-records.result ≡ length items = omega (arith, count, few) in
      let size = ap (λ t. length (c.args.front.now ++ t)) (left_canonical c.short_is_canonical.ensures items _ records) in
      let fits = m.fits in
      let from = c.new-counter.ensures.at in
      let to = c.in-Some.ensures.some.at (omega (arith, from)) in
      let needed = c.at-needed.ensures in
      let long = c.if-needed.true in
      omega (arith, size, fits, from, to, needed, long),
  λ _. refl,
)

pub returns-then-buffer-needed : goal.returns-then-buffer-needed
returns-then-buffer-needed c =
    let front = c.args.front.now in
    let items = all_items c.args.several.now in
    let count = c.all_count-records.ensures in
    let few = c.if-records.false in
    let records : c.all_count-records.result ≡ length items = omega (arith, count, few) in
    let size = ap (λ t. length (front ++ t)) (left_canonical c.short_is_canonical.ensures items _ records) in
    let from = c.new-counter.ensures.at in
    let to = c.in-Some.ensures.some.at (omega (arith, from)) in
    let needed = c.at-needed.ensures in
    let short = c.if-needed.false in
    let small = c.if-buffer-needed.true in
    let may : MayBeMessage front c.args.several.now = record { each = c.in-Some.ensures.may; few = omega (arith, records, few); fits = omega (arith, size, from, to, needed, short) } in
    record {
      bad = (λ e. absurd (omega (arith, e)), λ f. absurd (f may));
      kept = λ e. absurd (omega (arith, e));
      may = λ _. may;
      message = λ _. no_room (front ++ canonical items) c.args.buffer.now _ (omega (arith, size, from, to, needed, short)) (omega (arith, size, from, to, needed, short, small));
    }

pub returns : goal.returns
returns c =
    let front = c.args.front.now in
    let items = all_items c.args.several.now in
    let count = c.all_count-records.ensures in
    let few = c.if-records.false in
    let records : c.all_count-records.result ≡ length items = omega (arith, count, few) in
    let same : front ++ left_octets true c.all_count-records.result items ≡ front ++ canonical items = ap (λ t. front ++ t) (left_canonical c.short_is_canonical.ensures items _ records) in
    let size = ap length same in
    let from = c.new-counter.ensures.at in
    let to = c.in-Some.ensures.some.at (omega (arith, from)) in
    let needed = c.at-needed.ensures in
    let short = c.if-needed.false in
    let may : MayBeMessage front c.args.several.now = record { each = c.in-Some.ensures.may; few = omega (arith, records, few); fits = omega (arith, size, from, to, needed, short) } in
    let again = c.put_message-same.ensures in
    let put = some_of c.put_message-same.result again.none (λ n. n c.in-Some.ensures.may) again.some in
    record {
      bad = (λ e. absurd (omega (arith, e)), λ f. absurd (f may));
      kept = λ e. absurd (omega (arith, e));
      may = λ _. may;
      message = λ _. gives_puts _ _ _ _ same (omega (arith, from, to, needed, short)) c.if-buffer-needed.false c.new.ensures.at c.new.ensures.buffer (search rules) put;
    }
