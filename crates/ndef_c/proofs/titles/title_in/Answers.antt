use Rattle.std.proofs.Common.{◌≡◌, ◌++◌, ◌∷◌, [], sym, ◌∙◌, subst, true≢false}
use Rattle.ndef_format.specs.declared.profile.Profile.TheVariants.{Standard}
use Rattle.ndef_format.specs.Messages.{run_record}
use Rattle.ndef_format.specs.Texts.{IsText}
use Rattle.ndef_types.specs.Contents.{Lack}
use Rattle.ndef_c.specs.Titles.{IsTitleIn, LiesAsText}
use Rattle.ndef_c.proofs.Ahead.{ahead_in, all_done, first_is, lack_on, reached}
use Rattle.ndef_c.proofs.Posters.{in_pieces}
use Rattle.ndef_c.proofs.TitleTexts.{is_title, is_title_of, of_text, poster_of, title_text}
use Rattle.ndef_c.proofs.Walking.{begins, here}
use Rattle.ndef_c.proofs.titles.title_in.Goals as goal

pub loop-found-init : goal.loop-found-init
loop-found-init c =
    let s = begins c.into_iter-found-iterator.ensures.into_iter_gives c.from-found-items.ensures.bytes c.from-found-items.ensures.at c.from-found-items.ensures.going in
    let h = poster_of c.args.payload.now c.requires in
    record {
      items = h.0;
      records = h.1;
      same = s.same;
      done = [];
      ahead = ahead_in Standard h.0 _ s (in_pieces Standard h.0 c.args.payload.now h.1);
      lack = tt;
    }

pub wants-requires : goal.wants-requires
wants-requires c = let h = here c.args.payload.now _ c.in-Some.found _ c.in-Some.ensures.steps c.loop-found.invariant.same in (_, h.there)

pub text_of-text-requires : goal.text_of-text-requires
text_of-text-requires c =
    let payload = c.args.payload.now in
    let i = c.loop-found.invariant in
    let h = here payload _ c.in-Some.found _ c.in-Some.ensures.steps i.same in
    let r = reached i.ahead h in
    let item = run_record h.there.run in
    let k = sym (c.wants.ensures _ h.there) ∙ c.if-wants.true in
    record { text = (_, h.there, subst IsText (sym r.one) (title_text i.items i.done payload item i.records r.within k)); bound = c.requires.short }

pub is_language-requires : goal.is_language-requires
is_language-requires c =
    let h = here c.args.payload.now _ c.in-Some.found _ c.in-Some.ensures.steps c.loop-found.invariant.same in
    (c.text_of-text.ensures _ h.there).language.within

pub returns-then-is_language-clause-some : goal.returns-then-is_language-clause-some
returns-then-is_language-clause-some c =
    let payload = c.args.payload.now in
    let i = c.loop-found.invariant in
    let h = here payload _ c.in-Some.found _ c.in-Some.ensures.steps i.same in
    let r = reached i.ahead h in
    let item = run_record h.there.run in
    let k = sym (c.wants.ensures _ h.there) ∙ c.if-wants.true in
    let is = subst (λ p. LiesAsText payload p c.in-Some.found.payload_at c.text_of-text.result) r.one (c.text_of-text.ensures _ h.there) in
    let title : IsTitleIn c.args.language.now item = record { title = of_text item k; same = sym (c.is_language.ensures _ is.language) ∙ c.if-is_language.true } in
    record {
      poster = c.requires;
      items = i.items;
      records = i.records;
      title = item;
      is_first = first_is (IsTitleIn c.args.language.now) i.items i.done item r.within i.lack title;
      at = c.in-Some.found.payload_at;
      place = (i.done, i.lack, r.stands);
      lies = is;
    }

pub loop-found-preserved-else-is_language : goal.loop-found-preserved-else-is_language
loop-found-preserved-else-is_language c =
    let payload = c.args.payload.now in
    let i = c.loop-found.invariant in
    let h = here payload _ c.in-Some.found _ c.in-Some.ensures.steps i.same in
    let r = reached i.ahead h in
    let item = run_record h.there.run in
    let is = subst (λ p. LiesAsText payload p c.in-Some.found.payload_at c.text_of-text.result) r.one (c.text_of-text.ensures _ h.there) in
    record {
      items = i.items;
      records = i.records;
      same = h.same;
      done = i.done ++ item ∷ [];
      ahead = r.next;
      lack = lack_on (IsTitleIn c.args.language.now) i.done item i.lack (λ t. true≢false (sym t.same ∙ sym (c.is_language.ensures _ is.language) ∙ c.if-is_language.false));
    }

pub loop-found-preserved : goal.loop-found-preserved
loop-found-preserved c =
    let i = c.loop-found.invariant in
    let h = here c.args.payload.now _ c.in-Some.found _ c.in-Some.ensures.steps i.same in
    let r = reached i.ahead h in
    let item = run_record h.there.run in
    let k : is_title item ≡ c.wants.result = sym (c.wants.ensures _ h.there) in
    record {
      items = i.items;
      records = i.records;
      same = h.same;
      done = i.done ++ item ∷ [];
      ahead = r.next;
      lack = lack_on (IsTitleIn c.args.language.now) i.done item i.lack (λ t. true≢false (sym (is_title_of item t.title) ∙ k ∙ c.if-wants.false));
    }

pub returns-clause-none : goal.returns-clause-none
returns-clause-none c =
    let i = c.loop-found.invariant in
    record { poster = c.requires; items = i.items; records = i.records; none = subst (Lack (IsTitleIn c.args.language.now)) (sym (all_done i.ahead c.in-None.ensures.steps)) i.lack }
