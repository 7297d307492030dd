use Rattle.std.proofs.Common.{◌≡◌, ◌++◌, ◌∙◌, Some, ap, append_assoc, arith, length, map, refl, subst}
use Rattle.std.specs.Int.{w32, from_be_bytes}
use Rattle.std.specs.Prelude.{option_map, slice_index}
use Rattle.ndef_format.specs.declared.kind.Kind.TheVariants as kinds
use Rattle.ndef_types.specs.Posters.{Says, action_in, action_of, plain, size_in, titles}
use Rattle.ndef_types.specs.Values.{StandsForUri}
use Rattle.ndef_tool.specs.Members.{Counts}
use Rattle.ndef_tool.specs.Showing.{poster_back, poster_front}
use Rattle.ndef_tool.proofs.Lines.{on_ok}
use Rattle.ndef_tool.proofs.Posters.{action_there, all_counted, has_uri, mapped, poster_members, said_of, size_there, titles_counted, uri_said, valid, value_said}
use Rattle.ndef_tool.proofs.poster_lines.push_poster.Goals as goal

pub unreachable-requires : goal.unreachable-requires
unreachable-requires c =
    let members = c.in_ok-members.members.items in
    let p = poster_members c.args.profile c.args.payload.now members c.requires c.in_ok-members.ensures in
    has_uri p.read members p.are p.contents.complete (rw c.deref.ensures.value at c.in_default.ensures)

pub new-requires : goal.new-requires
new-requires c =
    let members = c.in_ok-members.members.items in
    let uri = Some c.in-Some.uri.now in
    let p = poster_members c.args.profile c.args.payload.now members c.requires c.in_ok-members.ensures in
    (c.args.profile, valid c.args.profile kinds.Uri p.read uri (said_of c.args.profile c.args.payload.now members c.deref.result.now kinds.Uri uri p c.deref.ensures.value c.in-Some.ensures))

pub push_back-requires-clause-action : goal.push_back-requires-clause-action
push_back-requires-clause-action c =
    let members = c.in_ok-members.members.items in
    let action = option_map (λ s. s.now) c.first_of-action.result in
    let p = poster_members c.args.profile c.args.payload.now members c.requires c.in_ok-members.ensures in
    action_there c.args.profile c.first_of-action.result (valid c.args.profile kinds.Action p.read action
    (said_of c.args.profile c.args.payload.now members c.deref-3.result.now kinds.Action action p c.deref-3.ensures.value c.first_of-action.ensures))

pub push_back-requires-clause-size : goal.push_back-requires-clause-size
push_back-requires-clause-size c =
    let members = c.in_ok-members.members.items in
    let size = option_map (λ s. s.now) c.first_of-size.result in
    let p = poster_members c.args.profile c.args.payload.now members c.requires c.in_ok-members.ensures in
    size_there c.args.profile c.first_of-size.result (valid c.args.profile kinds.Size p.read size
    (said_of c.args.profile c.args.payload.now members c.deref-4.result.now kinds.Size size p c.deref-4.ensures.value c.first_of-size.ensures))

pub returns : goal.returns
returns c =
    let profile = c.args.profile in
    let payload = c.args.payload.now in
    let members = c.in_ok-members.members.items in
    let p = poster_members profile payload members c.requires c.in_ok-members.ensures in
    let items = map plain p.read in
    let uri = c.in_ok-uri.uri in
    let action = option_map (λ s. s.now) c.first_of-action.result in
    let size = option_map (λ s. s.now) c.first_of-size.result in
    let media = option_map (λ s. s.now) c.first_of-2.result in
    let front = poster_front (length items) uri (length (titles items)) in
    let back =
    poster_back (option_map (λ s. action_of (slice_index s.now 0)) c.first_of-action.result) (option_map (λ s. from_be_bytes w32 s.now) c.first_of-size.result)
    (option_map (λ s. s.now) c.first_of-2.result) in
    let records : c.len.result ≡ length items = omega (arith, c.len.ensures, c.deref.ensures.len, ap length c.deref.ensures.value, all_counted p.read members p.are) in
    let text : c.as_bytes.result.now ≡ uri = c.as_bytes.ensures.value ∙ c.text.ensures.value in
    let count : c.count_of-titles.result ≡ length (titles items) =
    titles_counted p.read members c.count_of-titles.result p.are (subst (λ ms. Counts kinds.Text ms c.count_of-titles.result) c.deref-2.ensures.value c.count_of-titles.ensures) in
    let begun : c.push_front.new.line ≡ c.args.line.now ++ front = rw (records, text, count) at c.in_ok-push_front.ensures in
    let stands = subst (λ s. StandsForUri s uri) c.new.ensures c.in_ok-uri.ensures in
    on_ok c.push_back.result c.push_back.ensures (λ e. (
      front ++ back,
      e ∙ ap (λ t. t ++ back) begun ∙ append_assoc c.args.line.now front back,
      (
        items,
        (p.runs, p.read, p.spelling, refl),
        (
          uri,
          _,
          _,
          _,
          uri_said profile p.read c.in-Some.uri.now uri stands (said_of profile payload members c.deref.result.now kinds.Uri (Some c.in-Some.uri.now) p c.deref.ensures.value c.in-Some.ensures),
          subst (Says kinds.Action action_in items) (mapped (λ s. s.now) (λ s. action_of (slice_index s 0)) c.first_of-action.result)
              (value_said profile kinds.Action (λ s. action_of (slice_index s 0)) p.read action refl (said_of profile payload members c.deref-3.result.now kinds.Action action p c.deref-3.ensures.value c.first_of-action.ensures)),
          subst (Says kinds.Size size_in items) (mapped (λ s. s.now) (λ s. from_be_bytes w32 s) c.first_of-size.result)
              (value_said profile kinds.Size (λ s. from_be_bytes w32 s) p.read size refl (said_of profile payload members c.deref-4.result.now kinds.Size size p c.deref-4.ensures.value c.first_of-size.ensures)),
          subst (Says kinds.MediaType (λ i. i.payload) items) (mapped (λ s. s.now) (λ s. s) c.first_of-2.result)
              (value_said profile kinds.MediaType (λ s. s) p.read media refl (said_of profile payload members c.deref-5.result.now kinds.MediaType media p c.deref-5.ensures.value c.first_of-2.ensures)),
          refl,
        ),
      ),
    ))
