use Rattle.std.proofs.Common.{◌∙◌, ap, length, true}
use Rattle.ndef_message.specs.Heads.{first_fields}
use Rattle.ndef_message.specs.WrittenLaws.{first_fields_are}
use Rattle.ndef_message.specs.declared.form.Form.TheVariants.{Short}
use Rattle.ndef_message.specs.declared.heads.Standing.{Standing}
use Rattle.ndef_c.specs.Contents.{content_octets}
use Rattle.ndef_c.specs.PendingRecord.{made_item}
use Rattle.ndef_c.proofs.making.head_of.Goals as goal

pub returns-clause-head : goal.returns-clause-head
returns-clause-head c =
    let made = c.args.made.now in
    let standing : Standing = record { first = c.args.ends.first; last = c.args.ends.last; alone = true } in
    c.first_head.ensures.head ∙ ap (first_fields standing Short made.tnf (length made.kind.now) (length made.id.now)) c.requires.bytes
    ∙ first_fields_are standing Short (made_item made) (content_octets made.content)
