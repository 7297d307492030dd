use Rattle.std.proofs.Common.{◌<◌, ◌^◌, ◌∙◌, length, sym, ap, subst, true}
use Rattle.ndef_format.specs.Messages.{run_record}
use Rattle.ndef_format.specs.Records.{tnf_of}
use Rattle.ndef_message.specs.Heads.{first_fields}
use Rattle.ndef_message.specs.WrittenLaws.{first_fields_are}
use Rattle.ndef_message.specs.declared.heads.Standing.{Standing}
use Rattle.ndef_c.proofs.Messages.{id_of}
use Rattle.ndef_c.proofs.normalizing.head_of.Goals as goal

pub first_head-requires : goal.first_head-requires
first_head-requires c =
    let r = c.requires in
    record {
      kind = subst (λ k. length k < 256) (ap (λ q. q.kind) (sym r.1.initial)) r.2.lengths.kind;
      id = subst (λ k. length k < 256) (id_of c.args.found.now r.1) r.2.lengths.id;
      part = subst (λ n. n < 2 ^ 32) (sym r.1.payload) r.2.lengths.payload;
    }

pub returns-clause-head : goal.returns-clause-head
returns-clause-head c = λ bytes x.
    let standing : Standing = record { first = c.args.first; last = c.args.found.now.last; alone = true } in
    let tnf = c.tnf.ensures ∙ ap (λ q. tnf_of q.tnf) x.initial in
    let kind = ap (λ q. length q.kind) x.initial in
    let id = ap length (sym (id_of c.args.found.now x)) in
    c.first_head.ensures.head ∙ (λ j. first_fields standing c.args.form (tnf j) (kind j) (id j) (x.payload j))
    ∙ first_fields_are standing c.args.form (run_record x.run) (run_record x.run).payload
