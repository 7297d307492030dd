use Rattle.std.proofs.Common.{◌≡◌}
use Rattle.ndef_cli_explain.specs.Fields.{PlacesFit, with_fields}
use Rattle.ndef_cli_explain.specs.Forms.{shown_by, style_form}
use Rattle.ndef_cli_explain.specs.Wordings.{first_wording}
use Rattle.ndef_cli_explain.proofs.fields.push_fields.Given as goal

abbrev pub invariant-loop-field : goal.invariant-loop-field
invariant-loop-field l = record {
  same : with_fields (style_form l.style) l.out l.wording l.at l.bytes l.field-iterator
      ≡ with_fields (style_form l.style) l.initial.out (first_wording (shown_by (style_form l.style)) l.remarks) l.at l.bytes l.fn.parsed.fields;
  fit : PlacesFit l.at l.field-iterator;
}
