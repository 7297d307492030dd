use Rattle.std.proofs.Common.{◌≡◌, ℕ, ◌+◌, List, ◌++◌, drop}
use Rattle.ndef_lang.specs.Machine.Kind.{kind_after, missing_of}
use Rattle.ndef_lang.proofs.kind.KindReader.step_all.Given as goal

abbrev pub invariant-loop-octet : goal.invariant-loop-octet
invariant-loop-octet l = record {
  missing : missing_of l.self + l.octet-index ≡ missing_of l.initial.self;
  kind : (more : List ℕ) → kind_after l.self (drop l.octet-index l.octets ++ more) ≡ kind_after l.initial.self (l.octets ++ more);
}
