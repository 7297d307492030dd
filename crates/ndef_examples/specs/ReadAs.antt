-- The payloads that are checked.
use Rattle.std.specs.Prelude.{ℕ, List}
use Rattle.ndef_format.specs.Kinds.{kind_of}
use Rattle.ndef_format.specs.declared.kind.Kind.{Kind}
use Rattle.ndef_format.specs.declared.kind.Kind.TheVariants.{Text, Other}
use Rattle.ndef_format.specs.declared.tnf.Tnf.{Tnf}

-- RTD Text 1.0: a text is read as one, and any other payload as any octets
abbrev pub read_as : Kind → Kind
read_as Text = Text
read_as _ = Other

-- .. by the type of its record
abbrev pub read_type : Tnf → List ℕ → Kind
read_type tnf name = read_as (kind_of tnf name)
