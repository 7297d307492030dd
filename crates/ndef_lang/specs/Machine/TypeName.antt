-- The octets that are kept of a type name.
use Rattle.std.specs.Prelude.{ℕ, List, [], take}
use Rattle.ndef_lang.specs.declared.type_name.TypeName.{TypeName}

-- the octets of the name that have come
abbrev pub name_of : TypeName → List ℕ
name_of reader = take reader.count reader.octets

-- no octet of a name
abbrev pub no_name : TypeName
no_name = record { octets = []; count = 0 }
