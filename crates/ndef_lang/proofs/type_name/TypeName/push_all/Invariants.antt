use Rattle.std.proofs.Common.{◌≡◌, ◌+◌, ◌++◌, length, take}
use Rattle.ndef_lang.specs.Machine.TypeName.{name_of}
use Rattle.ndef_lang.proofs.type_name.TypeName.push_all.Given as goal

abbrev pub invariant-loop-octet : goal.invariant-loop-octet
invariant-loop-octet l = record {
  size : length l.self.octets ≡ 255;
  count : l.self.count ≡ l.initial.self.count + l.octet-index;
  name : name_of l.self ≡ name_of l.initial.self ++ take l.octet-index l.octets;
}
