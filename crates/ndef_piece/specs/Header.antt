-- The fields of a header octet (NDEF 1.0, record layout).
use Rattle.std.specs.Prelude.{ℕ, ◌+◌, if◌then◌else◌}
use Rattle.ndef_format.specs.HeadReasons.{is_set, width}

-- NDEF 1.0, record layout: the number of octets of the head
abbrev pub size : ℕ → ℕ
size header = 2 + width header + (if is_set 3 header then 1 else 0)
