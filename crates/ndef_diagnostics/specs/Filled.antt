-- What was read of the digits of a dump, and the octets that were written.
use Rattle.std.specs.Prelude.{ℕ, ◌+◌, ◌*◌, ◌/◌, ◌%◌, ◌==◌, List, Option, Some, None, Result, Ok, Err, nat_lt, set, if◌then◌else◌}
use Rattle.ndef_diagnostics.specs.Dumps.{is_digit, value_of}
use Rattle.ndef_diagnostics.specs.declared.dump.DumpFault.{DumpFault}
use Rattle.ndef_diagnostics.specs.declared.dump.DumpFault.TheVariants as faults
use Rattle.ndef_diagnostics.specs.declared.dump_digits.Spelled.{Spelled}

-- no digits were read
abbrev pub nothing : Spelled
nothing = record { count = 0; high = 0; bad = None }

-- the place of the first that is no digit
abbrev pub bad_or : Option ℕ → (count digit : ℕ) → Option ℕ
bad_or (Some place) count digit = Some place
bad_or None count digit = if is_digit digit then None else Some count

-- the same, one digit after others
abbrev pub bad_after : Spelled → (digit : ℕ) → Option ℕ
bad_after spelled digit = bad_or spelled.bad spelled.count digit

-- one digit more was read
abbrev pub read_more : Spelled → (digit : ℕ) → Spelled
read_more spelled digit =
    record { count = spelled.count + 1; high = value_of digit; bad = bad_after spelled digit }

-- each second digit ends an octet, which is written
abbrev pub out_after : Spelled → (out : List ℕ) → (digit : ℕ) → List ℕ
out_after spelled out digit = if spelled.count % 2 == 1
    then set out (spelled.count / 2) (16 * (spelled.high % 16) + value_of digit) else out

-- one digit more was read, unless there are too many
abbrev pub put : Spelled × List ℕ → (digit : ℕ) → Spelled × List ℕ
put filled digit = if nat_lt 33554432 filled.0.count then filled
    else (read_more filled.0 digit, out_after filled.0 filled.1 digit)

-- the number of octets, if all digits are digits
abbrev pub sound_count : (bad : Option ℕ) → (count : ℕ) → Result ℕ DumpFault
sound_count (Some place) count = Err (faults.BadDigit place)
sound_count None count = Ok (count / 2)

-- the number of octets of this number of digits, or their fault
abbrev pub count_by : (bad : Option ℕ) → (count : ℕ) → Result ℕ DumpFault
count_by bad count = if nat_lt 33554432 count then Err faults.TooLong
    else (if count % 2 == 1 then Err faults.Odd else sound_count bad count)

-- the number of octets of the digits that were read, or their fault
abbrev pub octet_count : Spelled → Result ℕ DumpFault
octet_count spelled = count_by spelled.bad spelled.count
