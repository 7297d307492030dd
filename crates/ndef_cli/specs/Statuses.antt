-- The status that a process ends with.
use Rattle.std.specs.Prelude.{ℕ, Bool, true, false, ◌≡◌, Result, Ok, Err}
use Rattle.ndef_cli.specs.declared.status.Status.{Status}
use Rattle.ndef_cli.specs.declared.status.Status.TheVariants as status

-- the number with which the process ends
abbrev pub number_of_status : Status → ℕ
number_of_status status.Clean = 0
number_of_status status.Refused = 1
number_of_status status.Usage = 2
number_of_status status.Fault = 3

-- the worse of the statuses of two inputs
abbrev pub worse : Status → Status → Status
worse status.Fault other = status.Fault
worse st status.Clean = st
worse st status.Fault = status.Fault
worse st other = other

-- the status, where the output may have failed
abbrev pub status_after : Bool → Status → Status
status_after false st = st
status_after true st = status.Fault

-- the status, by the result of writing
abbrev pub EndsCommand : {E : Type 0} → Result ℕ E → Status → Status → Type 0
EndsCommand (Ok n) st result = result ≡ st
EndsCommand (Err e) st result = result ≡ status.Fault
