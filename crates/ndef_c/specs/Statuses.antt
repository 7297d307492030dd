-- The names of the statuses that calls return.
use Rattle.std.specs.Prelude.{◌≡◌, ℕ, List, codes}
use Rattle.ndef_c.specs.Buffers.{Gives}
use Rattle.ndef_c.specs.declared.status.TheConstants.{OK, REFUSED, BUFFER_TOO_SMALL, BAD_ARGUMENT, END, MORE}
use Rattle.ndef_c.specs.declared.status_name.Status.{Status}
use Rattle.ndef_c.specs.declared.status_name.Status.TheVariants as statuses

-- the number of a status
abbrev pub status_number : Status → ℕ
status_number statuses.Ok = OK
status_number statuses.Refused = REFUSED
status_number statuses.BufferTooSmall = BUFFER_TOO_SMALL
status_number statuses.BadArgument = BAD_ARGUMENT
status_number statuses.End = END
status_number statuses.More = MORE

-- its name
abbrev pub name_of_status : Status → List ℕ
name_of_status statuses.Ok = codes "Ok"
name_of_status statuses.Refused = codes "Refused"
name_of_status statuses.BufferTooSmall = codes "BufferTooSmall"
name_of_status statuses.BadArgument = codes "BadArgument"
name_of_status statuses.End = codes "End"
name_of_status statuses.More = codes "More"

-- the name of the status with this number is given
pub record GivesStatusName (number : ℕ) (before after : List ℕ) (count status : ℕ) : Type 0 where
  pub named : Status
  pub number_is : status_number named ≡ number
  pub gives : Gives (name_of_status named) before after count status
