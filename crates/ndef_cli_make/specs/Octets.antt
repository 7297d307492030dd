-- The bytes of hexadecimal digits.
use Rattle.std.specs.Prelude.{◌≡◌, ℕ, List, Option, Some, None, Result, Ok, Err}
use Rattle.std.specs.Result.{result_ok}
use Rattle.hex.specs.Hex.{decode_of}
use Rattle.clap.specs.Words.{Text}
use Rattle.ndef_cli_make.specs.declared.fault.Fault.{Fault}
use Rattle.ndef_cli_make.specs.declared.usage_error.UsageError.{UsageError}
use Rattle.ndef_cli_make.specs.declared.fault.Fault.TheVariants.{Usage, Memory}

-- the bytes of hexadecimal digits
abbrev pub octets_in : Text → Option (List ℕ)
octets_in digits = result_ok (decode_of digits)

-- the same; exactly where they are none, these words are wrong
abbrev pub SaysOctets : UsageError → Text → Result (List ℕ) Fault → Type 0
SaysOctets usage_error digits (Ok octets) = octets_in digits ≡ Some octets
SaysOctets usage_error digits (Err (Usage reported)) = (reported ≡ usage_error) × (octets_in digits ≡ None)
SaysOctets usage_error digits (Err Memory) = (octets : List ℕ) × (octets_in digits ≡ Some octets)
SaysOctets usage_error digits (Err _) = ⊥
