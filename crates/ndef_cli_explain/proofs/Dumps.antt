-- The bytes that a text spells, read into as many.
use Rattle.std.proofs.Common.{◌≡◌, ◌∙◌, ◌∷◌, ℕ, List, [], Result, Ok, Err, length, refl, sym, ap, arith}
use Rattle.ndef_diagnostics.specs.Dumps.{counted, dump_of, written}
use Rattle.ndef_diagnostics.specs.declared.dump.DumpFault.{DumpFault}
use Rattle.ndef_diagnostics.specs.declared.dump.DumpFault.TheVariants as faults
use Rattle.ndef_cli_explain.specs.Inputs.{StandsFor, unread_of}

all_written : (octets out : List ℕ) → length octets ≡ length out → written octets out ≡ octets
all_written [] [] same = refl
all_written [] (x ∷ out) same = absurd (omega arith)
all_written (octet ∷ octets) [] same = absurd (omega arith)
all_written (octet ∷ octets) (x ∷ out) same = ap (λ t. octet ∷ t) (all_written octets out (omega arith))

-- a count is that of some bytes
some_counted : (r : Result (List ℕ) DumpFault) (count : ℕ) → counted r ≡ Ok count
    → (octets : List ℕ) × (r ≡ Ok octets) × (length octets ≡ count)
some_counted (Ok octets) count e = (octets, refl, cc)
some_counted (Err fault) count e = absurd (cc)

pub dump_counted : (text : List ℕ) (count : ℕ) → counted (dump_of text) ≡ Ok count
    → (octets : List ℕ) × (dump_of text ≡ Ok octets) × (length octets ≡ count)
dump_counted text count e = some_counted (dump_of text) count e

fault_of : (r : Result (List ℕ) DumpFault) (fault : DumpFault) → counted r ≡ Err fault → r ≡ Err fault
fault_of (Ok octets) fault e = absurd (cc)
fault_of (Err other) fault e = cc

pub dump_fault : (text : List ℕ) (fault : DumpFault) → counted (dump_of text) ≡ Err fault → dump_of text ≡ Err fault
dump_fault text fault e = fault_of (dump_of text) fault e

none_counted : (octets : List ℕ) → length octets ≡ 0 → octets ≡ []
none_counted [] e = refl
none_counted (x ∷ octets) e = absurd (omega arith)

pub dump_empty : (text : List ℕ) → counted (dump_of text) ≡ Ok 0 → dump_of text ≡ Ok []
dump_empty text e = let d = dump_counted text 0 e in d.1 ∙ ap Ok (none_counted d.0 d.2)

-- as many bytes as a text spells are these
pub filled : (text octets old new : List ℕ) → dump_of text ≡ Ok octets → length octets ≡ length old
    → ((o : List ℕ) → dump_of text ≡ Ok o → new ≡ written o old) → dump_of text ≡ Ok new
filled text octets old new e same fills = e ∙ ap Ok (sym (fills octets e ∙ all_written octets old same))

-- a fault of a text is why there are no bytes
pub stands_for_fault : (text : List ℕ) (fault : DumpFault) → dump_of text ≡ Err fault → StandsFor text (Err (unread_of fault))
stands_for_fault text faults.Odd e = (faults.Odd, e, refl)
stands_for_fault text (faults.BadDigit place) e = (faults.BadDigit place, e, refl)
stands_for_fault text (faults.NoPlace line) e = (faults.NoPlace line, e, refl)
stands_for_fault text (faults.Repeated line) e = (faults.Repeated line, e, refl)
stands_for_fault text faults.TooLong e = (faults.TooLong, e, refl)
stands_for_fault text faults.Words e = (faults.Words, e, refl)
