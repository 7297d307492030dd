use Rattle.std.proofs.Common.{◌∷◌, [], refl, arith}
use Rattle.std.specs.Int.{w32, to_be_bytes}
use Rattle.ndef_c.specs.ErrorWrites.{error_of}
use Rattle.ndef_c.proofs.Errors.{octet_error, number_error}
use Rattle.ndef_c.proofs.error_writing.ndef_write_error_number.Goals as goal

pub returns-in-1-clause-payload : goal.returns-in-1-clause-payload
returns-in-1-clause-payload c = λ may. record {
  error = error_of c.args.reason (c.args.number ∷ []);
  is = octet_error c.args.reason c.args.number c.in-1.is c.if-number-lt256.true;
  gives = record { payload = c.args.reason ∷ c.args.number ∷ []; is = refl; short = omega arith; gives = c.give.ensures };
}

pub returns-in-2-clause-payload : goal.returns-in-2-clause-payload
returns-in-2-clause-payload c = λ may. rw c.in-2.is
    (record {
      error = error_of 2 (to_be_bytes w32 c.args.number);
      is = number_error c.args.number (omega arith);
      gives = record { payload = 2 ∷ to_be_bytes w32 c.args.number; is = refl; short = omega arith; gives = rw c.to_be_bytes.ensures at c.give_parts.ensures };
    })
