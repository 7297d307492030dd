-- The meaning of each reason for a refusal, in a sentence.
use Rattle.std.specs.Prelude.{ℕ, List, codes}
use Rattle.ndef_format.specs.declared.reason.Reason.{Reason}
use Rattle.ndef_format.specs.declared.reason.Reason.TheVariants as reasons

-- NDEF 1.0, RTD Text 1.0, RTD URI 1.0, RTD Smart Poster 1.0 and Connection Handover 1.2: what a
-- reason means
abbrev pub reason_sentence : Reason → List ℕ
reason_sentence reasons.ReservedTnf = codes "The type name format 7 is reserved."
reason_sentence reasons.BeginMissing = codes "The first record of a message has to have MB set."
reason_sentence reasons.BeginAgain = codes "MB is set again, though the message has begun."
reason_sentence reasons.UnchangedOutside =
    codes "The type name format 6 (unchanged) may only continue a chunked record."
reason_sentence reasons.ChangedInside =
    codes "A chunked record goes on with the type name format 6 (unchanged)."
reason_sentence reasons.IdInside = codes "Only the first chunk of a record may have an id."
reason_sentence reasons.ChunkAtEnd =
    codes "The last record of a message (ME) has to end: CF must be clear."
reason_sentence reasons.ChunkOfEmpty = codes "An empty record cannot be chunked."
reason_sentence reasons.TooManyPieces =
    codes "The record has more chunks than the limit or a nested message allows."
reason_sentence reasons.TooManyRecords = codes "The message has more records than the limit allows."
reason_sentence reasons.TypeNotEmpty =
    codes "This type name format has no type: TYPE_LENGTH has to be 0."
reason_sentence reasons.TypeEmpty =
    codes "This type name format needs a type: TYPE_LENGTH must not be 0."
reason_sentence reasons.EmptyNotEmpty = codes "An empty record has only lengths of 0."
reason_sentence reasons.PayloadTooLarge = codes "The payload is longer than the limit allows."
reason_sentence reasons.TextBit =
    codes "Bit 6 of the status octet of a text is reserved: it has to be 0."
reason_sentence reasons.Language = codes "The language code of a text has to be ASCII."
reason_sentence reasons.Utf8 = codes "The text is not UTF-8."
reason_sentence reasons.Utf16 = codes "The text is not UTF-16."
reason_sentence reasons.UriCode =
    codes "The URI identifier codes from 24 to FF (hexadecimal) are reserved."
reason_sentence reasons.UriMissing = codes "A smart poster has to have a URI record."
reason_sentence reasons.UriAgain = codes "A smart poster has only one URI record."
reason_sentence reasons.Version = codes "The handover has another major version than 1."
reason_sentence reasons.CollisionMissing =
    codes "A handover request has to begin with a collision resolution record."
reason_sentence reasons.DoesNotFit =
    codes "Nothing that could follow this byte fits the lengths given so far."
reason_sentence reasons.EndOfInput = codes "The input ends within a message."
