-- The names of fields, as they are printed.
use Rattle.std.specs.Prelude.{ℕ, List, codes}
use Rattle.ndef_fields.specs.declared.name.FieldName.{FieldName}
use Rattle.ndef_fields.specs.declared.name.FieldName.TheVariants as names

-- NDEF 1.0, RTD Text 1.0, RTD URI 1.0, RTD Smart Poster 1.0 and Connection Handover 1.2: the name
-- of a field there
abbrev pub name_text : FieldName → List ℕ
name_text names.Header = codes "header"
name_text names.KindLength = codes "TYPE_LENGTH"
name_text names.PayloadLength = codes "PAYLOAD_LENGTH"
name_text names.IdLength = codes "ID_LENGTH"
name_text names.Kind = codes "TYPE"
name_text names.Id = codes "ID"
name_text names.Payload = codes "PAYLOAD"
name_text names.Status = codes "status"
name_text names.Language = codes "language code"
name_text names.Mark = codes "byte order mark"
name_text names.Text = codes "text"
name_text names.UriCode = codes "identifier code"
name_text names.UriRest = codes "URI"
name_text names.Action = codes "action"
name_text names.Size = codes "size"
name_text names.MediaType = codes "media type"
name_text names.Version = codes "version"
name_text names.Collision = codes "random number"
name_text names.Power = codes "carrier power state"
name_text names.ReferenceLength = codes "carrier data reference length"
name_text names.Reference = codes "carrier data reference"
name_text names.AuxiliaryCount = codes "auxiliary data reference count"
name_text names.AuxiliaryLength = codes "auxiliary data reference length"
name_text names.Auxiliary = codes "auxiliary data reference"
name_text names.AfterAuxiliary = codes "reserved"
name_text names.ErrorReason = codes "error reason"
name_text names.ErrorData = codes "error data"
name_text names.CarrierFormat = codes "carrier type format"
name_text names.CarrierKindLength = codes "carrier type length"
name_text names.CarrierKind = codes "carrier type"
name_text names.CarrierData = codes "carrier data"
