-- The part as which a payload is written.
use Rattle.std.specs.Prelude.{true, Some}
use Rattle.as4_values.specs.declared.payload.Payload.{Payload}
use Rattle.mime_fields.specs.Fields.{PartValue}

abbrev pub payload_part : Payload → PartValue
payload_part p = record { id = Some p.cid; media = p.media; identity = true; content = p.content }
