-- Borrowed bytes as values, without their address in memory.
use Rattle.std.specs.Prelude.{ℕ, List, [], ◌∷◌, ◌==◌, if◌then◌else◌, map}
use Rattle.mime_fields.specs.Fields.{Field, PartValue, unfolded}
use Rattle.mime_fields.specs.MediaTypes.{Parameter, MediaType}
use Rattle.mime_fields.specs.declared.fields.RawField.{RawField}
use Rattle.mime_fields.specs.declared.fields.Head.{Head}
use Rattle.mime_fields.specs.declared.part.Part.{Part}
use Rattle.mime_fields.specs.declared.value.Value.{Value}
use Rattle.mime_fields.specs.declared.value.Value.TheVariants as value
use Rattle.mime_fields.specs.declared.media_type.Parameter.{Parameter as LentParameter}
use Rattle.mime_fields.specs.declared.media_type.MediaType.{MediaType as LentType}

-- the bytes between the quotes, without backslashes; each backslash escapes the next byte
unfoldable pub unescaped : List ℕ → List ℕ
unescaped [] = []
unescaped (b ∷ []) = b ∷ []
unescaped (b ∷ c ∷ bytes) = if b == 92 then c ∷ unescaped bytes else b ∷ unescaped (c ∷ bytes)

abbrev pub value_meant_by : Value → List ℕ
value_meant_by (value.Token bytes) = bytes.now
value_meant_by (value.Quoted bytes) = unescaped bytes.now

abbrev pub parameter_of : LentParameter → Parameter
parameter_of p = record { name = p.name.now; value = value_meant_by p.value }

abbrev pub type_of : LentType → MediaType
type_of m = record { kind = m.kind.now; subkind = m.subkind.now; parameters = map parameter_of m.parameters.items }

abbrev pub field_of : RawField → Field
field_of f = record { name = f.name.now; value = unfolded f.lines.now }

abbrev pub head_of : Head → List Field × List ℕ
head_of h = (map field_of h.fields.items, h.content.now)

abbrev pub part_value : Part → PartValue
part_value p = record { id = p.id; media = p.media; identity = p.identity; content = p.content.now }
