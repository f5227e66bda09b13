-- The values of a part's known fields, and the part that they make.
use Rattle.std.specs.Prelude.{List, ℕ, Option, Some, codes, option_map}
use Rattle.std.specs.Borrow.{Bor}
use Rattle.byte_forms.specs.Cuts.{◌>>=◌}
use Rattle.mime_fields.specs.Fields.{Field, PartValue, unfolded, value_of, id_of, media_of, is_identity}
use Rattle.mime_fields.specs.declared.known.KnownLines.{KnownLines}

-- the values of the known fields, if a head has them
pub record KnownValues : Type 0 where
  pub id : Option (List ℕ)
  pub media : Option (List ℕ)
  pub encoding : Option (List ℕ)

unfoldable pub known_of : List Field → Option KnownValues
known_of fields = do
  id ← value_of (codes "Content-ID") fields
  media ← value_of (codes "Content-Type") fields
  encoding ← value_of (codes "Content-Transfer-Encoding") fields
  Some (record { id = id; media = media; encoding = encoding })

-- the part with these known fields and this content
unfoldable pub part_with : KnownValues → List ℕ → Option PartValue
part_with known content = do
  id ← id_of known.id
  media ← media_of known.media
  Some (record { id = id; media = media; identity = is_identity known.encoding; content = content })

-- the value of a field with these lines
abbrev pub value_in : Option (Bor (List ℕ)) → Option (List ℕ)
value_in lines = option_map (λ l. unfolded l.now) lines

abbrev pub known_values : KnownLines → KnownValues
known_values known = record { id = value_in known.id; media = value_in known.media; encoding = value_in known.encoding }
