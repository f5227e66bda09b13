-- The code's classes of bytes.
use Rattle.std.specs.Prelude.{ℕ, Bool}
use Rattle.byte_forms.specs.Classes.{is_blank, is_space}
use Rattle.mime_fields.specs.Fields.{is_name_byte, is_line_byte}
use Rattle.mime_fields.specs.MediaTypes.{is_token_byte}
use Rattle.mime_fields.specs.declared.class.Class.{Class}
use Rattle.mime_fields.specs.declared.class.Class.TheVariants.{Space, Blank, Token, Name, Line}

abbrev pub has : Class → ℕ → Bool
has Space = is_space
has Blank = is_blank
has Token = is_token_byte
has Name = is_name_byte
has Line = is_line_byte
