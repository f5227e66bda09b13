-- How a media type is written (RFC 2045, section 5.1; quoted strings: RFC 2822, section 3.2.5).
use Rattle.std.specs.Prelude.{◌≡◌, ◌≢◌, ℕ, ◌<◌, ◌⊎◌, List, ◌∷◌, [], ◌++◌, Bool, true, if◌then◌else◌, IsTrue, All, length, map}
use Rattle.std.specs.List.{list_all, flat_map}
use Rattle.byte_forms.specs.Classes.{is_space}
use Rattle.mime_fields.specs.MediaTypes.{Parameter, MediaType, is_token_byte}

-- a byte of a quoted string, with or without a backslash before it
pub record QuotedByte : Type 0 where
  pub escaped : Bool
  pub byte : ℕ

pub data WrittenValue : Type 0 where
  token : List ℕ → WrittenValue
  quoted : List QuotedByte → WrittenValue

-- a parameter, with the blanks before and after its `;`
pub record WrittenParameter : Type 0 where
  pub before : List ℕ
  pub after : List ℕ
  pub name : List ℕ
  pub value : WrittenValue

-- a media type, with the blanks at both ends
pub record WrittenType : Type 0 where
  pub before : List ℕ
  pub kind : List ℕ
  pub subkind : List ℕ
  pub parameters : List WrittenParameter
  pub after : List ℕ

-- The text of each.
abbrev pub quoted_text : QuotedByte → List ℕ
quoted_text q = if q.escaped then 92 ∷ q.byte ∷ [] else q.byte ∷ []

abbrev pub value_text : WrittenValue → List ℕ
value_text (token bytes) = bytes
value_text (quoted bytes) = 34 ∷ (flat_map quoted_text bytes ++ 34 ∷ [])

abbrev pub parameter_text : WrittenParameter → List ℕ
parameter_text p = p.before ++ (59 ∷ (p.after ++ (p.name ++ (61 ∷ value_text p.value))))

abbrev pub type_text : WrittenType → List ℕ
type_text w = w.before ++ (w.kind ++ (47 ∷ (w.subkind ++ (flat_map parameter_text w.parameters ++ w.after))))

-- The meaning of each.
abbrev pub value_meant : WrittenValue → List ℕ
value_meant (token bytes) = bytes
value_meant (quoted bytes) = map (λ q. q.byte) bytes

abbrev pub parameter_meant : WrittenParameter → Parameter
parameter_meant p = record { name = p.name; value = value_meant p.value }

abbrev pub type_meant : WrittenType → MediaType
type_meant w = record { kind = w.kind; subkind = w.subkind; parameters = map parameter_meant w.parameters }

-- The valid ones of each.
abbrev pub AreBlanks : List ℕ → Type 0
AreBlanks bytes = IsTrue (list_all is_space bytes)

abbrev pub IsToken : List ℕ → Type 0
IsToken bytes = (0 < length bytes) × IsTrue (list_all is_token_byte bytes)

-- a quote and a backslash need a backslash before them
abbrev pub IsQuoted : QuotedByte → Type 0
IsQuoted q = (q.escaped ≡ true) ⊎ ((q.byte ≢ 34) × (q.byte ≢ 92))

abbrev pub IsValue : WrittenValue → Type 0
IsValue (token bytes) = IsToken bytes
IsValue (quoted bytes) = All IsQuoted bytes

pub record IsParameter (p : WrittenParameter) : Type 0 where
  pub before : AreBlanks p.before
  pub after : AreBlanks p.after
  pub name : IsToken p.name
  pub value : IsValue p.value

pub record IsWritten (w : WrittenType) : Type 0 where
  pub before : AreBlanks w.before
  pub kind : IsToken w.kind
  pub subkind : IsToken w.subkind
  pub parameters : All IsParameter w.parameters
  pub after : AreBlanks w.after

-- the text spells this media type
pub record IsMediaType (text : List ℕ) (m : MediaType) : Type 0 where
  pub written : WrittenType
  pub is : IsWritten written
  pub text_is : text ≡ type_text written
  pub means : type_meant written ≡ m
