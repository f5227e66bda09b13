-- How a media type is read (RFC 2045, section 5.1). Spaces and tabs may occur only at both ends and around each `;`.
use Rattle.std.specs.Prelude.{ℕ, zero, suc, List, [], ◌∷◌, Bool, true, not, ◌&&◌, ◌==◌, nat_lt, if◌then◌else◌, Option, Some, None, option_map, codes, length}
use Rattle.std.specs.List.{list_all, list_any}
use Rattle.std.specs.Str.{str_eq_ignore_ascii_case}
use Rattle.byte_forms.specs.Classes.{is_space}
use Rattle.byte_forms.specs.Cuts.{◌>>=◌, skip, run_at, strip_prefix}

-- a parameter, with the meaning of its value
pub record Parameter : Type 0 where
  pub name : List ℕ
  pub value : List ℕ

pub record MediaType : Type 0 where
  pub kind : List ℕ
  pub subkind : List ℕ
  pub parameters : List Parameter

-- a graphic ASCII character other than the separators
abbrev pub is_token_byte : ℕ → Bool
is_token_byte b = nat_lt 32 b && nat_lt b 127 && not (list_any (λ c. b == c) (codes "()<>@,;:\\\"/[]?="))

-- the meaning of a quoted string up to its closing quote, and the bytes after that: a backslash escapes the next byte
unfoldable pub quoted_at : List ℕ → Option (List ℕ × List ℕ)
quoted_at [] = None
quoted_at (b ∷ []) = if b == 34 then Some ([], []) else None
quoted_at (b ∷ c ∷ bytes) =
    if b == 34 then Some ([], c ∷ bytes)
    else if b == 92 then option_map (λ more. (c ∷ more.0, more.1)) (quoted_at bytes)
    else option_map (λ more. (b ∷ more.0, more.1)) (quoted_at (c ∷ bytes))

-- a value: a quoted string or a token
unfoldable pub value_at : List ℕ → Option (List ℕ × List ℕ)
value_at [] = None
value_at (b ∷ bytes) = if b == 34 then quoted_at bytes else run_at is_token_byte (b ∷ bytes)

-- `;`, a name, `=` and a value, with optional blanks around the `;`
unfoldable pub parameter_at : List ℕ → Option (Parameter × List ℕ)
parameter_at bytes = do
  rest ← strip_prefix (codes ";") (skip is_space bytes)
  name ← run_at is_token_byte (skip is_space rest)
  rest ← strip_prefix (codes "=") name.1
  value ← value_at rest
  Some (record { name = name.0; value = value.0 }, value.1)

-- parameters up to the end, at most n
unfoldable pub parameters_within : ℕ → List ℕ → Option (List Parameter)
parameters_within zero bytes = if list_all is_space bytes then Some [] else None
parameters_within (suc n) bytes =
    if list_all is_space bytes then Some [] else (
    parameter_at bytes >>= λ first. option_map (λ others. first.0 ∷ others) (parameters_within n first.1)
    )

-- the media type that a text spells; it has at most as many parameters as bytes
unfoldable pub media_type_of : List ℕ → Option MediaType
media_type_of text = do
  kind ← run_at is_token_byte (skip is_space text)
  rest ← strip_prefix (codes "/") kind.1
  subkind ← run_at is_token_byte rest
  parameters ← parameters_within (length text) subkind.1
  Some (record { kind = kind.0; subkind = subkind.0; parameters = parameters })

-- types and names are compared without case
abbrev pub is_type : List ℕ → List ℕ → MediaType → Bool
is_type kind subkind m = str_eq_ignore_ascii_case m.kind kind && str_eq_ignore_ascii_case m.subkind subkind

abbrev pub is_named : List ℕ → Parameter → Bool
is_named name p = str_eq_ignore_ascii_case p.name name

-- no parameter occurs twice
abbrev pub names_differ : List Parameter → Bool
names_differ [] = true
names_differ (p ∷ others) = not (list_any (is_named p.name) others) && names_differ others
