-- The values of a modes file: texts, names, addresses and numbers.
use Rattle.std.specs.Prelude.{ℕ, ◌-◌, ℤ, pos, negsuc, List, Bool, ◌&&◌, nat_le, if◌then◌else◌, Option, Some, None, option_and_then, length, take, drop}
use Rattle.std.specs.List.{prefix_len, suffix_len}
use Rattle.toml.specs.Data.{Data, as_str, as_integer}
use Rattle.as4_values.specs.Address.{is_address}
use Rattle.mode_values.specs.ModeRanges.{is_mode_name, is_short}
use Rattle.as4_values.specs.Texts.{is_xml}
use Rattle.byte_forms.specs.Classes.{is_blank}

-- the value, if it passes the test
abbrev pub keep : {A : Type 0} → (A → Bool) → A → Option A
keep test a = if test a then Some a else None

-- the bytes without the blanks at both ends
unfoldable pub core_of : List ℕ → List ℕ
core_of bytes =
    let rest = drop (prefix_len is_blank bytes) bytes in take (length rest - suffix_len is_blank rest) rest

-- the text of a string, if it has 1 to 255 bytes
unfoldable pub text_value : List ℕ → Option (List ℕ)
text_value bytes =
    keep (λ core. nat_le 1 (length core) && (is_short core && is_xml core)) (core_of bytes)

-- the text of a string
unfoldable pub text_of : Data → Option (List ℕ)
text_of d = option_and_then text_value (as_str d)

-- the name of a mode: a string, unchanged
unfoldable pub name_of : Data → Option (List ℕ)
name_of d = option_and_then (keep is_mode_name) (as_str d)

-- an address
unfoldable pub address_of : Data → Option (List ℕ)
address_of d = option_and_then (keep is_address) (text_of d)

-- a number that isn't negative
abbrev pub natural : ℤ → Option ℕ
natural (pos n) = Some n
natural (negsuc n) = None

-- an integer from `low` to `high`
unfoldable pub number_of : ℕ → ℕ → Data → Option ℕ
number_of low high d = option_and_then (λ n. keep (λ m. nat_le low m && nat_le m high) n) (option_and_then natural (as_integer d))
