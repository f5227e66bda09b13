-- Names with their prefixes (XML 1.0, section 2.3; Namespaces in XML 1.0, section 4). Characters past ASCII aren't
-- classified.
use Rattle.std.specs.Prelude.{ℕ, ◌+◌, List, [], Bool, not, ◌&&◌, ◌||◌, ◌==◌, nat_le, nat_lt, Option, Some, None, take, drop, position, slice_index}
use Rattle.std.specs.List.{list_any}
use Rattle.std.specs.Char.{is_ascii_alphabetic}
use Rattle.std.specs.Str.{is_utf8}
use Rattle.tree_reader.specs.Steps.{given}

-- the first byte of a name
abbrev pub is_name_start : ℕ → Bool
is_name_start b = is_ascii_alphabetic b || (b == 95) || nat_le 128 b

abbrev pub is_colon : ℕ → Bool
is_colon b = b == 58

-- an ASCII byte other than a colon
abbrev pub is_simple : ℕ → Bool
is_simple b = nat_lt b 128 && not (is_colon b)

-- a name without a prefix, given name bytes
unfoldable pub is_local_name : List ℕ → Bool
is_local_name name = is_name_start (slice_index name 0) && not (list_any is_colon name) && is_utf8 name

-- a name as written; the prefix is empty if there is none
pub record Qualified : Type 0 where
  pub prefix : List ℕ
  pub local : List ℕ

-- the parts before and after the colon at this index
abbrev pub parted : List ℕ → Option ℕ → Option Qualified
parted name None = given (is_local_name name) (Some (record { prefix = []; local = name }))
parted name (Some at) =
    given (is_local_name (take at name) && is_local_name (drop (at + 1) name))
    (Some (record { prefix = take at name; local = drop (at + 1) name }))

unfoldable pub qualified : List ℕ → Option Qualified
qualified name = parted name (position is_colon name)
