-- A keeper and a pass as contracts see them.
use Rattle.std.specs.Prelude.{ℕ, List, [], length, nat_lt, if◌then◌else◌}
use Rattle.atomic_table.specs.Seated.{TableId}

-- identifies the opening
abbrev pub Book : Type 0
Book = TableId

-- a book that no keeper has
abbrev pub no_book : Book
no_book = record { words = 0; slots = 0; views_name = 0; atom = 0; block = 0; offset = 0; slot_names = [] }

-- a keeper: its opening, and the whole history
pub record KeeperState (E : Type 0) : Type 0 where
  pub book : Book
  pub list : List E

-- a pass: its opening, the prefix of the history that it has seen, the number of calls made with it, and its part of
-- the stakes, which together prove that there is no other pass
pub record PassState (E : Type 0) : Type 0 where
  pub book : Book
  pub list : List E
  pub share : ℕ
  pub stake : ℕ

-- the longer of two lists; the first, if they are equally long
abbrev pub longer : {E : Type 0} → List E → List E → List E
longer xs ys = if nat_lt (length xs) (length ys) then ys else xs
