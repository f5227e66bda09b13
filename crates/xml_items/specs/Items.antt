-- The items of a document, as written (XML 1.0, sections 2.4, 2.5, 2.8 and 3.1). Whether their texts, names and values
-- are those of a well-formed document isn't checked here.
use Rattle.std.specs.Prelude.{ℕ, Bool, List}

-- an attribute: its name, and the bytes between its quotes
pub record Written : Type 0 where
  pub name : List ℕ
  pub value : List ℕ

-- a start tag; closed if it ends in `/>`
pub record Tag : Type 0 where
  pub name : List ℕ
  pub attributes : List Written
  pub closed : Bool

-- an XML declaration; the bytes between `<!--` and `-->`; a start tag; the name of an end tag; text between markup
pub data Item : Type 0 where
  declaration : Item
  comment : List ℕ → Item
  start : Tag → Item
  finish : List ℕ → Item
  run : List ℕ → Item
