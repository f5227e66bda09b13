-- Documents by their bytes, and how far bytes begin a document.
use Rattle.std.specs.Prelude.{Result, Ok, Err, ◌≡◌, ℕ, ◌+◌, ◌<◌, ◌≤◌, List, [], ◌∷◌, ◌++◌, if◌then◌else◌, length, map, take, drop, bytes_eq}
use Rattle.as4_envelope.specs.declared.tree.Element.{Element}
use Rattle.xml_items.specs.Grammar.{WrittenItem, print_item, meaning, IsItem}
use Rattle.tree_reader.specs.Trees.{Spells, Begins}
use Rattle.tree_reader.specs.declared.stop.TreeRefusal.{TreeRefusal}
use Rattle.tree_reader.specs.declared.stop.TreeRefusal.TheVariants.{TooLong, Markup, TooDeep, NoMemory}

-- the maximum number of bytes and of levels of a document: limits of this reader
abbrev pub limit : ℕ
limit = 262144

abbrev pub levels : ℕ
levels = 32

-- the byte order mark (XML 1.0, section 4.3.3)
abbrev pub mark : List ℕ
mark = 0xEF ∷ 0xBB ∷ 0xBF ∷ []

unfoldable pub behind_mark : List ℕ → List ℕ
behind_mark bytes = if bytes_eq (take 3 bytes) mark then drop 3 bytes else bytes

-- the bytes are these items, followed by the rest
abbrev pub Cuts : List ℕ → List WrittenItem → List ℕ → Type 0
Cuts bytes [] rest = bytes ≡ rest
Cuts bytes (item ∷ items) rest = (behind : List ℕ) × IsItem item behind × (bytes ≡ print_item item ++ behind) × Cuts behind items rest

-- the bytes spell a document of this tree
pub record IsDocument (bytes : List ℕ) (tree : Element) : Type 0 where
  pub items : List WrittenItem
  pub short : length bytes ≤ limit
  pub cut : Cuts (behind_mark bytes) items []
  pub spelled : Spells levels (map meaning items) tree

-- the end of the longest prefix of whole items that begins a document of at most `most` levels
pub record IsPlace (most : ℕ) (bytes : List ℕ) (at : ℕ) : Type 0 where
  pub items : List WrittenItem
  pub rest : List ℕ
  pub cut : Cuts (behind_mark bytes) items rest
  pub here : at + length rest ≡ length bytes
  pub begins : Begins most (map meaning items)
  pub longest : (item : WrittenItem) (behind : List ℕ) → IsItem item behind → rest ≡ print_item item ++ behind
      → ¬ (Begins most (map meaning items ++ meaning item ∷ []))

-- the item at this place continues a document with one more level
pub record GoesDeeper (bytes : List ℕ) (at : ℕ) : Type 0 where
  pub items : List WrittenItem
  pub item : WrittenItem
  pub behind : List ℕ
  pub cut : Cuts (behind_mark bytes) items (print_item item ++ behind)
  pub is : IsItem item behind
  pub here : at + length (print_item item ++ behind) ≡ length bytes
  pub begins : Begins (levels + 1) (map meaning items ++ meaning item ∷ [])

-- the result is that tree, unless memory ran out
abbrev pub IsReadAs : Result Element TreeRefusal → Element → Type 0
IsReadAs (Ok read) tree = read ≡ tree
IsReadAs (Err TooLong) tree = ⊥
IsReadAs (Err (Markup at)) tree = ⊥
IsReadAs (Err (TooDeep at)) tree = ⊥
IsReadAs (Err NoMemory) tree = Unit {0}

-- what a refusal says: where the longest prefix that begins a document ends, and whether only the depth is wrong there
abbrev pub NamesPlace : List ℕ → TreeRefusal → Type 0
NamesPlace bytes TooLong = limit < length bytes
NamesPlace bytes (Markup at) = IsPlace levels bytes at × IsPlace (levels + 1) bytes at
NamesPlace bytes (TooDeep at) = IsPlace levels bytes at × GoesDeeper bytes at
NamesPlace bytes NoMemory = Unit {0}
