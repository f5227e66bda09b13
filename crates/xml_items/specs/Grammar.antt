-- How the items of a document are written (XML 1.0, sections 2.3 to 2.5, 2.8 and 3.1). For each item: a tree, a printer
-- from the tree to its bytes, a condition on valid trees, and the item that the tree means.
use Rattle.std.specs.Prelude.{◌≡◌, ℕ, ◌<◌, List, [], ◌∷◌, ◌++◌, Bool, true, false, IsTrue, codes, length, map, ⊤}
use Rattle.std.specs.List.{flat_map, AllByRecursion, AllPass}
use Rattle.byte_forms.specs.Classes.{is_blank}
use Rattle.xml_items.specs.Classes.{is_name_byte, is_quote, is_value_byte, is_text_byte, declares}
use Rattle.xml_items.specs.Items.{Written, Item, declaration, comment, start, finish, run}

-- at least one byte, all of a class
pub record IsSome (class : ℕ → Bool) (bytes : List ℕ) : Type 0 where
  pub some : 0 < length bytes
  pub pass : AllPass class bytes

-- the bytes don't begin with a byte of a class
abbrev pub Stops : (ℕ → Bool) → List ℕ → Type 0
Stops class [] = ⊤
Stops class (b ∷ bytes) = class b ≡ false

-- S Name S? '=' S? quote value quote
pub record WrittenAttribute : Type 0 where
  pub blanks : List ℕ
  pub name : List ℕ
  pub left : List ℕ
  pub right : List ℕ
  pub quote : ℕ
  pub value : List ℕ

unfoldable pub print_attribute : WrittenAttribute → List ℕ
print_attribute a =
    a.blanks ++ (a.name ++ (a.left ++ 61 ∷ (a.right ++ a.quote ∷ (a.value ++ a.quote ∷ []))))

-- each part is of its class
pub record IsAttribute (a : WrittenAttribute) : Type 0 where
  pub blanks : IsSome is_blank a.blanks
  pub name : IsSome is_name_byte a.name
  pub left : AllPass is_blank a.left
  pub right : AllPass is_blank a.right
  pub quote : is_quote a.quote ≡ true
  pub value : AllPass (is_value_byte a.quote) a.value

-- the name and the value
abbrev pub written : WrittenAttribute → Written
written a = record { name = a.name; value = a.value }

-- '<' Name (S Attribute)* S? ('>' | '/>')
pub record WrittenTag : Type 0 where
  pub name : List ℕ
  pub attributes : List WrittenAttribute
  pub blanks : List ℕ
  pub closed : Bool

-- the end of a start tag, `/>` or `>`
abbrev pub print_tag_end : Bool → List ℕ
print_tag_end true = codes "/>"
print_tag_end false = codes ">"

abbrev pub print_tag : WrittenTag → List ℕ
print_tag t = codes "<" ++ (t.name ++ (flat_map print_attribute t.attributes ++ (t.blanks ++ print_tag_end t.closed)))

pub record IsTag (t : WrittenTag) : Type 0 where
  pub name : IsSome is_name_byte t.name
  pub attributes : AllByRecursion IsAttribute t.attributes
  pub blanks : AllPass is_blank t.blanks

-- an XML declaration with its parts and the blanks after them; the content of a comment; a start tag; an end tag with
-- its name and the blanks after it; a text
pub data WrittenItem : Type 0 where
  xml_declaration : List WrittenAttribute → List ℕ → WrittenItem
  remark : List ℕ → WrittenItem
  start_tag : WrittenTag → WrittenItem
  end_tag : List ℕ → List ℕ → WrittenItem
  text : List ℕ → WrittenItem

-- the bytes of an item
unfoldable pub print_item : WrittenItem → List ℕ
print_item (xml_declaration parts blanks) = codes "<?xml" ++ (flat_map print_attribute parts ++ (blanks ++ codes "?>"))
print_item (remark bytes) = codes "<!--" ++ (bytes ++ codes "-->")
print_item (start_tag t) = print_tag t
print_item (end_tag name blanks) = codes "</" ++ (name ++ (blanks ++ codes ">"))
print_item (text bytes) = bytes

-- no `--`, and no `-` at the end: ((Char - '-') | ('-' (Char - '-')))*
abbrev pub IsRemark : List ℕ → Type 0
IsRemark [] = ⊤
IsRemark (b ∷ []) = ¬ (b ≡ 45)
IsRemark (b ∷ c ∷ bytes) = ¬ ((b ≡ 45) × (c ≡ 45)) × IsRemark (c ∷ bytes)

-- the item is valid before these bytes: a text extends to the next `<` or the end
unfoldable pub IsItem : WrittenItem → List ℕ → Type 0
IsItem (xml_declaration parts blanks) rest =
    AllByRecursion IsAttribute parts × IsTrue (declares (map written parts)) × AllPass is_blank blanks
IsItem (remark bytes) rest = IsRemark bytes
IsItem (start_tag t) rest = IsTag t
IsItem (end_tag name blanks) rest = IsSome is_name_byte name × AllPass is_blank blanks
IsItem (text bytes) rest = IsSome is_text_byte bytes × Stops is_text_byte rest

-- the meaning of an item
unfoldable pub meaning : WrittenItem → Item
meaning (xml_declaration parts blanks) = declaration
meaning (remark bytes) = comment bytes
meaning (start_tag t) = start (record { name = t.name; attributes = map written t.attributes; closed = t.closed })
meaning (end_tag name blanks) = finish name
meaning (text bytes) = run bytes

-- the bytes are an item with this meaning, followed by the rest
abbrev pub BeginsItem : List ℕ → Item → List ℕ → Type 0
BeginsItem bytes item rest =
    (w : WrittenItem) × IsItem w rest × (meaning w ≡ item) × (bytes ≡ print_item w ++ rest)
