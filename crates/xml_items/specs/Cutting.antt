-- The first item of the bytes and the rest after it (XML 1.0, sections 2.4, 2.5, 2.8 and 3.1), cut by bytes alone.
use Rattle.std.specs.Prelude.{ℕ, zero, suc, List, [], ◌∷◌, Bool, true, false, ◌==◌, if◌then◌else◌, Option, Some, None, codes, length, drop, nat_eq}
use Rattle.std.specs.List.{prefix_len, take_while, starts_with}
use Rattle.std.specs.Option.{option_map}
use Rattle.byte_forms.specs.Classes.{is_blank}
use Rattle.byte_forms.specs.Cuts.{◌>>=◌, skip, run_at, strip_prefix}
use Rattle.xml_items.specs.Classes.{is_name_byte, is_quote, is_value_byte, is_text_byte, declares}
use Rattle.xml_items.specs.Items.{Written, Item, declaration, comment, start, finish, run}

-- given the bytes after a value's first quote: the value up to the second quote, and the rest
unfoldable pub value_in : ℕ → List ℕ → Option (List ℕ × List ℕ)
value_in quote bytes = do
  rest ← strip_prefix (quote ∷ []) (skip (is_value_byte quote) bytes)
  Some (take_while (is_value_byte quote) bytes, rest)

-- a value between its quotes, and the rest
unfoldable pub value_at : List ℕ → Option (List ℕ × List ℕ)
value_at [] = None
value_at (b ∷ bytes) = if is_quote b then value_in b bytes else None

-- an attribute after blanks: its name, `=` with or without blanks around it, its value
unfoldable pub attribute_at : List ℕ → Option (Written × List ℕ)
attribute_at bytes = do
  blanks ← run_at is_blank bytes
  name ← run_at is_name_byte blanks.1
  rest ← strip_prefix (codes "=") (skip is_blank name.1)
  value ← value_at (skip is_blank rest)
  Some (record { name = name.0; value = value.0 }, value.1)

-- the attributes in sequence, up to a number of them
unfoldable pub attributes_within : ℕ → List ℕ → List Written × List ℕ
attributes_within zero bytes = ([], bytes)
attributes_within (suc n) bytes =
    elim (attribute_at bytes) [
      | None ↦ ([], bytes)
      | Some first ↦
          let others = attributes_within n first.1 in
          (first.0 ∷ others.0, others.1)
    ]

-- all attributes in sequence: there are at most as many as bytes
unfoldable pub attributes_at : List ℕ → List Written × List ℕ
attributes_at bytes = attributes_within (length bytes) bytes

-- the end of a start tag, `/>` or `>`: whether it is closed
unfoldable pub tag_end_at : List ℕ → Option (Bool × List ℕ)
tag_end_at bytes =
    elim (strip_prefix (codes "/>") bytes) [
      | Some rest ↦ Some (true, rest)
      | None ↦ option_map (λ rest. (false, rest)) (strip_prefix (codes ">") bytes)
    ]

-- a start tag, after its `<`
unfoldable pub start_at : List ℕ → Option (Item × List ℕ)
start_at bytes = do
  name ← run_at is_name_byte bytes
  last ← tag_end_at (skip is_blank (attributes_at name.1).1)
  Some (start (record { name = name.0; attributes = (attributes_at name.1).0; closed = last.0 }), last.1)

-- an end tag, after its `</`
unfoldable pub finish_at : List ℕ → Option (Item × List ℕ)
finish_at bytes = do
  name ← run_at is_name_byte bytes
  rest ← strip_prefix (codes ">") (skip is_blank name.1)
  Some (finish name.0, rest)

-- the bytes before the first `--` and after it
unfoldable pub dashes_at : List ℕ → Option (List ℕ × List ℕ)
dashes_at [] = None
dashes_at (b ∷ bytes) =
    elim (strip_prefix (codes "--") (b ∷ bytes)) [
      | Some rest ↦ Some ([], rest)
      | None ↦ option_map (λ cut. (b ∷ cut.0, cut.1)) (dashes_at bytes)
    ]

-- a comment, after its `<!`: the first `--` in it ends it
unfoldable pub comment_at : List ℕ → Option (Item × List ℕ)
comment_at bytes = do
  text ← strip_prefix (codes "--") bytes
  cut ← dashes_at text
  rest ← strip_prefix (codes ">") cut.1
  Some (comment cut.0, rest)

-- an XML declaration, after its `<?`: its parts are written like attributes
unfoldable pub declaration_at : List ℕ → Option (Item × List ℕ)
declaration_at bytes = do
  parts ← strip_prefix (codes "xml") bytes
  rest ← strip_prefix (codes "?>") (skip is_blank (attributes_at parts).1)
  if declares (attributes_at parts).0 then Some (declaration, rest) else None

-- the item whose first byte is `<`, after that byte
unfoldable pub markup_at : List ℕ → Option (Item × List ℕ)
markup_at [] = None
markup_at (b ∷ bytes) =
    if b == 47 then finish_at bytes
    else if b == 33 then comment_at bytes
    else if b == 63 then declaration_at bytes
    else start_at (b ∷ bytes)

-- the first item and the rest; `None` if the bytes begin with no item
unfoldable pub item_at : List ℕ → Option (Item × List ℕ)
item_at [] = None
item_at (b ∷ bytes) =
    if b == 60 then markup_at bytes else Some (run (take_while is_text_byte (b ∷ bytes)), skip is_text_byte (b ∷ bytes))
