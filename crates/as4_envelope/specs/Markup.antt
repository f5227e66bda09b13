-- Elements and attributes as they are written: no declaration, no blanks between tags, each element with a start and an
-- end tag, each value in double quotes after one space (XML 1.0, section 3.1).
use Rattle.std.specs.Prelude.{ℕ, ◌==◌, if◌then◌else◌, List, [], ◌∷◌, ◌++◌, Option, Some, None, codes}
use Rattle.std.specs.List.{flat_map}

-- the escape of a byte in a text or a value, or the byte itself (XML 1.0, sections 2.4, 4.1 and 4.6)
abbrev pub escape_of : ℕ → List ℕ
escape_of b =
    if b == 38 then codes "&amp;"
    else if b == 60 then codes "&lt;"
    else if b == 62 then codes "&gt;"
    else if b == 34 then codes "&quot;"
    else if b == 9 then codes "&#9;"
    else if b == 10 then codes "&#10;"
    else if b == 13 then codes "&#13;"
    else b ∷ []

unfoldable pub escaped : List ℕ → List ℕ
escaped bytes = flat_map escape_of bytes

-- `<name`, followed by the attributes
unfoldable pub tag_start : List ℕ → List ℕ
tag_start name = codes "<" ++ name

-- `>`, which ends a start tag
unfoldable pub tag_end : List ℕ
tag_end = codes ">"

-- `</name>`
unfoldable pub end_tag : List ℕ → List ℕ
end_tag name = codes "</" ++ name ++ codes ">"

-- ` name="value"`
unfoldable pub attribute : List ℕ → List ℕ → List ℕ
attribute name value = codes " " ++ name ++ codes "=\"" ++ escaped value ++ codes "\""

-- an element with these attributes and this content
abbrev pub element : List ℕ → List ℕ → List ℕ → List ℕ
element name attributes content = tag_start name ++ attributes ++ tag_end ++ content ++ end_tag name

-- an element whose content is a text
unfoldable pub text_element : List ℕ → List ℕ → List ℕ
text_element name text = element name [] (escaped text)

-- an attribute that is omitted if there is no value
unfoldable pub optional_attribute : List ℕ → Option (List ℕ) → List ℕ
optional_attribute name None = []
optional_attribute name (Some value) = attribute name value

unfoldable pub optional_element : List ℕ → Option (List ℕ) → List ℕ
optional_element name None = []
optional_element name (Some text) = text_element name text

-- an element that holds the texts of all items, in order, and is omitted if there are none
unfoldable pub listed : {X : Type 0} → List ℕ → (X → List ℕ) → List X → List ℕ
listed name text [] = []
listed name text (first ∷ others) = element name [] (flat_map text (first ∷ others))
