-- A written part is read back.
use Rattle.std.proofs.Common.{◌≡◌, ℕ, ◌<◌, ◌≤◌, ◌==◌, true, false, List, [], ◌∷◌, ◌++◌, length, Some, refl, sym, ap, ◌∙◌, arith, append_assoc, length-append}
use Rattle.std.specs.Prelude.{IsTrue, All, codes}
use Rattle.std.specs.List.{list_all, flat_map}
use Rattle.std.proofs.lemmas.Bool.{ne_eqb}
use Rattle.std.proofs.lemmas.List.Elements.{All-nil, All-cons, All-append}
use Rattle.std.proofs.lemmas.List.Folds.{list_all-append}
use Rattle.as4_values.specs.Payload.{IsContentId}
use Rattle.as4_values.specs.declared.payload.Payload.{Payload}
use Rattle.message_model.specs.Package.{crlf, media_field, part_head}
use Rattle.mime_fields.specs.Fields.{is_name_byte, is_line_byte, trimmed, part_of, value_of}
use Rattle.mime_fields.specs.WrittenParts.{WrittenField, WrittenPart, field_text, part_text, IsField, IsPart}
use Rattle.mime_fields.proofs.PartAgain.{part_again}
use Rattle.package_laws.proofs.LineLemmas.{InLine}
use Rattle.package_laws.proofs.ValueLemmas.{bracketed, bare_is_trimmed, bracketed_is_bare, id_again, id_in_line, MediaFacts, media_facts, media_again}
use Rattle.package_laws.specs.Written.{payload_part}

-- a field with a space before its value
abbrev field : List ℕ → List ℕ → WrittenField
field name value = record { name = name; line = 32 ∷ value; folded = [] }

-- the field of a media text, if there is one
abbrev media_fields : List ℕ → List WrittenField
media_fields [] = []
media_fields (b ∷ media) = field (codes "Content-Type") (b ∷ media) ∷ []

-- the field that says that the content is unencoded
abbrev encoding_field : WrittenField
encoding_field = field (codes "Content-Transfer-Encoding") (codes "binary")

-- a part, from its fields
abbrev written : List ℕ → List ℕ → List ℕ → WrittenPart
written id media content = record {
  fields = field (codes "Content-ID") (bracketed id) ∷ (media_fields media ++ encoding_field ∷ []);
  content = Some content;
}

-- ---- its lines

-- lines, each followed by its CRLF, and then the rest
abbrev pub lines_text : List (List ℕ) → List ℕ → List ℕ
lines_text [] rest = rest
lines_text (line ∷ lines) rest = line ++ (crlf ++ lines_text lines rest)

abbrev pub media_lines : List ℕ → List (List ℕ)
media_lines [] = []
media_lines (b ∷ media) = (codes "Content-Type: " ++ b ∷ media) ∷ []

-- the last line with a field, and the empty line
abbrev pub last_lines : List (List ℕ)
last_lines = codes "Content-Transfer-Encoding: binary" ∷ [] ∷ []

-- the lines of a head
abbrev pub head_lines : List ℕ → List ℕ → List (List ℕ)
head_lines id media = (codes "Content-ID: " ++ bracketed id) ∷ (media_lines media ++ last_lines)

pub head_is : (id media content : List ℕ) → part_head id media ++ content ≡ lines_text (head_lines id media) content
unfolding part_head media_field
head_is id [] content = untyped (codes "Content-ID: <") id (codes ">") (codes "Content-Transfer-Encoding: binary")
  where
    untyped : (a id c e : List ℕ) → a ++ id ++ c ++ crlf ++ [] ++ e ++ crlf ++ crlf ++ content ≡ (a ++ (id ++ c)) ++ (crlf ++ (e ++ (crlf ++ (crlf ++ content))))
    untyped a id c e = simp append_assoc
head_is id (b ∷ media) content =
    let some : (length (b ∷ media) == 0) ≡ false = ne_eqb (length (b ∷ media)) 0 (λ none. omega arith) in
    rw some (typed (codes "Content-ID: <") id (codes ">") (codes "Content-Type: ") (b ∷ media) (codes "Content-Transfer-Encoding: binary"))
  where
    typed : (a id c t media e : List ℕ)
        → a ++ id ++ c ++ crlf ++ (t ++ media ++ crlf) ++ e ++ crlf ++ crlf ++ content ≡ (a ++ (id ++ c)) ++ (crlf ++ ((t ++ media) ++ (crlf ++ (e ++ (crlf ++ (crlf ++ content))))))
    typed a id c t media e = simp append_assoc

-- a field before others
field_is : (name value : List ℕ) (others : List WrittenField) (rest : List ℕ)
    → flat_map field_text (field name value ∷ others) ++ rest ≡ (name ++ (58 ∷ 32 ∷ value)) ++ (crlf ++ (flat_map field_text others ++ rest))
field_is name value others rest =
    append_assoc (field_text (field name value)) (flat_map field_text others) rest ∙ grouped name (58 ∷ 32 ∷ value) (flat_map field_text others ++ rest)
  where
    grouped : (name line rest : List ℕ) → (name ++ (line ++ crlf)) ++ rest ≡ (name ++ line) ++ (crlf ++ rest)
    grouped name line rest = simp append_assoc

-- after a line
behind : (line : List ℕ) {rest other : List ℕ} → rest ≡ other → line ++ (crlf ++ rest) ≡ line ++ (crlf ++ other)
behind line e = ap (λ (r : List ℕ). line ++ (crlf ++ r)) e

last_field : (content : List ℕ) → flat_map field_text (encoding_field ∷ []) ++ (crlf ++ content) ≡ lines_text last_lines content
last_field content = field_is (codes "Content-Transfer-Encoding") (codes "binary") [] (crlf ++ content)

media_is : (media content : List ℕ) → flat_map field_text (media_fields media ++ encoding_field ∷ []) ++ (crlf ++ content) ≡ lines_text (media_lines media ++ last_lines) content
media_is [] content = last_field content
media_is (b ∷ media) content =
    field_is (codes "Content-Type") (b ∷ media) (encoding_field ∷ []) (crlf ++ content) ∙ behind (codes "Content-Type: " ++ b ∷ media) (last_field content)

written_is : (id media content : List ℕ) → part_text (written id media content) ≡ lines_text (head_lines id media) content
written_is id media content =
    field_is (codes "Content-ID") (bracketed id) (media_fields media ++ encoding_field ∷ []) (crlf ++ content)
    ∙ behind (codes "Content-ID: " ++ bracketed id) (media_is media content)

-- ---- its fields are valid

is_field : (name value : List ℕ) → 0 < length name → IsTrue (list_all is_name_byte name) → InLine value → IsField (field name value)
is_field name value some named is = record { some = some; name = named; line = is; folded = All-nil _ }

pub bracketed_in_line : (id : List ℕ) → InLine id → InLine (bracketed id)
bracketed_in_line id is = list_all-append is_line_byte id (62 ∷ []) ∙ rw is refl

media_is_field : (media : List ℕ) → InLine media → All IsField (media_fields media)
media_is_field [] is = All-nil IsField
media_is_field (b ∷ media) is = All-cons IsField _ [] (is_field (codes "Content-Type") (b ∷ media) (omega arith) refl is) (All-nil IsField)

few_media : (media : List ℕ) → length (media_fields media) ≤ 1
few_media [] = omega arith
few_media (b ∷ media) = omega arith

encoding_is_field : IsField encoding_field
encoding_is_field = is_field (codes "Content-Transfer-Encoding") (codes "binary") (omega arith) refl refl

is_part : (id media content : List ℕ) → IsContentId id → MediaFacts media → IsPart (written id media content)
is_part id media content named typed =
    let last = All-cons IsField encoding_field [] encoding_is_field (All-nil IsField) in
    record {
      fields =
          All-cons IsField (field (codes "Content-ID") (bracketed id)) _
          (is_field (codes "Content-ID") (bracketed id) (omega arith) refl (bracketed_in_line id (id_in_line id named)))
          (All-append IsField (media_fields media) (encoding_field ∷ []) (media_is_field media typed.one_line) last);
      few = omega (arith, few_media media, length-append (media_fields media) (encoding_field ∷ []));
    }

-- ---- and are read back

binary_is_trimmed : trimmed ((32 ∷ codes "binary") ++ []) ≡ codes "binary"
binary_is_trimmed = bare_is_trimmed (codes "binary") (record { first = refl; last = refl })

id_is_trimmed : (id : List ℕ) → trimmed ((32 ∷ bracketed id) ++ []) ≡ bracketed id
id_is_trimmed id = bare_is_trimmed (bracketed id) (bracketed_is_bare id)

read_again : (id media content : List ℕ) → IsContentId id → MediaFacts media
    → part_of (part_text (written id media content)) ≡ Some (record { id = Some id; media = media; identity = true; content = content })
unfolding part_of value_of
read_again id [] content named typed =
    rw (part_again (written id [] content) (is_part id [] content named typed), id_is_trimmed id, id_again id named, binary_is_trimmed) refl
read_again id (b ∷ media) content named typed =
    rw (
      part_again (written id (b ∷ media) content) (is_part id (b ∷ media) content named typed),
      id_is_trimmed id,
      id_again id named,
      bare_is_trimmed (b ∷ media) typed.bare,
      media_again (b ∷ media) typed,
      binary_is_trimmed,
    ) refl

pub part_is_read : (p : Payload) → part_of (part_head p.cid p.media ++ p.content) ≡ Some (payload_part p)
part_is_read p =
    ap part_of (head_is p.cid p.media p.content ∙ sym (written_is p.cid p.media p.content))
    ∙ read_again p.cid p.media p.content p.named (media_facts p.media p.typed)
