-- Words, stamps and names consist of graphic ASCII characters, which are characters of XML.
use Rattle.std.proofs.Common.{◌≡◌, ℕ, zero, suc, ◌<◌, List, [], ◌++◌, Bool, true, false, not, ◌&&◌, length, arith, refl}
use Rattle.std.specs.Prelude.{IsTrue, slice_index, codes, replicate}
use Rattle.std.specs.List.{All, AllPass, list_all, list_any}
use Rattle.std.specs.Str.{IsAscii, is_utf8, bytes_eq}
use Rattle.std.proofs.lemmas.Bool.{and_parts, not-true}
use Rattle.std.proofs.lemmas.Bool.Decides.{nat_tests}
use Rattle.std.proofs.lemmas.List.{get_or_default}
use Rattle.std.proofs.lemmas.List.Elements.{All-weaker, All-from_all_within, All-contains, All-append, All-replicate}
use Rattle.std.proofs.lemmas.List.Sums.{AllPass-from_list_all, list_all-from_AllPass}
use Rattle.std.proofs.lemmas.Slice.Eq.{bytes_eq-Decides}
use Rattle.std.proofs.lemmas.Str.{chars-IsAscii, encodes-IsAscii, IsUtf8-from_ascii, is_utf8-from_IsUtf8}
use Rattle.std.proofs.lemmas.Str.Ascii.{IsAscii-from_all}
use Rattle.as4_values.proofs.XmlTests.{xml_tested}
use Rattle.as4_values.specs.Stamp.{IsStamp, IsForm, fits_byte, fraction_form, zone_forms}
use Rattle.as4_values.specs.Texts.{is_xml, is_xml_char, IsText}
use Rattle.as4_values.specs.Word.{IsWord, allows, is_graphic}
use Rattle.as4_values.specs.declared.word.Word.{Word}
use Rattle.as4_values.specs.declared.word.Word.TheVariants.{Identifier, ErrorCode}
use Rattle.xml_items.specs.Classes.{is_name_byte}
use Rattle.tree_reader.specs.Names.{is_name_start, is_colon, is_local_name}
use Rattle.tree_reader.specs.Readable.{is_name}
use Rattle.tree_reader.specs.Scopes.{binds_default}
use Rattle.unit_laws.specs.Kept.{IsXmlText}

abbrev Graphic : ℕ → Type 0
Graphic b = IsTrue (is_graphic b)

-- graphic characters are ASCII, and characters of XML
graphic_small : (b : ℕ) → Graphic b → b < 128
graphic_small b is = grind (arith, nat_tests)

graphic_xml : (b : ℕ) → Graphic b → is_xml_char b ≡ true
graphic_xml b is = grind (arith, nat_tests)

graphic_ascii : (bytes : List ℕ) → All Graphic bytes → IsAscii bytes
graphic_ascii bytes each = IsAscii-from_all bytes (All-weaker Graphic (λ b. b < 128) graphic_small bytes each)

-- so texts of them are characters of XML
graphic_text : (bytes : List ℕ) → All Graphic bytes → IsXmlText bytes
unfolding is_xml
graphic_text bytes each =
    let ascii : IsAscii bytes = graphic_ascii bytes each in
    let spelled : list_all is_xml_char bytes ≡ true =
    list_all-from_AllPass is_xml_char bytes (All-weaker Graphic (λ b. IsTrue (is_xml_char b)) graphic_xml bytes each) in
    let same : bytes_eq bytes bytes ≡ true = (bytes_eq-Decides bytes bytes).1 refl in
    rw (chars-IsAscii bytes ascii, encodes-IsAscii bytes ascii, spelled, same) refl

pub graphic_is_xml : (bytes : List ℕ) → list_all is_graphic bytes ≡ true → IsXmlText bytes
graphic_is_xml bytes is = graphic_text bytes (AllPass-from_list_all is_graphic bytes is)

-- the texts of a header are characters of XML
pub text_is_xml : (text : List ℕ) → IsText text → IsXmlText text
text_is_xml text is = xml_tested text is.spelled

-- words

-- the bytes of words are graphic characters
allowed_graphic : (word : Word) (b : ℕ) → IsTrue (allows word b) → Graphic b
allowed_graphic Identifier b is = grind (arith, nat_tests)
allowed_graphic ErrorCode b is = is

word_is_xml : (word : Word) (bytes : List ℕ) → IsWord word bytes → IsXmlText bytes
word_is_xml word bytes is =
    let allowed : ℕ → Type 0 = λ b. IsTrue (allows word b) in
    graphic_text bytes (All-weaker allowed Graphic (allowed_graphic word) bytes (All-from_all_within allowed bytes is.each))

pub id_is_xml : (id : List ℕ) → IsWord Identifier id → IsXmlText id
id_is_xml id is = word_is_xml Identifier id is

pub code_is_xml : (code : List ℕ) → IsWord ErrorCode code → IsXmlText code
code_is_xml code is = word_is_xml ErrorCode code is

-- stamps

-- the bytes of a stamp's forms are graphic characters
fraction_graphic : (places : ℕ) → All Graphic (fraction_form places)
fraction_graphic zero = AllPass-from_list_all is_graphic [] refl
fraction_graphic (suc places) =
    All-append Graphic (codes ".") (replicate (suc places) 48) (AllPass-from_list_all is_graphic (codes ".") refl) (All-replicate Graphic (suc places) 48 refl)

form_graphic : (form : List ℕ) → IsForm form → All Graphic form
form_graphic form (places, zone, few, is_zone, same) =
    let start : List ℕ = codes "0000-00-00T00:00:00" in
    let zones : AllPass (list_all is_graphic) zone_forms = AllPass-from_list_all (list_all is_graphic) zone_forms refl in
    let back : All Graphic zone =
    AllPass-from_list_all is_graphic zone (All-contains (λ z. IsTrue (list_all is_graphic z)) zone_forms zone zones is_zone) in
    let front : All Graphic (start ++ fraction_form places) =
    All-append Graphic start (fraction_form places) (AllPass-from_list_all is_graphic start refl) (fraction_graphic places) in
    rw same (All-append Graphic (start ++ fraction_form places) zone front back)

-- bytes that fit such a form are graphic characters, too
fitting_graphic : (form b : ℕ) → Graphic form → IsTrue (fits_byte form b) → Graphic b
unfolding fits_byte
fitting_graphic form b is fits = grind (arith, nat_tests)

pub stamp_is_xml : (text : List ℕ) → IsStamp text → IsXmlText text
stamp_is_xml text is =
    let form : List ℕ = is.0.0 in
    let graphic : All Graphic form = form_graphic form is.0.1 in
    let same : length form ≡ length text = is.0.2 in
    let fits = is.0.3.each in
    graphic_text text (λ k d below.
    rw (get_or_default text k d 0 below) (fitting_graphic (slice_index form k) (slice_index text k) (graphic k 0 (omega arith)) (fits k below)))

-- names

-- a name of graphic ASCII characters, other than `xmlns`
abbrev pub is_plain_name : List ℕ → Bool
is_plain_name name =
    (is_name_start (slice_index name 0) && not (list_any is_colon name)) && list_all is_name_byte name
    && list_all is_graphic name && not (binds_default name)

-- the facts about such a name
pub record PlainName (name : List ℕ) : Type 0 where
  pub is : is_name name ≡ true
  pub bound : binds_default name ≡ false

pub plain_name : (name : List ℕ) → is_plain_name name ≡ true → PlainName name
unfolding is_name is_local_name
plain_name name is =
    let whole = and_parts _ (not (binds_default name)) is in
    let parts = and_parts _ (list_all is_graphic name) whole.0 in
    let names = and_parts _ (list_all is_name_byte name) parts.0 in
    let ascii : IsAscii name = graphic_ascii name (AllPass-from_list_all is_graphic name parts.1) in
    let utf8 : is_utf8 name ≡ true = is_utf8-from_IsUtf8 name (IsUtf8-from_ascii name ascii) in
    record { is = rw (names.0, names.1, utf8) refl; bound = not-true (binds_default name) whole.1 }
