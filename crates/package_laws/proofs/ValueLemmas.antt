-- Values of fields: they are on one line, and trimming leaves them unchanged.
use Rattle.std.proofs.Common.{◌≡◌, ℕ, ◌+◌, ◌-◌, ◌<◌, ◌≤◌, Bool, true, false, not, List, [], ◌∷◌, ◌++◌, length, get_or, Some, refl, arith, append-nil, length-append, nat_eq, ltb, leb}
use Rattle.std.specs.Prelude.{IsTrue, ◌&&◌, ◌||◌, ◌==◌, codes, reverse}
use Rattle.std.specs.List.{list_all, ends_with}
use Rattle.std.proofs.lemmas.Bool.{and_parts, not-true, or_parts, lt-ltb, le-leb}
use Rattle.std.proofs.lemmas.Bool.Decides.{nat_tests, Decides-eqb}
use Rattle.std.proofs.lemmas.List.{reverse-append, reverse-reverse, get_or-reverse, length-reverse, take_at}
use Rattle.std.proofs.lemmas.List.Elements.{All-weaker, All-from_all_within}
use Rattle.std.proofs.lemmas.List.Sums.{AllPass-from_list_all, list_all-from_AllPass}
use Rattle.std.proofs.lemmas.Slice.Eq.{ends_is}
use Rattle.as4_values.specs.Payload.{IsContentId, is_media_text}
use Rattle.byte_forms.specs.Classes.{is_space}
use Rattle.as4_values.specs.Word.{allows}
use Rattle.as4_values.specs.declared.word.Word.TheVariants.{Identifier}
use Rattle.byte_forms.proofs.CutLemmas.{Stops, skip_again}
use Rattle.mime_fields.specs.Fields.{is_line_byte, trimmed, without_brackets, is_word, content_id, media_of}
use Rattle.package_laws.proofs.LineLemmas.{InLine}

-- bytes that pass a test pass a weaker one
passes_too : (class other : ℕ → Bool) → ((b : ℕ) → class b ≡ true → other b ≡ true) → (bytes : List ℕ) → list_all class bytes ≡ true → list_all other bytes ≡ true
passes_too class other weaker bytes pass =
    list_all-from_AllPass other bytes (All-weaker (λ b. class b ≡ true) (λ b. other b ≡ true) weaker bytes (AllPass-from_list_all class bytes pass))

-- ---- trimming

-- no space or tab at either end
pub record IsBare (bytes : List ℕ) : Type 0 where
  pub first : Stops is_space bytes
  pub last : Stops is_space (reverse bytes)

-- trimming a value after a space leaves the value
pub bare_is_trimmed : (bytes : List ℕ) → IsBare bytes → trimmed ((32 ∷ bytes) ++ []) ≡ bytes
unfolding trimmed
bare_is_trimmed bytes bare =
    rw (append-nil bytes, skip_again is_space (32 ∷ []) bytes refl bare.first, skip_again is_space [] (reverse bytes) refl bare.last) (reverse-reverse bytes)

stops_at : (bytes : List ℕ) → (0 < length bytes → is_space (get_or bytes 0 0) ≡ false) → Stops is_space bytes
stops_at [] other = tt
stops_at (b ∷ bytes) other = other (omega arith)

-- ---- a Content-ID

abbrev pub bracketed : List ℕ → List ℕ
bracketed id = 60 ∷ (id ++ 62 ∷ [])

-- the value of its field: in angle brackets, which the reader removes
pub bracketed_is_bare : (id : List ℕ) → IsBare (bracketed id)
bracketed_is_bare id = record { first = refl; last = rw (reverse-append (60 ∷ id) (62 ∷ [])) refl }

pub brackets_off : (id : List ℕ) → without_brackets (bracketed id) ≡ id
brackets_off id =
    let bytes : List ℕ = bracketed id in
    let len : length bytes ≡ length id + 2 = omega (arith, length-append id (62 ∷ [])) in
    let ends : ends_with nat_eq bytes (codes ">") ≡ true = (ends_is Decides-eqb bytes (62 ∷ []) (ends_with nat_eq bytes (codes ">")) refl).1 (60 ∷ id) refl in
    rw (ends, lt-ltb 1 (length bytes) (omega (arith, len))) (take_at id (62 ∷ []) (length bytes - 2) (omega (arith, len)))

-- the bytes of a Content-ID
id_bytes : (id : List ℕ) → IsContentId id → list_all (allows Identifier) id ≡ true
id_bytes id is = list_all-from_AllPass (allows Identifier) id (All-from_all_within (λ b. IsTrue (allows Identifier b)) id is.each)

pub id_again : (id : List ℕ) → IsContentId id → content_id (bracketed id) ≡ Some id
unfolding content_id is_word
id_again id is =
    rw (brackets_off id, lt-ltb 0 (length id) is.some, le-leb (length id) 255 is.limited, id_bytes id is) refl

allowed_in_line : (b : ℕ) → allows Identifier b ≡ true → is_line_byte b ≡ true
allowed_in_line b is = grind (arith, nat_tests)

pub id_in_line : (id : List ℕ) → IsContentId id → InLine id
id_in_line id is = passes_too (allows Identifier) is_line_byte allowed_in_line id (id_bytes id is)

-- ---- a media text

-- facts about a media text
pub record MediaFacts (media : List ℕ) : Type 0 where
  pub short : length media ≤ 1024
  pub one_line : InLine media
  pub bare : IsBare media

-- a byte that is neither LF nor CR, by the test of a media text
other_byte : (b : ℕ) → not ((b == 10) || (b == 13)) ≡ true → is_line_byte b ≡ true
other_byte b is = grind (arith, nat_tests)

-- the ends of a nonempty text
ends_bare : (text : List ℕ) → not (ltb 0 (length text) && (is_space (get_or text 0 0) || is_space (get_or text (length text - 1) 0))) ≡ true → 0 < length text
    → (is_space (get_or text 0 0) ≡ false) × (is_space (get_or text (length text - 1) 0) ≡ false)
ends_bare text is some =
    or_parts (is_space (get_or text 0 0)) (is_space (get_or text (length text - 1) 0)) (not-true _ (rw (lt-ltb 0 (length text) some) at is))

pub media_facts : (media : List ℕ) → IsTrue (is_media_text media) → MediaFacts media
unfolding is_media_text
media_facts media is =
    let parts = and_parts (leb (length media) 1024) _ is in
    let line = and_parts (list_all (λ b. not ((b == 10) || (b == 13))) media) _ parts.1 in
    record {
      short = grind (arith, nat_tests);
      one_line = passes_too (λ b. not ((b == 10) || (b == 13))) is_line_byte other_byte media line.0;
      bare = record {
        first = stops_at media λ some. (ends_bare media line.1 some).0;
        last = stops_at (reverse media) λ some.
            let within : 0 < length media = omega (arith, length-reverse media) in
            let at : length media - 1 - 0 ≡ length media - 1 = omega arith in
            rw (get_or-reverse media 0 0 within, at) (ends_bare media line.1 within).1;
      };
    }

pub media_again : (media : List ℕ) → MediaFacts media → media_of (Some media) ≡ Some media
media_again media is = rw (le-leb (length media) 1024 is.short) refl
