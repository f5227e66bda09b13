-- Properties of each row of the table, and of a code as it is sent.
use Rattle.std.proofs.Common.{◌≡◌, ℕ, ◌+◌, ◌/◌, ◌%◌, ◌<◌, List, [], ◌∷◌, ◌++◌, Bool, true, false, cond, ◌&&◌, ◌==◌, nat_le, nat_lt, Some, find, length, map, arith, refl, slice_index, get_or}
use Rattle.std.specs.Prelude.{◌≢◌, IsTrue, All, AllPairs, codes}
use Rattle.std.specs.List.{list_all, AllByRecursion}
use Rattle.std.specs.Option.{option_map}
use Rattle.std.proofs.lemmas.Bool.Decides.{nat_tests}
use Rattle.std.proofs.lemmas.List.Sums.{AllPass-from_list_all}
use Rattle.std.proofs.lemmas.List.Elements.{All-append, All-nil, All-cons}
use Rattle.std.proofs.lemmas.List.Kept.{AllPairs-cons}
use Rattle.as4_values.specs.Moment.{digits}
use Rattle.as4_values.specs.PlainTexts.{IsPlainText, allows_at}
use Rattle.as4_values.specs.Word.{IsWord, allows}
use Rattle.as4_values.specs.declared.word.Word.TheVariants.{ErrorCode}
use Rattle.as4_codes.specs.ErrorCodes.{ErrorRow, error_row, error_table, code_text}
use Rattle.as4_codes.specs.declared.rows.Row.{Row}
use Rattle.as4_codes.specs.Rows.{row_of}

-- the view of the item that is found is the item that is found among the views
find_map : {A B : Type 0} (view : A → B) (test : B → Bool) (xs : List A) → option_map view (find (λ x. test (view x)) xs) ≡ find test (map view xs)
find_map view test [] = refl
find_map view test (x ∷ xs) =
    elim (test (view x)) as (λ b. option_map view (cond b (Some x) (find (λ y. test (view y)) xs)) ≡ cond b (Some (view x)) (find test (map view xs))) [
      | true ↦ refl
      | false ↦ find_map view test xs
    ]

-- a table that shows the rows of the specification finds the same rows
pub found_row : (table : List Row) (code : ℕ) → map row_of table ≡ error_table → option_map row_of (find (λ row. row.code == code) table) ≡ error_row code
unfolding error_row
found_row table code same = rw (← same) (find_map row_of (λ row. row.code == code) table)

-- the item that is found passes a test that every item passes
found_passes : {X : Type 0} (test good : X → Bool) (xs : List X) (x : X) → list_all good xs ≡ true → find test xs ≡ Some x → good x ≡ true
found_passes test good (y ∷ ys) x each found =
    let first : good y ≡ true = grind (arith, nat_tests) in
    let others : list_all good ys ≡ true = grind (arith, nat_tests) in
    (elim (test y) as (λ b. cond b (Some y) (find test ys) ≡ Some x → good x ≡ true) [
      | true ↦ λ is. cc
      | false ↦ λ is. found_passes test good ys x others is
    ]) found
found_passes test good [] x each found = absurd cc

abbrev is_letter : ℕ → Bool
is_letter b = nat_le 65 b && nat_le b 122

abbrev is_letters : List ℕ → Bool
is_letters text = nat_le 1 (length text) && (nat_le (length text) 64 && list_all is_letter text)

abbrev is_sound : ErrorRow → Bool
is_sound row = nat_lt row.code 10000 && (is_letters row.short && is_letters row.category)

letter_is_allowed : (text : List ℕ) (at : ℕ) → is_letter (slice_index text at) ≡ true → IsTrue (allows_at text at)
letter_is_allowed text at letter = grind (arith, nat_tests)

letters_are_plain : (text : List ℕ) → is_letters text ≡ true → IsPlainText text
letters_are_plain text letters =
    let each : list_all is_letter text ≡ true = grind (arith, nat_tests) in
    record {
      some = grind (arith, nat_tests);
      limited = grind (arith, nat_tests);
      each = λ k within. letter_is_allowed text k (AllPass-from_list_all is_letter text each k 0 within);
    }

-- each row has a code of four digits and plain texts
pub row_is_sound : (code : ℕ) (row : ErrorRow) → error_row code ≡ Some row → (row.code < 10000) × IsPlainText row.short × IsPlainText row.category
unfolding error_row error_table
row_is_sound code row found =
    let sound : is_sound row ≡ true = found_passes (λ r. r.code == code) is_sound error_table row refl found in
    let small : nat_lt row.code 10000 ≡ true = grind (arith, nat_tests) in
    let short : is_letters row.short ≡ true = grind (arith, nat_tests) in
    let category : is_letters row.category ≡ true = grind (arith, nat_tests) in
    (grind (arith, nat_tests), letters_are_plain row.short short, letters_are_plain row.category category)

all_of : {X : Type 0} (P : X → Type 0) (xs : List X) → AllByRecursion P xs → All P xs
all_of P [] each = All-nil P
all_of P (x ∷ xs) each = All-cons P x xs each.0 (all_of P xs each.1)

-- looking up the code of a row finds that row
pub found_by_code : All (λ row. error_row row.code ≡ Some row) error_table
unfolding error_row error_table
found_by_code =
    all_of (λ row. error_row row.code ≡ Some row) error_table
    (refl, (refl, (refl, (refl, (refl, (refl, (refl, (refl, (refl, (refl, tt))))))))))

-- the codes of the rows rise
abbrev rises : List ℕ → Bool
rises [] = true
rises (x ∷ xs) = list_all (λ y. nat_lt x y) xs && rises xs

all_above : (x : ℕ) (xs : List ℕ) → list_all (λ y. nat_lt x y) xs ≡ true → All (λ y. x ≢ y) xs
all_above x xs above k d within =
    let one : nat_lt x (get_or xs k d) ≡ true = AllPass-from_list_all (λ y. nat_lt x y) xs above k d within in
    grind (arith, nat_tests)

rising_differ : (xs : List ℕ) → rises xs ≡ true → AllPairs (λ a b. a ≢ b) xs
rising_differ [] rising = λ i j d below within. absurd (omega arith)
rising_differ (x ∷ xs) rising =
    let first : list_all (λ y. nat_lt x y) xs ≡ true = grind (arith, nat_tests) in
    let others : rises xs ≡ true = grind (arith, nat_tests) in
    AllPairs-cons (λ a b. a ≢ b) x xs (all_above x xs first) (rising_differ xs others)

pub codes_of_rows_differ : AllPairs (λ a b. a ≢ b) (map (λ row. row.code) error_table)
unfolding error_table
codes_of_rows_differ = rising_differ (map (λ row. row.code) error_table) refl

-- the four digits of a code
abbrev pub digits_of : ℕ → List ℕ
digits_of code = (48 + code / 1000) ∷ (48 + code / 100 % 10) ∷ (48 + code / 10 % 10) ∷ (48 + code % 10) ∷ []

pub code_digits : (code : ℕ) → code < 10000 → code_text code ≡ codes "EBMS:" ++ digits_of code
unfolding code_text digits
code_digits code small =
    let first : code / 10 / 10 / 10 % 10 ≡ code / 1000 = omega arith in
    let second : code / 10 / 10 % 10 ≡ code / 100 % 10 = omega arith in
    rw (first, second) refl

abbrev IsAllowed : ℕ → Type 0
IsAllowed b = IsTrue (allows ErrorCode b)

digit_is_allowed : (digit : ℕ) → digit < 10 → IsAllowed (48 + digit)
digit_is_allowed digit small = grind (arith, nat_tests)

one_more : (digit : ℕ) (bytes : List ℕ) → digit < 10 → All IsAllowed bytes → All IsAllowed ((48 + digit) ∷ bytes)
one_more digit bytes small each = All-cons IsAllowed (48 + digit) bytes (digit_is_allowed digit small) each

pub code_is_word : (code : ℕ) → code < 10000 → IsWord ErrorCode (code_text code)
code_is_word code small =
    let front : All IsAllowed (codes "EBMS:") = λ k d within. AllPass-from_list_all (allows ErrorCode) (codes "EBMS:") refl k d within in
    let behind : All IsAllowed (digits_of code) =
    one_more (code / 1000) ((48 + code / 100 % 10) ∷ (48 + code / 10 % 10) ∷ (48 + code % 10) ∷ []) (omega arith)
    (one_more (code / 100 % 10) ((48 + code / 10 % 10) ∷ (48 + code % 10) ∷ []) (omega arith)
    (one_more (code / 10 % 10) ((48 + code % 10) ∷ []) (omega arith) (one_more (code % 10) [] (omega arith) (All-nil IsAllowed)))) in
    rw (code_digits code small) (record {
      some = omega arith;
      limited = omega arith;
      each = λ k d _ within. All-append IsAllowed (codes "EBMS:") (digits_of code) front behind k d within;
    })
