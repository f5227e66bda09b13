-- The nonce in the identifier of a submission.
use Rattle.std.proofs.Common.{◌≡◌, ◌≢◌, ℕ, ◌+◌, ◌-◌, ◌*◌, ◌^◌, ◌<◌, ◌≤◌, List, [], ◌∷◌, Bool, true, false, length, get_or, drop, length-append, take, arith, refl, ap, sym, ◌∙◌, if◌then◌else◌}
use Rattle.std.specs.Prelude.{◌==◌, ◌&&◌, nat_lt, bytes_eq}
use Rattle.std.proofs.lemmas.Slice.Eq.{bytes_eq-Decides}
use Rattle.std.specs.Fmt.{decimal}
use Rattle.std.proofs.lemmas.List.{drop_more}
use Rattle.std.proofs.lemmas.Bool.Decides.{nat_tests}
use Rattle.as4_values.proofs.IdentifierLemmas.{length-uuid_text}
use Rattle.as4_values.specs.Identifiers.{submission_id}
use Rattle.as4_effects.specs.Sound.{digit_of, number_in, nonce_in, is_id_of}

not_hyphen : (b : ℕ) → b ≢ 45 → (b == 45) ≡ false
not_hyphen b digit = grind (arith, nat_tests)

not_below : (n : ℕ) → 2 ^ 128 ≤ n → nat_lt n (2 ^ 128) ≡ false
not_below n great = grind (arith, nat_tests)

is_below : (n : ℕ) → n < 2 ^ 128 → nat_lt n (2 ^ 128) ≡ true
is_below n below = grind (arith, nat_tests)

and_false : (b : Bool) → (b && false) ≡ false
and_false true = refl
and_false false = refl

not_true : (b : Bool) → (b ≡ true → ⊥) → b ≡ false
not_true true h = absurd (h refl)
not_true false h = refl

unequal : (a b : List ℕ) → a ≢ b → bytes_eq a b ≡ false
unequal a b apart = not_true (bytes_eq a b) (λ h. apart ((bytes_eq-Decides a b).0 h))

-- with a hyphen or a digit first
no_less_by : (hyphen : Bool) (n b : ℕ) (text : List ℕ) → ((m : ℕ) → m ≤ number_in m text)
    → n ≤ (if hyphen then number_in n text else number_in (n * 16 + digit_of b) text)
no_less_by true n b text more = more n
no_less_by false n b text more = let h : n * 16 + digit_of b ≤ number_in (n * 16 + digit_of b) text = more (n * 16 + digit_of b) in omega arith

-- more digits never make it smaller
pub no_less : (n : ℕ) (text : List ℕ) → n ≤ number_in n text
unfolding number_in
no_less n [] = omega arith
no_less n (b ∷ text) = no_less_by (b == 45) n b text (λ m. no_less m text)

pub too_great : (n : ℕ) (text : List ℕ) (i : ℕ) → i < length text → get_or text i 0 ≢ 45
    → 2 ^ 128 ≤ n * 16 + digit_of (get_or text i 0) → 2 ^ 128 ≤ number_in n (drop i text)
unfolding number_in
too_great n text i below digit much =
    let more : n * 16 + digit_of (get_or text i 0) ≤ number_in (n * 16 + digit_of (get_or text i 0)) (drop (i + 1) text) =
    no_less (n * 16 + digit_of (get_or text i 0)) (drop (i + 1) text) in
    rw (drop_more text i 0 below, not_hyphen (get_or text i 0) digit) (omega arith)

submission_length : (number nonce : ℕ) → length (submission_id number nonce) ≡ length (decimal number) + 41
submission_length number nonce =
    simp (length-append, length-uuid_text) (omega arith)

-- the code takes the bytes of the UUID
window : (number : ℕ) (id bytes digits : List ℕ) → digits ≡ decimal number → bytes ≡ id
    → take ((length digits + 37) - (length digits + 1)) (drop (length digits + 1) bytes) ≡ take 36 (drop (length (decimal number) + 1) id)
window number id bytes digits e f =
    let cut : (length digits + 37) - (length digits + 1) ≡ 36 = omega arith in
    rw (cut, e, f) refl

-- an identifier of another length isn't one of this number
pub wrong_length : (number : ℕ) (id bytes digits : List ℕ) → digits ≡ decimal number → bytes ≡ id
    → length bytes ≢ length digits + 41 → false ≡ is_id_of number id
unfolding is_id_of
wrong_length number id bytes digits e f wrong =
    let other : id ≢ submission_id number (nonce_in number id) =
    λ same. wrong (ap length (f ∙ same) ∙ submission_length number (nonce_in number id) ∙ ap (λ d. length d + 41) (sym e)) in
    rw (unequal id (submission_id number (nonce_in number id)) other) (sym (and_false (nat_lt (nonce_in number id) (2 ^ 128))))

-- nor is one whose digits write a number of more than 128 bits
pub wrong_nonce : (number : ℕ) (id bytes digits : List ℕ) → digits ≡ decimal number → bytes ≡ id
    → 2 ^ 128 ≤ number_in 0 (take ((length digits + 37) - (length digits + 1)) (drop (length digits + 1) bytes))
    → false ≡ is_id_of number id
unfolding is_id_of
wrong_nonce number id bytes digits e f much =
    let great : 2 ^ 128 ≤ nonce_in number id = rw (window number id bytes digits e f) at much in
    rw (not_below (nonce_in number id) great) refl

pub right_nonce : (number nonce : ℕ) (id bytes digits made : List ℕ) (same : Bool) → digits ≡ decimal number → bytes ≡ id
    → nonce ≡ number_in 0 (take ((length digits + 37) - (length digits + 1)) (drop (length digits + 1) bytes)) → nonce < 2 ^ 128
    → made ≡ submission_id number nonce → same ≡ bytes_eq bytes made → same ≡ is_id_of number id
unfolding is_id_of
right_nonce number nonce id bytes digits made same e f g below h s =
    let found : nonce_in number id ≡ nonce = sym (g ∙ ap (number_in 0) (window number id bytes digits e f)) in
    s ∙ rw (found, is_below nonce below, h, f) refl
