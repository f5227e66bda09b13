-- The nonce can be read from the identifier made of it.
use Rattle.std.proofs.Common.{◌≡◌, ℕ, zero, suc, ◌+◌, ◌-◌, ◌*◌, ◌/◌, ◌%◌, ◌^◌, ◌<◌, List, [], ◌∷◌, ◌++◌, Bool, true, false, length, get_or, take, drop, append_assoc, add-one, arith, refl, ap, sym, ◌∙◌, if◌then◌else◌}
use Rattle.std.specs.Prelude.{◌==◌, ◌&&◌, nat_lt, bytes_eq, codes}
use Rattle.std.specs.Int.{w128, to_be_bytes, bytes_high_first, byte_at}
use Rattle.std.specs.Fmt.{decimal}
use Rattle.std.proofs.Math.Nat.{div-div-eq-div-mul, pow-suc, div-eq_of_lt}
use Rattle.std.proofs.Math.Seq.{take-append_seam, drop-append-add}
use Rattle.std.proofs.lemmas.Bool.Decides.{nat_tests}
use Rattle.std.proofs.lemmas.Slice.Eq.{bytes_eq-Decides}
use Rattle.uuid.specs.Text.{by_index, lower, hex_digit, nibble, digit_place, is_hyphen_place}
use Rattle.uuid.proofs.TextLemmas.{nibble_small, nibble_even, nibble_odd}
use Rattle.as4_values.proofs.IdentifierLemmas.{length-uuid_text}
use Rattle.as4_values.specs.Identifiers.{uuid_text, submission_id}
use Rattle.as4_effects.specs.Sound.{digit_of, number_in, nonce_in, is_id_of}

-- the byte at a place of the text of a UUID with these bytes
abbrev symbol : List ℕ → ℕ → ℕ
symbol bytes k = if is_hyphen_place k then 45 else hex_digit lower (nibble bytes (digit_place k))

by_index_more : (n : ℕ) (f : ℕ → ℕ) → by_index (n + 1) f ≡ by_index n f ++ f n ∷ []
unfolding by_index
by_index_more n f = rw add-one refl

-- one more symbol at the end
number_push : (n : ℕ) (text : List ℕ) (b : ℕ) → number_in n (text ++ b ∷ []) ≡ (if b == 45 then number_in n text else number_in n text * 16 + digit_of b)
unfolding number_in
number_push n [] b = refl
number_push n (c ∷ text) b =
    elim (c == 45) as (λ v. (if v then number_in n (text ++ b ∷ []) else number_in (n * 16 + digit_of c) (text ++ b ∷ []))
    ≡ (if b == 45 then (if v then number_in n text else number_in (n * 16 + digit_of c) text)
    else (if v then number_in n text else number_in (n * 16 + digit_of c) text) * 16 + digit_of b)) [
      | true ↦ number_push n text b
      | false ↦ number_push (n * 16 + digit_of c) text b
    ]

digit_is_no_hyphen : (d : ℕ) → d < 16 → (hex_digit lower d == 45) ≡ false
digit_is_no_hyphen d small = grind (arith, nat_tests)

digit_back : (d : ℕ) → d < 16 → digit_of (hex_digit lower d) ≡ d
digit_back d small = grind (arith, nat_tests)

push_digit : (text : List ℕ) (d : ℕ) → d < 16 → number_in 0 (text ++ hex_digit lower d ∷ []) ≡ number_in 0 text * 16 + d
push_digit text d small =
    number_push 0 text (hex_digit lower d) ∙ rw (digit_is_no_hyphen d small, digit_back d small) refl

digit_step : (bytes : List ℕ) (k j : ℕ) → is_hyphen_place k ≡ false → digit_place k ≡ j
    → number_in 0 (by_index (k + 1) (symbol bytes)) ≡ number_in 0 (by_index k (symbol bytes)) * 16 + nibble bytes j
digit_step bytes k j digit place =
    let here : symbol bytes k ≡ hex_digit lower (nibble bytes j) = rw (digit, place) refl in
    ap (number_in 0) (by_index_more k (symbol bytes))
    ∙ (ap (λ b. number_in 0 (by_index k (symbol bytes) ++ b ∷ [])) here
    ∙ push_digit (by_index k (symbol bytes)) (nibble bytes j) (nibble_small bytes j))

hyphen_step : (bytes : List ℕ) (k : ℕ) → is_hyphen_place k ≡ true
    → number_in 0 (by_index (k + 1) (symbol bytes)) ≡ number_in 0 (by_index k (symbol bytes))
hyphen_step bytes k hyphen =
    let here : symbol bytes k ≡ 45 = rw hyphen refl in
    ap (number_in 0) (by_index_more k (symbol bytes))
    ∙ (ap (λ b. number_in 0 (by_index k (symbol bytes) ++ b ∷ [])) here ∙ number_push 0 (by_index k (symbol bytes)) 45)

byte_at_is : (p n : ℕ) → byte_at p n ≡ n / 256 ^ p % 256
byte_at_is zero n = omega arith
byte_at_is (suc p) n = refl

byte_from_front : (k n i : ℕ) → i < k → get_or (bytes_high_first k n) i 0 ≡ byte_at (k - 1 - i) n
byte_from_front zero n i within = absurd (omega arith)
byte_from_front (suc k) n zero within = let e : suc k - 1 - 0 ≡ k = omega arith in rw e refl
byte_from_front (suc k) n (suc i) within =
    let e : suc k - 1 - suc i ≡ k - 1 - i = omega arith in
    rw e (byte_from_front k n i (omega arith))

-- the digits before a place write the high part of the number
abbrev Reads : ℕ → ℕ → ℕ → Type 0
Reads nonce k i = number_in 0 (by_index k (symbol (to_be_bytes w128 nonce))) ≡ nonce / 256 ^ (16 - i)

two_digits : (y : ℕ) → (y / 256 * 16 + y % 256 / 16 % 16) * 16 + y % 256 % 16 ≡ y
two_digits y = omega arith

front_of : (nonce i : ℕ) → i < 16 → nonce / 256 ^ (16 - i) ≡ nonce / 256 ^ (16 - (i + 1)) / 256
front_of nonce i below =
    let e : 16 - i ≡ suc (16 - (i + 1)) = omega arith in
    rw (e, pow-suc, div-div-eq-div-mul) refl

byte_here : (nonce i : ℕ) → i < 16 → get_or (to_be_bytes w128 nonce) i 0 ≡ nonce / 256 ^ (16 - (i + 1)) % 256
byte_here nonce i below =
    let e : 16 - 1 - i ≡ 16 - (i + 1) = omega arith in
    byte_from_front 16 nonce i below ∙ (ap (λ p. byte_at p nonce) e ∙ byte_at_is (16 - (i + 1)) nonce)

-- a byte is two digits
byte_step : (nonce k i : ℕ) → is_hyphen_place k ≡ false → is_hyphen_place (k + 1) ≡ false → digit_place k ≡ 2 * i → digit_place (k + 1) ≡ 2 * i + 1
    → i < 16 → Reads nonce k i → Reads nonce (k + 1 + 1) (i + 1)
byte_step nonce k i one two first second below reads =
    let bytes : List ℕ = to_be_bytes w128 nonce in
    let y : ℕ = nonce / 256 ^ (16 - (i + 1)) in
    let high : nibble bytes (2 * i) ≡ y % 256 / 16 % 16 = nibble_even bytes i ∙ ap (λ b. b / 16 % 16) (byte_here nonce i below) in
    let low : nibble bytes (2 * i + 1) ≡ y % 256 % 16 = nibble_odd bytes i ∙ ap (λ b. b % 16) (byte_here nonce i below) in
    let front : number_in 0 (by_index k (symbol bytes)) ≡ y / 256 = reads ∙ front_of nonce i below in
    digit_step bytes (k + 1) (2 * i + 1) two second
    ∙ (ap (λ n. n * 16 + nibble bytes (2 * i + 1)) (digit_step bytes k (2 * i) one first)
    ∙ (rw (high, low, front) (two_digits y)))

reads_nothing : (nonce : ℕ) → nonce < 2 ^ 128 → Reads nonce 0 0
unfolding by_index number_in
reads_nothing nonce fits = sym (div-eq_of_lt {n = nonce} {m = 256 ^ 16} fits)

skip : (nonce k i : ℕ) → is_hyphen_place k ≡ true → Reads nonce k i → Reads nonce (k + 1) i
skip nonce k i hyphen reads = hyphen_step (to_be_bytes w128 nonce) k hyphen ∙ reads

pub nonce_back : (nonce : ℕ) → nonce < 2 ^ 128 → number_in 0 (uuid_text nonce) ≡ nonce
unfolding uuid_text
nonce_back nonce fits =
    let r1 : Reads nonce 2 1 = byte_step nonce 0 0 refl refl refl refl (omega arith) (reads_nothing nonce fits) in
    let r2 : Reads nonce 4 2 = byte_step nonce 2 1 refl refl refl refl (omega arith) r1 in
    let r3 : Reads nonce 6 3 = byte_step nonce 4 2 refl refl refl refl (omega arith) r2 in
    let r4 : Reads nonce 8 4 = byte_step nonce 6 3 refl refl refl refl (omega arith) r3 in
    let r5 : Reads nonce 11 5 = byte_step nonce 9 4 refl refl refl refl (omega arith) (skip nonce 8 4 refl r4) in
    let r6 : Reads nonce 13 6 = byte_step nonce 11 5 refl refl refl refl (omega arith) r5 in
    let r7 : Reads nonce 16 7 = byte_step nonce 14 6 refl refl refl refl (omega arith) (skip nonce 13 6 refl r6) in
    let r8 : Reads nonce 18 8 = byte_step nonce 16 7 refl refl refl refl (omega arith) r7 in
    let r9 : Reads nonce 21 9 = byte_step nonce 19 8 refl refl refl refl (omega arith) (skip nonce 18 8 refl r8) in
    let r10 : Reads nonce 23 10 = byte_step nonce 21 9 refl refl refl refl (omega arith) r9 in
    let r11 : Reads nonce 26 11 = byte_step nonce 24 10 refl refl refl refl (omega arith) (skip nonce 23 10 refl r10) in
    let r12 : Reads nonce 28 12 = byte_step nonce 26 11 refl refl refl refl (omega arith) r11 in
    let r13 : Reads nonce 30 13 = byte_step nonce 28 12 refl refl refl refl (omega arith) r12 in
    let r14 : Reads nonce 32 14 = byte_step nonce 30 13 refl refl refl refl (omega arith) r13 in
    let r15 : Reads nonce 34 15 = byte_step nonce 32 14 refl refl refl refl (omega arith) r14 in
    let r16 : Reads nonce 36 16 = byte_step nonce 34 15 refl refl refl refl (omega arith) r15 in
    r16 ∙ omega arith

both_true : (a b : Bool) → a ≡ true → b ≡ true → (a && b) ≡ true
both_true a b one other = grind arith

-- the identifier of a submission is one of its number
pub id_is_of : (number nonce : ℕ) → nonce < 2 ^ 128 → is_id_of number (submission_id number nonce) ≡ true
unfolding is_id_of
id_is_of number nonce fits =
    let id : List ℕ = submission_id number nonce in
    let joined : id ≡ decimal number ++ (codes "." ++ (uuid_text nonce ++ codes "@as4")) = simp append_assoc in
    let behind : drop (length (decimal number) + 1) id ≡ uuid_text nonce ++ codes "@as4" =
    ap (drop (length (decimal number) + 1)) joined ∙ drop-append-add (decimal number) (codes "." ++ (uuid_text nonce ++ codes "@as4")) 1 in
    let window : take 36 (drop (length (decimal number) + 1) id) ≡ uuid_text nonce =
    ap (take 36) behind ∙ (ap (λ n. take n (uuid_text nonce ++ codes "@as4")) (sym (length-uuid_text nonce)) ∙ take-append_seam (uuid_text nonce) (codes "@as4")) in
    let found : nonce_in number id ≡ nonce = ap (number_in 0) window ∙ nonce_back nonce fits in
    let below : nat_lt nonce (2 ^ 128) ≡ true = grind (arith, nat_tests) in
    rw found (both_true (nat_lt nonce (2 ^ 128)) (bytes_eq id id) below ((bytes_eq-Decides id id).1 refl))
