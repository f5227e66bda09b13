-- Numbers in bytes, big endian.
use Rattle.std.proofs.Common.{◌≡◌, ℕ, ◌+◌, ◌*◌, ◌-◌, ◌/◌, ◌%◌, ◌^◌, ◌<◌, ◌≤◌, List, [], ◌∷◌, ◌++◌, drop, take, length, refl, ap, ◌∙◌, sym, zero, suc, arith, zero-add, add-one, get_or, rules, Fits, w64}
use Rattle.std.proofs.lemmas.List.{take_all, take_more}
use Rattle.std.proofs.Math.Nat.{div-div-eq-div-mul, pow-succ', pow-le-pow_right, suc-add}
use Rattle.std.specs.Int.{w64 as wide, to_be_bytes, byte_at, bytes_high_first}
use Rattle.as4_effects.specs.Bodies.{number_body}

byte_behind : (k n : ℕ) → byte_at (suc k) n ≡ byte_at k (n / 256)
byte_behind zero n = refl
byte_behind (suc k) n = rw (div-div-eq-div-mul n 256 (256 ^ suc k), ← pow-succ' 256 (suc k)) refl

high_first_end : (k n : ℕ) → bytes_high_first (suc k) n ≡ bytes_high_first k (n / 256) ++ n % 256 ∷ []
high_first_end zero n = refl
high_first_end (suc k) n = rw (high_first_end k n, byte_behind k n) refl

pub number_bytes : (places n : ℕ) → number_body places n ≡ bytes_high_first places n
unfolding number_body
number_bytes zero n = refl
number_bytes (suc places) n =
    ap (λ front. front ++ n % 256 ∷ []) (number_bytes places (n / 256)) ∙ sym (high_first_end places n)

drop_front : (k places all n : ℕ) → all ≡ k + places → drop k (bytes_high_first all n) ≡ bytes_high_first places n
drop_front zero places all n e = rw (e, zero-add places) refl
drop_front (suc k) places all n e = rw (e, suc-add k places) (drop_front k places (k + places) n refl)

high_first_length : (k n : ℕ) → length (bytes_high_first k n) ≡ k
high_first_length zero n = refl
high_first_length (suc k) n = ap suc (high_first_length k n)

-- the last places of eight
pub last_places : (places n : ℕ) (bytes : List ℕ) → places ≤ 8 → bytes ≡ to_be_bytes wide n
    → take (8 - (8 - places)) (drop (8 - places) bytes) ≡ number_body places n
last_places places n bytes within e =
    let part : drop (8 - places) bytes ≡ bytes_high_first places n =
    ap (drop (8 - places)) e ∙ drop_front (8 - places) places 8 n (omega arith) in
    ap (take (8 - (8 - places))) part
    ∙ take_all (8 - (8 - places)) (bytes_high_first places n) (rw (high_first_length places n) (omega arith))
    ∙ sym (number_bytes places n)

pub eight_bytes : (n : ℕ) (bytes : List ℕ) → bytes ≡ to_be_bytes wide n → bytes ≡ number_body 8 n
eight_bytes n bytes e = e ∙ sym (number_bytes 8 n)

-- one more place after a number
pub place_behind : (bytes : List ℕ) (i n b : ℕ) → b < 256 → i < length bytes → b ≡ get_or bytes i 0 → number_body i n ≡ take i bytes
    → number_body (i + 1) (n * 256 + b) ≡ take (i + 1) bytes
unfolding number_body
place_behind bytes i n b byte within is e =
    let high : (n * 256 + b) / 256 ≡ n = omega arith in
    let low : (n * 256 + b) % 256 ≡ b = omega arith in
    rw (take_more bytes i 0 within, add-one i, high, low, is, e) refl

pub place_within : (i n b : ℕ) → b < 256 → n < 256 ^ i → n * 256 + b < 256 ^ (i + 1)
place_within i n b byte within = rw (add-one i, pow-succ' 256 i) (omega (arith, within))

pub place_fits : (i n : ℕ) → i < 8 → n < 256 ^ i → Fits w64 (n * 256)
place_fits i n below within =
    let most : 256 ^ i ≤ 256 ^ 7 = pow-le-pow_right {n = 256} (omega arith) {i = i} {j = 7} (omega arith) in
    let product : n * 256 < 2 ^ 64 = omega (arith, most, within) in
    search rules
