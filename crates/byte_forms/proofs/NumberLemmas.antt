-- Numbers in bytes, and what stands behind them.
use Rattle.std.proofs.Common.{◌≡◌, ℕ, zero, suc, ◌+◌, ◌/◌, ◌%◌, ◌^◌, ◌<◌, List, [], ◌∷◌, ◌++◌, length, length-append, take, drop, get_or, append_assoc, refl, ap, sym, ◌∙◌, arith}
use Rattle.std.proofs.Math.Seq.{take-append_seam, drop-append_seam}
use Rattle.std.proofs.Math.Nat.{pow-succ', mul_comm}
use Rattle.std.proofs.lemmas.Nat.{div_below}
use Rattle.byte_forms.specs.Bytes.{number_body}
use Rattle.byte_forms.specs.Forms.{Once}

pub regroup : (a b r c d s : List ℕ) → (a ++ b) ++ r ≡ (c ++ d) ++ s → a ++ (b ++ r) ≡ c ++ (d ++ s)
regroup a b r c d s e = sym (append_assoc a b r) ∙ e ∙ append_assoc c d s

-- two fronts of one length
pub fronts : (a b : List ℕ) {r s : List ℕ} → length a ≡ length b → a ++ r ≡ b ++ s → (a ≡ b) × (r ≡ s)
fronts a b {r} {s} e h = (
  sym (take-append_seam a r) ∙ ap (take (length a)) h ∙ ap (λ n. take n (b ++ s)) e ∙ take-append_seam b s,
  sym (drop-append_seam a r) ∙ ap (drop (length a)) h ∙ ap (λ n. drop n (b ++ s)) e ∙ drop-append_seam b s,
)

pub number_length : (places n : ℕ) → length (number_body places n) ≡ places
unfolding number_body
number_length zero n = refl
number_length (suc places) n =
    length-append (number_body places (n / 256)) (n % 256 ∷ []) ∙ ap (λ k. k + 1) (number_length places (n / 256)) ∙ omega arith

high_part : (places n : ℕ) → n < 256 ^ suc places → n / 256 < 256 ^ places
high_part places n fits = div_below n 256 (256 ^ places) (omega arith) (rw (pow-succ' 256 places, mul_comm) at fits)

by_parts : (n m : ℕ) → n / 256 ≡ m / 256 → n % 256 ≡ m % 256 → n ≡ m
by_parts n m high low = omega arith

one_number : (places n m : ℕ) → n < 256 ^ places → m < 256 ^ places → number_body places n ≡ number_body places m → n ≡ m
unfolding number_body
one_number zero n m a b e = omega arith
one_number (suc places) n m a b e =
    let parts = fronts (number_body places (n / 256)) (number_body places (m / 256)) (number_length places (n / 256) ∙ sym (number_length places (m / 256))) e in
    by_parts n m (one_number places (n / 256) (m / 256) (high_part places n a) (high_part places m b) parts.0)
    (ap (λ l. get_or l 0 0) parts.1)

-- a number in front
pub number_once : (places : ℕ) → Once (λ n. n < 256 ^ places) (number_body places)
number_once places n m r s a b e =
    let parts = fronts (number_body places n) (number_body places m) (number_length places n ∙ sym (number_length places m)) e in
    (one_number places n m a b parts.0, parts.1)
