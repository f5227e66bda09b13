-- Where a search ends a run.
use Rattle.std.proofs.Common.{◌≡◌, ℕ, ◌+◌, ◌<◌, ◌≤◌, Bool, true, false, List, [], ◌∷◌, length, get_or, Option, Some, None, refl, sym, ◌∙◌, arith}
use Rattle.std.specs.Prelude.{not, cond, nat_lt, position, unwrap_or}
use Rattle.std.specs.List.{position_or_len, prefix_len}
use Rattle.std.proofs.lemmas.Bool.{cond_both, ltb-false, false_from_ne_true, not_from_true, not_from_false}
use Rattle.std.proofs.lemmas.List.Sums.{prefix_len-le-length, prefix_len_is}
use Rattle.memchr.specs.Find.{IsFirstByte}

or_end : (n end : ℕ) → n ≤ end → unwrap_or (cond (nat_lt n end) (Some n) None) end ≡ n
or_end n end within = cond_both (nat_lt n end) (Some n) None (λ r. unwrap_or r end ≡ n) (λ _. refl) (λ e. omega (arith, ltb-false n end e))

-- the place of the first that passes, or the end
pub position_or_end : (p : ℕ → Bool) (xs : List ℕ) → unwrap_or (position p xs) (length xs) ≡ position_or_len p xs
position_or_end p xs =
    let within : position_or_len p xs ≤ length xs = prefix_len-le-length (λ x. not (p x)) xs in
    or_end (position_or_len p xs) (length xs) within

-- the place of the first byte that isn't of the class, or the end
pub end_of_run : (class : ℕ → Bool) (bytes : List ℕ) → unwrap_or (position (λ b. not (class b)) bytes) (length bytes) ≡ prefix_len class bytes
end_of_run class bytes = position_or_end (λ b. not (class b)) bytes ∙ same_run bytes
  where
    both : (b : Bool) → not (not b) ≡ b
    both true = refl
    both false = refl

    same_run : (xs : List ℕ) → prefix_len (λ b. not (not (class b))) xs ≡ prefix_len class xs
    same_run [] = refl
    same_run (x ∷ xs) = rw (both (class x), same_run xs) refl

-- the first byte of a search
pub found_len : (stop class : ℕ → Bool) (bytes : List ℕ) (place : Option ℕ) → ((b : ℕ) → class b ≡ not (stop b)) → IsFirstByte stop bytes place → unwrap_or place (length bytes) ≡ prefix_len class bytes
found_len stop class bytes None is nowhere =
    sym (prefix_len_is class bytes (length bytes) 0 (omega arith)
    (λ k below. is (get_or bytes k 0) ∙ not_from_false _ (false_from_ne_true _ (nowhere k (omega arith) below))) (λ within. absurd (omega arith)))
found_len stop class bytes (Some at) is first =
    sym (prefix_len_is class bytes at 0 (omega (arith, first.0.high))
    (λ k below. is (get_or bytes k 0) ∙ not_from_false _ (false_from_ne_true _ (first.0.before k (omega arith) below))) (λ within. is (get_or bytes at 0) ∙ not_from_true _ first.1))
