-- Lemmas on the messages that are written.
use Rattle.std.proofs.Common.{◌≡◌, ◌≢◌, IsTrue, ℕ, ◌≤◌, Bool, true, false, not, Some, None, unwrap_or, nat_lt, cond, List, [], ◌++◌, length, refl, sym, ◌∙◌, ap, arith, append_assoc}
use Rattle.std.specs.Prelude.{position, codes}
use Rattle.as4_http.specs.Written.{response_text, is_fixed}
use Rattle.std.proofs.lemmas.Bool.Decides.{nat_tests}
use Rattle.std.specs.List.{position_or_len}
use Rattle.std.proofs.lemmas.Bool.{ltb-false}
use Rattle.std.proofs.lemmas.List.Sums.{prefix_len-le-length}

or_end : (n end : ℕ) (b : Bool) → nat_lt n end ≡ b → n ≤ end → unwrap_or (cond b (Some n) None) end ≡ n
or_end n end true is within = refl
or_end n end false is within = omega (arith, ltb-false n end is)

-- the place of the first that passes, or the end
pub position_or_end : (p : ℕ → Bool) (xs : List ℕ) → unwrap_or (position p xs) (length xs) ≡ position_or_len p xs
position_or_end p xs =
    let within : position_or_len p xs ≤ length xs = prefix_len-le-length (λ x. not (p x)) xs in
    or_end (position_or_len p xs) (length xs) (nat_lt (position_or_len p xs) (length xs)) refl within

-- five pieces behind one another
pub five_behind : (o a b c d e p q r s t : List ℕ) → p ≡ o ++ a → q ≡ p ++ b → r ≡ q ++ c → s ≡ r ++ d → t ≡ s ++ e → t ≡ o ++ (a ++ b ++ c ++ d ++ e)
five_behind o a b c d e p q r s t first second third fourth fifth =
    let whole : t ≡ ((((o ++ a) ++ b) ++ c) ++ d) ++ e = cc (first, second, third, fourth, fifth) in
    whole ∙ simp append_assoc

-- the constant of a status is its response
pub fixed_at : (status n : ℕ) (text : List ℕ) → status ≡ n → text ≡ response_text n None (codes "close") [] → text ≡ response_text status None (codes "close") []
fixed_at status n text is same = same ∙ ap (λ (s : ℕ). response_text s None (codes "close") []) (sym is)

-- a status of a constant that is none of the others
pub last_fixed : (status : ℕ) → IsTrue (is_fixed status) → status ≢ 202 → status ≢ 400 → status ≢ 413 → status ≡ 503
last_fixed status fixed not_first not_second not_third = grind (arith, nat_tests)
