-- Lemmas on the answers to come of a clock and of nonces in memory.
use Rattle.std.proofs.Common.{◌≡◌, ℕ, suc, ◌+◌, ◌%◌, ◌^◌, List, [], ◌∷◌, drop, Some, refl, sym, ◌∙◌, ap, arith}
use Rattle.std.proofs.Math.Nat.{mod-add-mod}
use Rattle.std.proofs.lemmas.List.{drop-drop}
use Rattle.as4_flow.specs.Draws.{Draws}
use Rattle.as4_flow.specs.ClocksInMemory.{ClockState, moment_at, moments_after, after_now, nonce_at}

-- after the first moment come the others
pub moment_after : (moments : List ℕ) (k : ℕ) → moment_at (moments_after moments) k ≡ moment_at moments (k + 1)
moment_after [] k = refl
moment_after (moment ∷ []) k = refl
moment_after (moment ∷ next ∷ moments) k =
    let same : suc k ≡ k + 1 = omega arith in
    ap (λ n. moment_at (moment ∷ next ∷ moments) n) same

-- where the moments from a place on lose their first, so do those that are left
pub moments_used : (all piece left : List ℕ) (given used : ℕ) → drop given all ≡ left → piece ≡ left → drop used piece ≡ moments_after piece → drop (given + used) all ≡ moments_after left
moments_used all piece left given used left_is same after =
    sym (drop-drop used given all)
    ∙ ap (λ (moments : List ℕ). drop used moments) (left_is ∙ sym same)
    ∙ after
    ∙ ap moments_after same

-- a clock that gives its first moment draws it
pub draws_moment : (clock : ClockState) (moments : List ℕ) (moment : ℕ) → moment ≡ moment_at clock.moments 0 → moments ≡ moments_after clock.moments → Draws moment (λ k. Some (moment_at clock.moments k)) (λ k. Some (moment_at moments k))
draws_moment clock moments moment first others = record {
  first = λ told is. cc;
  others = λ k. ap (λ (moments : List ℕ). Some (moment_at moments k)) others ∙ ap Some (moment_after clock.moments k);
}

-- a clock whose parts are those after it gave a moment is that clock
pub is_after_now : (clock : ClockState) (moments : List ℕ) (moment : ℕ) → moment ≡ moment_at clock.moments 0 → moments ≡ moments_after clock.moments → record clock { moments = moments; last = moment } ≡ after_now clock
is_after_now clock moments moment first others = λ i. record { moments = others i; last = first i }

-- after the first number come the others
pub nonce_after : (next k : ℕ) → nonce_at (nonce_at next 1) k ≡ nonce_at next (k + 1)
nonce_after next k =
    let same : next + 1 + k ≡ next + (k + 1) = omega arith in
    mod-add-mod (next + 1) (2 ^ 128) k ∙ ap (λ n. n % (2 ^ 128)) same
