-- The least number that isn't among sorted numbers.
use Rattle.std.proofs.Common.{◌≡◌, ℕ, zero, suc, ◌+◌, ◌-◌, ◌<◌, ◌≤◌, List, Bool, false, length, get_or, arith, refl, sym, ap, ◌∙◌, inl, inr}
use Rattle.std.specs.List.{Contains}
use Rattle.std.specs.List.Sorted.{IsSorted}
use Rattle.std.specs.Ordering.{nat_cmp, is_lt}
use Rattle.std.proofs.lemmas.Bool.{cases_lt}
use Rattle.std.proofs.lemmas.Grind.{common_steps}
use Rattle.std.proofs.lemmas.List.{get_or_default}
use Rattle.package_writer.specs.Numbers.{IsLeastWithout}

-- the first `i` numbers are below `least`, and all numbers below `least` are among them
pub record SoFar (numbers : List ℕ) (i least : ℕ) : Type 0 where
  pub few : least ≤ i
  pub below : (k d : ℕ) → k < i → get_or numbers k d < least
  pub each : (m : ℕ) → m < least → Contains numbers m

pub starts : (numbers : List ℕ) → SoFar numbers 0 0
starts numbers = record { few = omega arith; below = λ k d none. absurd (omega (arith, none)); each = λ m none. absurd (omega (arith, none)) }

pub goes_on : (numbers : List ℕ) (i least : ℕ) → SoFar numbers i least → i < length numbers → get_or numbers i 0 < least → SoFar numbers (i + 1) least
goes_on numbers i least so within less = record {
  few = omega (arith, so.few);
  below = λ k d below. elim (cases_lt k i) [
    | inl before ↦ so.below k d before
    | inr behind ↦ let here : k ≡ i = omega arith in rw (here, get_or_default numbers i d 0 within) less
  ];
  each = so.each;
}

pub rises : (numbers : List ℕ) (i least : ℕ) → SoFar numbers i least → i < length numbers → get_or numbers i 0 ≡ least → SoFar numbers (i + 1) (least + 1)
rises numbers i least so within same = record {
  few = omega (arith, so.few);
  below = λ k d below. elim (cases_lt k i) [
    | inl before ↦ omega (arith, so.below k d before)
    | inr behind ↦ let here : k ≡ i = omega arith in rw (here, get_or_default numbers i d 0 within) (omega (arith, same))
  ];
  each = λ m below. elim (cases_lt m least) [
    | inl before ↦ so.each m before
    | inr behind ↦ let here : m ≡ least = omega arith in (i, within, rw here (get_or_default numbers i least 0 within ∙ same))
  ];
}

pub ends : (numbers : List ℕ) (least : ℕ) → SoFar numbers (length numbers) least → IsLeastWithout least numbers
ends numbers least so = record {
  free = λ among. let less = so.below among.0 least among.1 in absurd (omega (arith, less, among.2));
  least = so.each;
}

not_less : (x y : ℕ) → is_lt (nat_cmp x y) ≡ false → y ≤ x
not_less x y e = grind (arith, common_steps)

-- sorted numbers ascend
ascends : (numbers : List ℕ) (k more d : ℕ) → IsSorted nat_cmp numbers → k + more < length numbers → get_or numbers k d ≤ get_or numbers (k + more) d
ascends numbers k zero d sorted within = let place : k + 0 ≡ k = omega arith in rw place (omega arith)
ascends numbers k (suc more) d sorted within =
    let place : k + suc more ≡ k + more + 1 = omega arith in
    let before = ascends numbers k more d sorted (omega (arith, within)) in
    let next = not_less (get_or numbers (k + more + 1) d) (get_or numbers (k + more) d) (sorted (k + more) d (omega arith) (omega (arith, within))) in
    rw place (omega (arith, before, next))

pub stops : (numbers : List ℕ) (i least : ℕ) → IsSorted nat_cmp numbers → SoFar numbers i least → i < length numbers → least < get_or numbers i 0 → IsLeastWithout least numbers
stops numbers i least sorted so within greater = record {
  free = λ among. elim (cases_lt among.0 i) [
    | inl before ↦ let less = so.below among.0 least before in absurd (omega (arith, less, among.2))
    | inr behind ↦
        let place : i + (among.0 - i) ≡ among.0 = omega arith in
        let more = ascends numbers i (among.0 - i) least sorted (omega (arith, among.1)) in
        let here = rw place at more in
        absurd (omega (arith, greater, get_or_default numbers i least 0 within, here, among.2))
  ];
  least = so.each;
}
