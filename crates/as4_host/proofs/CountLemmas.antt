-- Lemmas on counts of faults.
use Rattle.std.proofs.Common.{◌≡◌, ℕ, zero, suc, ◌≤◌, refl, arith}
use Rattle.as4_host.specs.Counts.{raised, HasNotRisen}

pub settled : (faults count : ℕ) → HasNotRisen count (raised faults count) → faults ≡ 0
settled zero count quiet = refl
settled (suc faults) count quiet = absurd (omega (arith, quiet))

pub parts : (first between last : ℕ) → first ≤ between → between ≤ last → HasNotRisen first last → HasNotRisen first between × HasNotRisen between last
parts first between last before after quiet = (omega arith, omega arith)
