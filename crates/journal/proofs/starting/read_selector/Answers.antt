use Rattle.std.proofs.Common.{◌≡◌, ◌∷◌, [], false, ℕ, ◌<◌, List, length, take, ap, sym, ◌∙◌, refl, arith}
use Rattle.std.proofs.lemmas.Grind.{common_steps}
use Rattle.as4_disk.specs.declared.part.Part.TheVariants.{Selector}
use Rattle.journal.specs.Store.{picks}
use Rattle.journal.proofs.starting.read_selector.Goals as goal

-- an empty selector
none_picks : (bytes : List ℕ) → length bytes < 1 → picks bytes ≡ false
none_picks [] none = refl
none_picks (byte ∷ bytes) none = absurd (omega arith)

-- its first byte is enough
first_picks : (bytes : List ℕ) → picks (take 1 bytes) ≡ picks bytes
first_picks [] = refl
first_picks (byte ∷ bytes) = refl

pub returns-in_default-clause-picked : goal.returns-in_default-clause-picked
returns-in_default-clause-picked g c b told =
    let short : length (b Selector) < 1 = grind (arith, common_steps) in
    none_picks (b Selector) short

pub returns-clause-picked : goal.returns-clause-picked
returns-clause-picked g c b told =
    let are : c.as_slice.result.now ≡ take 1 (b Selector) = grind (arith, common_steps) in
    sym (c.is_odd-is_second.ensures ∙ ap picks are ∙ first_picks (b Selector))
