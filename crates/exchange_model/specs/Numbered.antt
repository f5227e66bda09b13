-- Each submission is at the place of its number.
use Rattle.std.specs.Prelude.{◌≡◌, ℕ, suc, List, [], ◌∷◌}
use Rattle.exchange_model.specs.declared.sent.Sent.{Sent}

-- the first has this number, and each other one the next
unfoldable pub AreNumberedFrom : ℕ → List Sent → Type 0
AreNumberedFrom n [] = Unit {0}
AreNumberedFrom n (s ∷ sent) = (s.submission.number ≡ n) × AreNumberedFrom (suc n) sent
