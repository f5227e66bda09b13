-- Submissions at the places of their numbers: a change at a number is written there.
use Rattle.std.proofs.Common.{◌≡◌, ◌≢◌, ℕ, zero, suc, ◌+◌, ◌<◌, List, [], ◌∷◌, length, set, get_or, refl, ap, ◌∙◌, arith}
use Rattle.std.proofs.lemmas.Bool.{eq-eqb, ne_eqb}
use Rattle.exchange_model.specs.Apply.{changed}
use Rattle.exchange_model.specs.Numbered.{AreNumberedFrom}
use Rattle.exchange_model.specs.declared.sent.Sent.{Sent}
use Rattle.exchange_model.proofs.NumberedLemmas.{changed_before}

-- a change at a number is written at its place
changed_from : (n k number : ℕ) (f : Sent → Sent) (sent : List Sent) (d : Sent) → number ≡ n + k → AreNumberedFrom n sent
    → k < length sent → set sent k (f (get_or sent k d)) ≡ changed number f sent
unfolding AreNumberedFrom changed
changed_from n k number f [] d is numbered short = absurd (omega arith)
changed_from n zero number f (s ∷ sent) d is numbered short =
    let here : s.submission.number ≡ number = omega (arith, numbered.0) in
    rw (eq-eqb s.submission.number number here, changed_before (suc n) number f sent numbered.1 (omega arith)) refl
changed_from n (suc k) number f (s ∷ sent) d is numbered short =
    let other : s.submission.number ≢ number = omega (arith, numbered.0) in
    rw (ne_eqb s.submission.number number other)
    (ap (λ (rest : List Sent). s ∷ rest) (changed_from (suc n) k number f sent d (omega arith) numbered.1 (omega arith)))

pub changed_at : (k : ℕ) (f : Sent → Sent) (sent : List Sent) (d : Sent) → AreNumberedFrom 0 sent → k < length sent
    → set sent k (f (get_or sent k d)) ≡ changed k f sent
changed_at k f sent d numbered short = changed_from 0 k k f sent d (omega arith) numbered short

-- one instead of another of its number
set_from : (n k : ℕ) (sent : List Sent) (s d : Sent) → AreNumberedFrom n sent → k < length sent
    → s.submission.number ≡ (get_or sent k d).submission.number → AreNumberedFrom n (set sent k s)
unfolding AreNumberedFrom
set_from n k [] s d numbered short same = numbered
set_from n zero (x ∷ sent) s d numbered short same = (same ∙ numbered.0, numbered.1)
set_from n (suc k) (x ∷ sent) s d numbered short same =
    (numbered.0, set_from (suc n) k sent s d numbered.1 (omega arith) same)

pub numbered_set : (k : ℕ) (sent : List Sent) (s d : Sent) → AreNumberedFrom 0 sent → k < length sent
    → s.submission.number ≡ (get_or sent k d).submission.number → AreNumberedFrom 0 (set sent k s)
numbered_set k sent s d numbered short same = set_from 0 k sent s d numbered short same
