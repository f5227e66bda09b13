-- The submissions of an endpoint: the place of each is its number, so its number and its identifier each find it and no
-- other.
use Rattle.std.proofs.Common.{◌≡◌, ℕ, suc, List, [], ◌∷◌, Bool, true, false, Some, map, refl, sym, ap, ◌∙◌}
use Rattle.std.specs.Prelude.{◌&&◌}
use Rattle.std.specs.Str.{bytes_eq}
use Rattle.std.proofs.lemmas.Option.{same_Some}
use Rattle.std.proofs.lemmas.Slice.Eq.{bytes_eq-Decides}
use Rattle.as4_effects.specs.declared.submission.Submission.{Submission}
use Rattle.exchange_model.specs.Numbered.{AreNumberedFrom}
use Rattle.exchange_model.specs.Questions.{sent_at, sent_of}
use Rattle.exchange_model.specs.declared.sent.Sent.{Sent}
use Rattle.exchange_model.proofs.FoundLemmas.{sent_of_has}
use Rattle.exchange_model.proofs.ListLemmas.{Has}
use Rattle.exchange_model.proofs.NumberedLemmas.{itself, one_number}
use Rattle.exchange_laws.proofs.ListLemmas.{finds}

-- a number has one submission
pub one_of_number : (sent : List Sent) (s t : Sent) → AreNumberedFrom 0 sent → Has sent s → Has sent t
    → s.submission.number ≡ t.submission.number → s ≡ t
one_of_number sent s t numbered h k e =
    same_Some s t (sym (itself 0 sent s numbered h) ∙ ap (λ n. sent_at n sent) e ∙ itself 0 sent t numbered k)

-- a map that changes no submission keeps the numbers
pub numbered_map : (n : ℕ) (f : Sent → Sent) (sent : List Sent) → ((s : Sent) → (f s).submission ≡ s.submission) → AreNumberedFrom n sent
    → AreNumberedFrom n (map f sent)
unfolding AreNumberedFrom
numbered_map n f [] keeps numbered = tt
numbered_map n f (s ∷ sent) keeps numbered =
    (ap (λ (u : Submission). u.number) (keeps s) ∙ numbered.0, numbered_map (suc n) f sent keeps numbered.1)

-- both of two Booleans whose conjunction holds
pub and_right : (a b : Bool) → (a && b) ≡ true → b ≡ true
and_right true b h = h
and_right false b h = absurd cc

pub and_left : (a b : Bool) → (a && b) ≡ true → a ≡ true
and_left true b h = refl
and_left false b h = absurd cc

-- each submission is found by its identifier
pub sent_of_own : (sent : List Sent) (s : Sent) → AreNumberedFrom 0 sent → Has sent s → sent_of s.submission.header.id sent ≡ Some s
sent_of_own sent s numbered h =
    let id : List ℕ = s.submission.header.id in
    let f = finds (λ (t : Sent). bytes_eq t.submission.header.id id) sent s h ((bytes_eq-Decides id id).1 refl) in
    let found = sent_of_has id sent f.0 f.1 in
    f.1 ∙ ap Some (one_of_number sent f.0 s numbered found.0 h (one_number f.0.submission s.submission found.1))
