-- Submissions at the places of their numbers: the one of a number is at its place, and no two have the same identifier.
use Rattle.std.proofs.Common.{◌≡◌, ◌≢◌, ℕ, zero, suc, ◌+◌, ◌<◌, ◌≤◌, inl, inr, List, [], ◌∷◌, ◌++◌, Some, length, refl, sym, ap, ◌∙◌, arith}
use Rattle.std.specs.List.{slice_get}
use Rattle.std.proofs.lemmas.Bool.{and_parts, eq-eqb, ne_eqb, cond-true, cond-false}
use Rattle.std.proofs.lemmas.Slice.Eq.{bytes_eq-Decides}
use Rattle.as4_values.proofs.IdentifierLemmas.{submission_number}
use Rattle.as4_values.specs.Identifiers.{submission_id}
use Rattle.as4_effects.specs.Sound.{nonce_in, is_id_of}
use Rattle.as4_effects.specs.declared.submission.Submission.{Submission}
use Rattle.exchange_model.specs.Apply.{changed}
use Rattle.exchange_model.specs.Numbered.{AreNumberedFrom}
use Rattle.exchange_model.specs.Questions.{sent_at}
use Rattle.exchange_model.specs.declared.sent.Sent.{Sent}
use Rattle.exchange_model.proofs.ListLemmas.{Has}

-- at first there are none
pub none_numbered : AreNumberedFrom 0 []
unfolding AreNumberedFrom
none_numbered = tt

-- no number is below the first
pub number_least : (n : ℕ) (sent : List Sent) (s : Sent) → AreNumberedFrom n sent → Has sent s → n ≤ s.submission.number
unfolding AreNumberedFrom
number_least n [] s numbered h = absurd h
number_least n (t ∷ sent) s numbered (inl e) =
    let same : t.submission.number ≡ s.submission.number = ap (λ (u : Sent). u.submission.number) e in
    omega (arith, numbered.0)
number_least n (t ∷ sent) s numbered (inr h) = omega (arith, number_least (suc n) sent s numbered.1 h)

-- each submission is the one of its number
pub itself : (n : ℕ) (sent : List Sent) (s : Sent) → AreNumberedFrom n sent → Has sent s → sent_at s.submission.number sent ≡ Some s
unfolding AreNumberedFrom
itself n [] s numbered h = absurd h
itself n (t ∷ sent) s numbered (inl e) =
    cond-true _ _ _ (eq-eqb t.submission.number s.submission.number (ap (λ (u : Sent). u.submission.number) e)) ∙ ap Some e
itself n (t ∷ sent) s numbered (inr h) =
    let more : suc n ≤ s.submission.number = number_least (suc n) sent s numbered.1 h in
    cond-false _ _ _ (ne_eqb t.submission.number s.submission.number (λ e. omega (arith, numbered.0)))
    ∙ itself (suc n) sent s numbered.1 h

-- the submission of a number is at its place
place_from : (n k : ℕ) (sent : List Sent) → AreNumberedFrom n sent → sent_at (n + k) sent ≡ slice_get sent k
unfolding AreNumberedFrom
place_from n k [] numbered = refl
place_from n zero (s ∷ sent) numbered =
    cond-true _ _ _ (eq-eqb s.submission.number (n + zero) (numbered.0 ∙ omega arith))
place_from n (suc k) (s ∷ sent) numbered =
    cond-false _ _ _ (ne_eqb s.submission.number (n + suc k) (λ e. omega (arith, numbered.0)))
    ∙ ap (λ m. sent_at m sent) (let e : n + suc k ≡ suc n + k = omega arith in e)
    ∙ place_from (suc n) k sent numbered.1

pub place : (k : ℕ) (sent : List Sent) → AreNumberedFrom 0 sent → sent_at k sent ≡ slice_get sent k
place k sent numbered = ap (λ m. sent_at m sent) (let e : k ≡ 0 + k = omega arith in e) ∙ place_from 0 k sent numbered

-- a change at a number leaves the later ones
pub changed_before : (n k : ℕ) (f : Sent → Sent) (sent : List Sent) → AreNumberedFrom n sent → k < n → changed k f sent ≡ sent
unfolding AreNumberedFrom changed
changed_before n k f [] numbered before = refl
changed_before n k f (s ∷ sent) numbered before =
    let other : s.submission.number ≢ k = omega (arith, numbered.0) in
    rw (ne_eqb s.submission.number k other)
    (ap (λ (rest : List Sent). s ∷ rest) (changed_before (suc n) k f sent numbered.1 (omega arith)))

-- one more, with the next number
push_from : (n : ℕ) (sent : List Sent) (s : Sent) → AreNumberedFrom n sent → s.submission.number ≡ n + length sent
    → AreNumberedFrom n (sent ++ s ∷ [])
unfolding AreNumberedFrom
push_from n [] s numbered next = (omega arith, tt)
push_from n (x ∷ sent) s numbered next = (numbered.0, push_from (suc n) sent s numbered.1 (omega arith))

pub numbered_push : (sent : List Sent) (s : Sent) → AreNumberedFrom 0 sent → s.submission.number ≡ length sent
    → AreNumberedFrom 0 (sent ++ s ∷ [])
numbered_push sent s numbered next = push_from 0 sent s numbered (omega arith)

-- its identifier is made of its number
named : (s : Submission) → s.header.id ≡ submission_id s.number (nonce_in s.number s.header.id)
unfolding is_id_of
named s = (bytes_eq-Decides s.header.id (submission_id s.number (nonce_in s.number s.header.id))).0 (and_parts _ _ s.identified).1

-- submissions with the same identifier have the same number
pub one_number : (s t : Submission) → s.header.id ≡ t.header.id → s.number ≡ t.number
one_number s t e =
    submission_number s.number t.number (nonce_in s.number s.header.id) (nonce_in t.number t.header.id)
    (omega (arith, s.numbered)) (omega (arith, t.numbered)) (sym (named s) ∙ e ∙ named t)
