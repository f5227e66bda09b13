-- What the standing of a submission implies.
use Rattle.std.proofs.Common.{refl, ◌≡◌, ℕ, ◌≤◌, Option, Some, None}
use Rattle.std.specs.Prelude.{IsTrue, option_map}
use Rattle.std.proofs.lemmas.Bool.{and_from, le-leb}
use Rattle.as4_effects.specs.declared.submission.Submission.{Submission}
use Rattle.exchange_model.specs.Questions.{is_pending, is_pending_mark, is_waiting, standing_of}
use Rattle.exchange_model.specs.Apply.{is_one}
use Rattle.as4_effects.specs.declared.mark.Mark.{Mark}
use Rattle.as4_effects.specs.declared.mark.Mark.TheVariants as mark
use Rattle.exchange_model.specs.declared.sent.Sent.{Sent}
use Rattle.exchange_model.specs.declared.sent.Standing.{Standing}
use Rattle.exchange_model.specs.declared.sent.Standing.TheVariants as standing

of_mark : (n tries : ℕ) (m : Mark) → ◌≡◌ {A = Option Standing} (Some (standing.Pending tries)) (Some (standing_of n m)) → IsTrue (is_pending_mark m) × (tries ≡ n)
unfolding standing_of
of_mark n tries mark.Pending is = (refl, cc)
of_mark n tries mark.Receipted is = cc
of_mark n tries mark.Failed is = cc
of_mark n tries (mark.Refused code) is = cc

pub is_one_pending : (found : Option Sent) (tries : ℕ) → Some (standing.Pending tries) ≡ option_map (λ (s : Sent). standing_of s.tries s.mark) found
    → IsTrue (is_one is_pending found)
is_one_pending None tries is = cc
is_one_pending (Some s) tries is = (of_mark s.tries tries s.mark is).0

pub is_one_waiting : (found : Option Sent) (tries : ℕ) (submission : Submission)
    → Some (standing.Pending tries) ≡ option_map (λ (s : Sent). standing_of s.tries s.mark) found
    → Some submission ≡ option_map (λ (s : Sent). s.submission) found
    → tries ≤ submission.retries → IsTrue (is_one is_waiting found)
is_one_waiting None tries submission is same few = cc
is_one_waiting (Some s) tries submission is same few =
    let pending = of_mark s.tries tries s.mark is in
    let one : submission ≡ s.submission = cc in
    let most : s.tries ≤ s.submission.retries = rw (← pending.1, ← one) few in
    and_from _ _ pending.0 (le-leb s.tries s.submission.retries most)
