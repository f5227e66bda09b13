-- The head of a queue is a waiting submission.
use Rattle.std.proofs.Common.{◌≡◌, ℕ, true, Option, Some, None, option_map, refl, ap, ◌∙◌}
use Rattle.as4_effects.specs.declared.effect.Effect.TheVariants as effect
use Rattle.as4_effects.specs.declared.queue.Queue.{Queue}
use Rattle.exchange_model.specs.Apply.{is_fit, is_one}
use Rattle.exchange_model.specs.End.{End}
use Rattle.exchange_model.specs.Questions.{head_of, is_waiting, sent_at}
use Rattle.exchange_model.specs.declared.sent.Sent.{Sent}
use Rattle.exchange_model.proofs.FoundLemmas.{head_has}

one_waits : (number : ℕ) (o : Option Sent) → Some number ≡ option_map (λ (s : Sent). s.submission.number) o
    → ((s : Sent) → o ≡ Some s → is_waiting s ≡ true) → is_one is_waiting o ≡ true
one_waits number None e waits = cc
one_waits number (Some s) e waits = waits s refl

-- the head may be sent once more
pub head_fits : (q : Queue) (end : End) (number : ℕ) → Some number ≡ option_map (λ (s : Sent). s.submission.number) (head_of q end)
    → sent_at number end.sent ≡ head_of q end → is_fit (effect.Tried number) end ≡ true
unfolding is_fit
head_fits q end number value found =
    ap (is_one is_waiting) found ∙ one_waits number (head_of q end) value (λ s is. (head_has q end s is).1)
