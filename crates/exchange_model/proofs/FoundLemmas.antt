-- A submission that a search at an endpoint finds is one of its submissions.
use Rattle.std.proofs.Common.{◌≡◌, ℕ, List, Bool, true, ◌&&◌, eqb, Some}
use Rattle.std.specs.List.{filter}
use Rattle.std.specs.Str.{bytes_eq}
use Rattle.std.proofs.lemmas.Bool.{and_parts, eqb-true}
use Rattle.std.proofs.lemmas.Slice.Eq.{bytes_eq-Decides}
use Rattle.as4_effects.specs.declared.queue.Queue.{Queue}
use Rattle.exchange_model.specs.End.{End}
use Rattle.exchange_model.specs.Questions.{due, is_ready, is_waiting, is_in, head_of, sent_at, sent_of}
use Rattle.exchange_model.specs.declared.sent.Sent.{Sent}
use Rattle.exchange_model.proofs.ListLemmas.{Has, has_filtered, has_found, first_least_has}

-- the submission found by a number has that number
pub sent_at_has : (number : ℕ) (sent : List Sent) (s : Sent) → sent_at number sent ≡ Some s
    → Has sent s × (s.submission.number ≡ number)
sent_at_has number sent s e =
    let h = has_found (λ (t : Sent). eqb t.submission.number number) sent s e in
    (h.0, eqb-true s.submission.number number h.1)

-- the submission found by an identifier has that identifier
pub sent_of_has : (id : List ℕ) (sent : List Sent) (s : Sent) → sent_of id sent ≡ Some s
    → Has sent s × (s.submission.header.id ≡ id)
sent_of_has id sent s e =
    let h = has_found (λ (t : Sent). bytes_eq t.submission.header.id id) sent s e in
    (h.0, (bytes_eq-Decides s.submission.header.id id).0 h.1)

-- the head of a queue is a waiting submission
pub head_has : (q : Queue) (end : End) (s : Sent) → head_of q end ≡ Some s → Has end.sent s × (is_waiting s ≡ true)
unfolding head_of
head_has q end s e =
    let ready : Sent → Bool = λ t. is_ready end.moment t && is_in q t in
    let h = has_filtered ready end.sent s (first_least_has due (filter ready end.sent) s e) in
    (h.0, (and_parts _ _ (and_parts _ _ h.1).0).0)
