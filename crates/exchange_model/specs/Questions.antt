-- Queries on an endpoint (AS4 Profile, section 3.2, on retries and duplicates; ebMS 3.0 Core, section 3.4, on
-- channels).
use Rattle.std.specs.Prelude.{ℕ, ◌+◌, List, Bool, true, false, ◌&&◌, ◌==◌, nat_le, if◌then◌else◌, Option}
use Rattle.std.specs.List.{filter, find, list_any}
use Rattle.std.specs.Str.{bytes_eq}
use Rattle.as4_effects.specs.declared.queue.Queue.{Queue}
use Rattle.as4_effects.specs.declared.queue.Queue.TheVariants as queue
use Rattle.as4_values.specs.declared.route.Route.{Route}
use Rattle.as4_values.specs.declared.route.Route.TheVariants as route
use Rattle.exchange_model.specs.End.{End}
use Rattle.exchange_model.specs.Least.{first_least}
use Rattle.exchange_model.specs.declared.inbox_entry.InboxEntry.{InboxEntry}
use Rattle.as4_effects.specs.declared.mark.Mark.{Mark}
use Rattle.as4_effects.specs.declared.mark.Mark.TheVariants as mark
use Rattle.exchange_model.specs.declared.sent.Sent.{Sent}
use Rattle.exchange_model.specs.declared.sent.Standing.{Standing}
use Rattle.exchange_model.specs.declared.sent.Standing.TheVariants as standing

abbrev pub is_pending_mark : Mark → Bool
is_pending_mark mark.Pending = true
is_pending_mark other = false

-- how a submission was settled
abbrev pub is_receipted_mark : Mark → Bool
is_receipted_mark mark.Receipted = true
is_receipted_mark other = false

abbrev pub is_failed_mark : Mark → Bool
is_failed_mark mark.Failed = true
is_failed_mark other = false

abbrev pub is_refused_mark : Mark → Bool
is_refused_mark (mark.Refused code) = true
is_refused_mark other = false

-- neither receipted, expired nor refused
abbrev pub is_pending : Sent → Bool
is_pending s = is_pending_mark s.mark

-- when it is to be sent or expires: when it was submitted, or a period after it was last sent
abbrev pub due : Sent → ℕ
due s = if s.tries == 0 then s.submission.moment else s.last + s.submission.period

-- it may still be sent: it is pending, and was sent at most as often as its retries
abbrev pub is_waiting : Sent → Bool
is_waiting s = is_pending s && nat_le s.tries s.submission.retries

-- it may be sent now
abbrev pub is_ready : ℕ → Sent → Bool
is_ready moment s = is_waiting s && nat_le (due s) moment

-- it was sent for the last time, and its receipt is overdue
abbrev pub is_spent : ℕ → Sent → Bool
is_spent moment s = is_pending s && ((s.tries == s.submission.retries + 1) && nat_le (due s) moment)

-- the queue in which submissions of this route wait
abbrev pub queue_of : Route → Queue
queue_of (route.Push address) = queue.Push
queue_of (route.Pull mpc address) = queue.Channel mpc

unfoldable pub is_same_queue : Queue → Queue → Bool
is_same_queue queue.Push queue.Push = true
is_same_queue (queue.Channel a) (queue.Channel b) = bytes_eq a b
is_same_queue a b = false

abbrev pub is_in : Queue → Sent → Bool
is_in q s = is_same_queue (queue_of s.submission.route) q

-- the head of a queue: of the submissions that may be sent now, the one that is due first; of several due at once, the
-- one with the least number
unfoldable pub head_of : Queue → End → Option Sent
head_of q end = first_least due (filter (λ s. is_ready end.moment s && is_in q s) end.sent)

-- the submission of this number, and that of this identifier
abbrev pub sent_at : ℕ → List Sent → Option Sent
sent_at number sent = find (λ s. s.submission.number == number) sent

abbrev pub sent_of : List ℕ → List Sent → Option Sent
sent_of id sent = find (λ s. bytes_eq s.submission.header.id id) sent

-- a message of this identifier was received
unfoldable pub is_known : List ℕ → List InboxEntry → Bool
is_known id inbox = list_any (λ entry. bytes_eq entry.header.id id) inbox

-- the state of a submission
unfoldable pub standing_of : ℕ → Mark → Standing
standing_of tries mark.Pending = standing.Pending tries
standing_of tries mark.Receipted = standing.Receipted
standing_of tries mark.Failed = standing.Failed
standing_of tries (mark.Refused code) = standing.Refused
