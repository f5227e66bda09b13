-- How effects change an endpoint, and which effects fit it: this handler's own.
use Rattle.std.specs.Prelude.{ℕ, suc, ◌+◌, List, [], ◌∷◌, ◌++◌, Bool, true, false, not, ◌&&◌, ◌||◌, ◌==◌, nat_lt, nat_le, if◌then◌else◌, Option, Some, None, option_map, length, map, take, drop}
use Rattle.as4_effects.specs.Effects.{effects_body}
use Rattle.as4_effects.specs.declared.carried.Carried.{Carried}
use Rattle.as4_effects.specs.declared.effect.Effect.{Effect}
use Rattle.as4_effects.specs.declared.effect.Effect.TheVariants as effect
use Rattle.as4_effects.specs.declared.submission.Submission.{Submission}
use Rattle.exchange_model.specs.End.{End}
use Rattle.exchange_model.specs.Questions.{is_failed_mark, is_pending, is_waiting, is_spent, is_known, sent_at, sent_of}
use Rattle.exchange_model.specs.declared.inbox_entry.InboxEntry.{InboxEntry}
use Rattle.as4_effects.specs.declared.mark.Mark.{Mark}
use Rattle.as4_effects.specs.declared.mark.Mark.TheVariants as mark
use Rattle.exchange_model.specs.declared.sent.Sent.{Sent}

-- a submission that wasn't sent yet
abbrev pub unsent : Submission → Sent
unsent submission = record { submission = submission; tries = 0; last = 0; mark = mark.Pending }

-- a submission as it was carried over
abbrev pub as_carried : Carried → Sent
as_carried c = record { submission = c.submission; tries = c.tries; last = c.last; mark = c.standing }

-- sent once more, at this moment
abbrev pub tried : ℕ → Sent → Sent
tried moment s = record s { tries = s.tries + 1; last = moment }

-- with this state
abbrev pub marked : Mark → Sent → Sent
marked m s = record s { mark = m }

-- expired, where it is spent at this moment
abbrev pub failed_if_spent : ℕ → Sent → Sent
failed_if_spent moment s = if is_spent moment s then marked mark.Failed s else s

-- changes the submission of this number, and no other
unfoldable pub changed : ℕ → (Sent → Sent) → List Sent → List Sent
changed number change sent = map (λ s. if s.submission.number == number then change s else s) sent

-- the first `count` entries without their payloads, the others unchanged
unfoldable pub emptied : ℕ → List InboxEntry → List InboxEntry
emptied count inbox =
    map (λ (entry : InboxEntry). record entry { payloads = [] }) (take count inbox) ++ drop count inbox

-- the endpoint after one effect
unfoldable pub after : Effect → End → End
after (effect.Submitted submission) end = record end { sent = end.sent ++ unsent submission ∷ [] }
after (effect.Ticked tick) end =
    record end { sent = map (failed_if_spent tick.moment) end.sent; moment = tick.moment }
after (effect.Tried number) end = record end { sent = changed number (tried end.moment) end.sent }
after (effect.Delivered delivery) end =
    record end { inbox = end.inbox ++ record { header = delivery.header; payloads = delivery.payloads } ∷ [] }
after (effect.Receipted number) end = record end { sent = changed number (marked mark.Receipted) end.sent }
after (effect.Refused number code) end = record end { sent = changed number (marked (mark.Refused code)) end.sent }
after (effect.Confirmed upto) end =
    record end { inbox = emptied (upto + 1) end.inbox; confirmed = upto + 1 }
after (effect.Carried carried) end = record end { sent = end.sent ++ as_carried carried ∷ [] }
after (effect.Kept kept) end =
    record end { inbox = end.inbox ++ record { header = kept.header; payloads = [] } ∷ []; confirmed = end.confirmed + 1 }

abbrev pub after_all : List Effect → End → End
after_all [] end = end
after_all (e ∷ effects) end = after_all effects (after e end)

-- the number of bytes of these effects' record: its gate (the commit byte), the eight bytes of its length, and its body
unfoldable pub record_len : List Effect → ℕ
record_len effects = length (effects_body effects) + 9

-- the endpoint after the record of these effects; without effects there is no record
unfoldable pub applied : List Effect → End → End
applied [] end = end
applied (e ∷ effects) end =
    let new = after_all (e ∷ effects) end in record new { size = new.size + record_len (e ∷ effects) }

-- there is such a submission, and it passes the test
abbrev pub is_one : (Sent → Bool) → Option Sent → Bool
is_one test None = false
is_one test (Some s) = test s

-- the next submission, with an identifier of its own
abbrev pub is_next : Submission → End → Bool
is_next submission end =
    (submission.number == length end.sent) && not (is_one (λ s. true) (sent_of submission.header.id end.sent))

-- the number of tries and the time of the last one agree, and an expired submission was sent as often as its mode says
abbrev pub are_tries : Sent → Bool
are_tries s =
    nat_le s.tries (s.submission.retries + 1)
    && ((not (is_failed_mark s.mark) || (s.tries == s.submission.retries + 1)) && (not (s.tries == 0) || (s.last == 0)))

-- an effect that fits the endpoint
unfoldable pub is_fit : Effect → End → Bool
is_fit (effect.Submitted submission) end = is_next submission end
is_fit (effect.Ticked tick) end = nat_lt end.moment tick.moment
is_fit (effect.Tried number) end = is_one is_waiting (sent_at number end.sent)
is_fit (effect.Delivered delivery) end = not (is_known delivery.header.id end.inbox)
is_fit (effect.Receipted number) end = is_one is_pending (sent_at number end.sent)
is_fit (effect.Refused number code) end = is_one is_pending (sent_at number end.sent)
is_fit (effect.Confirmed upto) end = nat_le end.confirmed upto && nat_lt upto (length end.inbox)
is_fit (effect.Carried carried) end =
    (end.moment == 0) && (is_next carried.submission end && are_tries (as_carried carried))
is_fit (effect.Kept kept) end = not (is_known kept.header.id end.inbox) && (end.confirmed == length end.inbox)

-- the place of the first effect that doesn't fit after those before it were applied
abbrev pub first_unfit : List Effect → End → Option ℕ
first_unfit [] end = None
first_unfit (e ∷ effects) end =
    if is_fit e end then option_map suc (first_unfit effects (after e end)) else Some 0
