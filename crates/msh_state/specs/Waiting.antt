-- Which submissions wait to be sent (ebMS 3.0 Core, section 3.4, on message partition channels; AS4 Profile,
-- section 3.2, on reception awareness).
use Rattle.std.specs.Prelude.{List, map}
use Rattle.std.specs.List.{filter}
use Rattle.channels.specs.declared.waiting.Waiting.{Waiting}
use Rattle.exchange_model.specs.Questions.{due, is_waiting, queue_of}
use Rattle.exchange_model.specs.declared.sent.Sent.{Sent}

-- the queue of a waiting submission, when it is due, and its number
abbrev pub waiting_of : Sent → Waiting
waiting_of s = record { queue = queue_of s.submission.route; due = due s; number = s.submission.number }

-- the waiting ones of the submissions
unfoldable pub waiting_in : List Sent → List Waiting
waiting_in sent = map waiting_of (filter is_waiting sent)
