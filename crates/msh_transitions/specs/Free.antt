-- Outcomes that need no memory: nothing changes, and the reply has no text and no message.
use Rattle.std.specs.Prelude.{◌≡◌, []}
use Rattle.exchange_model.specs.declared.outcome.Outcome.{Outcome}
use Rattle.exchange_model.specs.declared.reply.Reply.{Reply}
use Rattle.exchange_model.specs.declared.reply.Reply.TheVariants as reply

-- the reply is a refusal, a state or a number; not `Quiet`, `Confirmed`, `Full` or `Stopped`
abbrev pub IsBare : Reply → Type 0
IsBare reply.NoMode = Unit {0}
IsBare reply.OutboxFull = Unit {0}
IsBare reply.TooLarge = Unit {0}
IsBare (reply.Ticked failed) = Unit {0}
IsBare reply.Nothing = Unit {0}
IsBare reply.NoEntry = Unit {0}
IsBare reply.Gone = Unit {0}
IsBare (reply.Pending tries) = Unit {0}
IsBare reply.Receipted = Unit {0}
IsBare reply.Failed = Unit {0}
IsBare reply.Unknown = Unit {0}
IsBare other = ⊥

pub record IsFree (outcome : Outcome) : Type 0 where
  pub rests : outcome.effects ≡ []
  pub bare : IsBare outcome.reply
