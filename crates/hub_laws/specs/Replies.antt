-- The replies of the two steps of a relaying.
use Rattle.std.specs.Prelude.{◌≡◌, List, []}
use Rattle.as4_effects.specs.declared.effect.Effect.{Effect}
use Rattle.exchange_model.specs.declared.reply.Reply.{Reply}
use Rattle.exchange_model.specs.declared.reply.Reply.TheVariants as reply

-- a reply to a `Read`
abbrev pub IsFirst : Reply → Type 0
IsFirst (reply.Entry header payloads) = Unit {0}
IsFirst reply.NoEntry = Unit {0}
IsFirst reply.Gone = Unit {0}
IsFirst other = ⊥

-- a reply to a `Submit`
abbrev pub IsSecond : Reply → Type 0
IsSecond (reply.Submitted number id) = Unit {0}
IsSecond reply.NoMode = Unit {0}
IsSecond reply.OutboxFull = Unit {0}
IsSecond reply.TooLarge = Unit {0}
IsSecond (reply.Full size need) = Unit {0}
IsSecond other = ⊥

-- nothing changes, unless a message is submitted
abbrev pub RestsUnless : Reply → List Effect → Type 0
RestsUnless (reply.Submitted number id) effects = Unit {0}
RestsUnless other effects = effects ≡ []
