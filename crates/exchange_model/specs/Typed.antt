-- Facts that the types of an event keep and that its value doesn't show.
use Rattle.std.specs.Prelude.{◌^◌, ◌<◌, ◌≤◌, IfSome, length}
use Rattle.exchange_model.specs.declared.event.Event.{Event}
use Rattle.exchange_model.specs.declared.what.What.{What}
use Rattle.exchange_model.specs.declared.what.What.TheVariants.{Submit}

-- a conversation is a text, which has a limit
abbrev pub HasTexts : What → Type 0
HasTexts (Submit mode conversation loads) = IfSome conversation (λ text. length text ≤ 65536)
HasTexts other = Unit {0}

-- a nonce has 128 bits
pub record IsTyped (event : Event) : Type 0 where
  pub nonce : event.nonce < 2 ^ 128
  pub texts : HasTexts event.what
