-- The receipts that a reply sends (ebMS 3.0 Core, section 5.2.3.3; AS4 Profile, section 5.1.8).
use Rattle.std.specs.Prelude.{◌≡◌, ℕ, List, Option, Some, true}
use Rattle.std.specs.List.{Contains}
use Rattle.as4_values.specs.declared.header.UserHeader.{UserHeader}
use Rattle.as4_values.specs.declared.message.Message.{Message}
use Rattle.as4_values.specs.declared.message.Message.TheVariants as message
use Rattle.as4_values.specs.declared.signal.Signal.{Signal}
use Rattle.as4_values.specs.declared.signal_body.SignalBody.TheVariants as body
use Rattle.exchange_model.specs.End.{End}
use Rattle.exchange_model.specs.Questions.{is_known}
use Rattle.exchange_model.specs.World.{sends}
use Rattle.exchange_model.specs.declared.reply.Reply.{Reply}

-- the message is this signal, or a pair with this signal before its pull request
abbrev pub Carries : Message → Signal → Type 0
Carries (message.User header payloads) signal = ⊥
Carries (message.Signal alone) signal = alone ≡ signal
Carries (message.Pair pair) signal = pair.receipt ≡ signal

-- the reply sends the receipt, alone or in a pair
pub record SendsReceipt (r : Reply) (receipt : Signal) : Type 0 where
  pub carrier : Message
  pub sent : Contains (sends r) carrier
  pub carries : Carries carrier receipt
  pub copy : Option UserHeader
  pub is_receipt : receipt.body ≡ body.Receipt copy

-- the receipt refers to a message that the endpoint received
abbrev pub NamesKnown : Signal → End → Type 0
NamesKnown receipt end = (id : List ℕ) × (receipt.ref_to ≡ Some id) × (is_known id end.inbox ≡ true)
