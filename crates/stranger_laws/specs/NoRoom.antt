-- Why an endpoint says that its journal is full: this handler's own limit.
use Rattle.std.specs.Prelude.{◌≡◌, ◌≢◌, ℕ, ◌+◌, ◌<◌, ◌≤◌, List, []}
use Rattle.std.specs.List.{Contains}
use Rattle.as4_values.specs.Word.{IsWord}
use Rattle.as4_values.specs.declared.message.Message.TheVariants as message
use Rattle.as4_values.specs.declared.signal_body.ErrorItem.{ErrorItem}
use Rattle.as4_values.specs.declared.signal_body.SignalBody.{SignalBody}
use Rattle.as4_values.specs.declared.signal_body.SignalBody.TheVariants as body
use Rattle.as4_values.specs.declared.word.Word.TheVariants.{ErrorCode}
use Rattle.mode_values.specs.declared.mode.Mode.{Mode}
use Rattle.exchange_model.specs.Apply.{record_len}
use Rattle.exchange_model.specs.End.{End, empty_end}
use Rattle.exchange_model.specs.Fold.{resized}
use Rattle.exchange_model.specs.LosslessRound.{IsFull}
use Rattle.exchange_model.specs.Room.{HasRoomForOne}
use Rattle.exchange_model.specs.Table.{Step, journal_limit}
use Rattle.exchange_model.specs.declared.event.Event.{Event}
use Rattle.exchange_model.specs.declared.outcome.Outcome.{Outcome}
use Rattle.exchange_model.specs.declared.what.What.{What}
use Rattle.exchange_model.specs.declared.what.What.TheVariants.{Came}

-- the codes of an error signal are error codes: their type guarantees it, and the value of an event doesn't show it
abbrev pub AreCodes : SignalBody → Type 0
AreCodes (body.Errors items) = (item : ErrorItem) → Contains items item → IsWord ErrorCode item.code
AreCodes other = Unit {0}

abbrev pub HasCodes : What → Type 0
HasCodes (Came (message.Signal signal)) = AreCodes signal.body
HasCodes other = Unit {0}

-- an outcome whose reply says that the journal has `reported` bytes and no room for `need` more
pub record IsOutOfRoom (end : End) (w : What) (outcome : Outcome) (reported need : ℕ) : Type 0 where
  pub size : reported ≡ end.size
  pub past : journal_limit < end.size + need
  pub unchanged : outcome.effects ≡ []
  -- there isn't room for any effect, whatever `need` is
  pub no_room : HasCodes w → ¬ HasRoomForOne end

-- The same endpoint takes the event with a journal of any size that has room for `need` more bytes, an empty one among
-- them, and always in the same way: it doesn't say "full", and it has effects, whose record takes `need` bytes.
pub record NeedsRecord (modes : List Mode) (end : End) (event : Event) (need : ℕ) : Type 0 where
  pub outcome : Outcome
  pub steps : (size : ℕ) → size + need ≤ journal_limit → Step modes (resized size end) event outcome
  pub empty : empty_end.size + need ≤ journal_limit
  pub taken : ¬ IsFull outcome.reply
  pub some : outcome.effects ≢ []
  pub len : record_len outcome.effects ≡ need
