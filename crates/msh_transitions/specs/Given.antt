-- The rows as the tables alone give them: the payloads of received messages are on the disk, so the reply to `Read` has
-- none. Every other row is the machine's.
use Rattle.std.specs.Prelude.{ℕ, List, []}
use Rattle.exchange_model.specs.End.{End}
use Rattle.exchange_model.specs.Table.{Rests, RowOf, read_reply}
use Rattle.exchange_model.specs.declared.event.Event.{Event}
use Rattle.exchange_model.specs.declared.outcome.Outcome.{Outcome}
use Rattle.exchange_model.specs.declared.reply.Reply.{Reply}
use Rattle.exchange_model.specs.declared.reply.Reply.TheVariants as reply
use Rattle.exchange_model.specs.declared.what.What.{What}
use Rattle.exchange_model.specs.declared.what.What.TheVariants as what
use Rattle.mode_values.specs.declared.mode.Mode.{Mode}

-- an entry without its payloads
unfoldable pub bare_reply : Reply → Reply
bare_reply (reply.Entry header payloads) = reply.Entry header []
bare_reply other = other

-- what `Read` gives
abbrev pub bare_read : End → ℕ → Reply
bare_read end n = bare_reply (read_reply end n)

abbrev pub GivesRow : List Mode → End → Event → What → Outcome → Type 0
GivesRow modes end event (what.Read n) outcome = Rests (bare_read end n) outcome
GivesRow modes end event asked outcome = RowOf modes end event asked outcome
