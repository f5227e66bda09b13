-- What a drill writes, in this program's own format: one line for each line of the script other than `mode`, and two
-- lines at the end.
use Rattle.std.specs.Prelude.{ℕ, List, [], ◌∷◌, ◌++◌, Bool, if◌then◌else◌, Option, Some, None, length, codes}
use Rattle.std.specs.Fmt.{decimal}
use Rattle.std.specs.List.{count_by, sum_by}
use Rattle.as4_values.specs.declared.header.UserHeader.{UserHeader}
use Rattle.as4_values.specs.declared.message.Message.{Message}
use Rattle.as4_values.specs.declared.message.Message.TheVariants as message
use Rattle.as4_values.specs.declared.payload.Payload.{Payload}
use Rattle.as4_values.specs.declared.signal_body.ErrorItem.{ErrorItem}
use Rattle.as4_values.specs.declared.signal_body.SignalBody.{SignalBody}
use Rattle.as4_values.specs.declared.signal_body.SignalBody.TheVariants as body
use Rattle.drill_script.specs.LineText.{end_text}
use Rattle.drill_script.specs.declared.line.EndName.{EndName}
use Rattle.exchange_model.specs.Questions.{is_failed_mark, is_receipted_mark, is_refused_mark}
use Rattle.exchange_model.specs.End.{End}
use Rattle.exchange_model.specs.declared.reply.Reply.{Reply}
use Rattle.exchange_model.specs.declared.reply.Reply.TheVariants as reply
use Rattle.as4_effects.specs.declared.mark.Mark.{Mark}
use Rattle.exchange_model.specs.declared.sent.Sent.{Sent}

-- a line about an endpoint
abbrev pub said_line : EndName → List ℕ → List ℕ
said_line end text = end_text end ++ codes " " ++ text ++ 10 ∷ []

abbrev pub reference_text : Option (List ℕ) → List ℕ
reference_text None = []
reference_text (Some id) = id

abbrev pub first_code : List ErrorItem → List ℕ
first_code [] = []
first_code (item ∷ items) = item.code

abbrev pub signal_summary : Option (List ℕ) → SignalBody → List ℕ
signal_summary ref_to (body.Pull mpc) = codes "pull " ++ mpc
signal_summary ref_to (body.Receipt copy) = codes "receipt " ++ reference_text ref_to
signal_summary ref_to (body.Errors items) = codes "error " ++ first_code items

-- the channel of a pull request
abbrev pub channel_text : SignalBody → List ℕ
channel_text (body.Pull mpc) = mpc
channel_text other = []

-- a receipt and a pull request, by the reference of the receipt and the channel of the pull request
abbrev pub pair_summary : Option (List ℕ) → SignalBody → List ℕ
pair_summary ref_to pull = codes "pair " ++ reference_text ref_to ++ codes " " ++ channel_text pull

-- the summary of a message
abbrev pub summary : Message → List ℕ
summary (message.User header payloads) = codes "user " ++ header.id
summary (message.Signal signal) = signal_summary signal.ref_to signal.body
summary (message.Pair pair) = pair_summary pair.receipt.ref_to pair.pull.body

-- a message that an endpoint sent as its package of this number, or that was lost
abbrev pub message_text : Bool → ℕ → Message → List ℕ
message_text lost place m =
    (if lost then codes "lost " else codes "sent " ++ decimal place ++ codes " ") ++ summary m

abbrev pub entry_text : ℕ → UserHeader → List Payload → List ℕ
entry_text n header payloads =
    codes "entry " ++ decimal n ++ codes " " ++ header.id ++ codes " " ++ decimal (length payloads) ++ codes " "
    ++ decimal (sum_by (λ (payload : Payload). length payload.content) payloads)

abbrev pub status_text : ℕ → List ℕ → List ℕ
status_text n text = codes "status " ++ decimal n ++ codes " " ++ text

-- the text of the reply to a line that names the number `n`, at an endpoint that has sent `packages` packages
unfoldable pub reply_text : ℕ → Bool → ℕ → Reply → List ℕ
reply_text n lost packages (reply.Submitted number id) = codes "submitted " ++ decimal number ++ codes " " ++ id
reply_text n lost packages reply.NoMode = codes "no-mode"
reply_text n lost packages reply.OutboxFull = codes "outbox-full"
reply_text n lost packages reply.TooLarge = codes "too-large"
reply_text n lost packages (reply.Ticked failed) = codes "ticked " ++ decimal failed
reply_text n lost packages (reply.Push address m) = message_text lost packages m
reply_text n lost packages reply.Nothing = codes "nothing"
reply_text n lost packages (reply.Request address m) = message_text lost packages m
reply_text n lost packages (reply.Answer m) = message_text lost packages m
reply_text n lost packages reply.Quiet = codes "quiet"
reply_text n lost packages (reply.Entry header payloads) = entry_text n header payloads
reply_text n lost packages reply.NoEntry = codes "no-entry"
reply_text n lost packages reply.Gone = codes "gone"
reply_text n lost packages (reply.Confirmed upto) = codes "confirmed " ++ decimal upto
reply_text n lost packages (reply.Pending tries) = status_text n (codes "pending " ++ decimal tries)
reply_text n lost packages reply.Receipted = status_text n (codes "receipted")
reply_text n lost packages reply.Failed = status_text n (codes "failed EBMS:0301")
reply_text n lost packages (reply.RefusedWith code) = status_text n (codes "refused " ++ code)
reply_text n lost packages reply.Unknown = status_text n (codes "unknown")
reply_text n lost packages (reply.Full size need) = codes "full"
reply_text n lost packages (reply.Stopped before after) = codes "stopped"

-- the number of submissions with such a mark
abbrev pub marked_count : (Mark → Bool) → End → List ℕ
marked_count is end = codes " " ++ decimal (count_by (λ (s : Sent). is s.mark) end.sent)

-- the numbers of submissions, of receipted, failed and refused ones, and of messages in the inbox
unfoldable pub end_line : EndName → End → List ℕ
end_line name end =
    said_line name (codes "end " ++ decimal (length end.sent) ++ marked_count is_receipted_mark end
    ++ marked_count is_failed_mark end ++ marked_count is_refused_mark end ++ codes " " ++ decimal (length end.inbox))
