-- The check line, which says what a message is: this program's own form.
use Rattle.std.specs.Result.{is_err}
use Rattle.std.specs.Prelude.{◌≡◌, ℕ, List, [], ◌++◌, Bool, Option, Some, None, Result, Ok, Err, codes, decimal, length, unwrap_or}
use Rattle.as4_codes.specs.ErrorCodes.{code_text}
use Rattle.as4_values.specs.declared.signal.Signal.{Signal}
use Rattle.as4_values.specs.declared.signal_body.SignalBody.{SignalBody}
use Rattle.as4_values.specs.declared.signal_body.SignalBody.TheVariants.{Pull, Receipt, Errors}
use Rattle.as4_message.specs.Meaning.{ReceivedValue, user, signal, pair}
use Rattle.as4_message.specs.declared.received.Refusal.{Refusal}

-- the message that a receipt acknowledges
abbrev pub reference : Signal → List ℕ
reference s = unwrap_or s.ref_to []

-- the channel that a pull request asks for
abbrev pub channel : SignalBody → List ℕ
channel (Pull mpc) = mpc
channel (Receipt copy) = []
channel (Errors items) = []

abbrev pub signal_words : Signal → SignalBody → List ℕ
signal_words s (Pull mpc) = codes "pull " ++ mpc
signal_words s (Receipt copy) = codes "receipt " ++ reference s
signal_words s (Errors items) = codes "errors " ++ decimal (length items)

abbrev pub received_words : ReceivedValue → List ℕ
received_words (user header parts) = codes "user " ++ header.id
received_words (signal s) = signal_words s s.body
received_words (pair p) = codes "pair " ++ reference p.receipt ++ codes " " ++ channel p.pull.body

-- the message that a refusal is about, where it is known
abbrev pub about_words : Option (List ℕ) → List ℕ
about_words None = []
about_words (Some id) = codes " " ++ id

abbrev pub refusal_words : Refusal → List ℕ
refusal_words refusal = codes "refused " ++ code_text refusal.code ++ about_words refusal.about

abbrev pub line_of : Result ReceivedValue Refusal → List ℕ
line_of (Ok received) = received_words received ++ codes "\n"
line_of (Err refusal) = refusal_words refusal ++ codes "\n"

-- the check line of a media text and a body with this meaning, and whether they are refused
abbrev pub IsLine : (Result ReceivedValue Refusal → Type 0) → List ℕ → Bool → Type 0
IsLine means line refused = (meant : Result ReceivedValue Refusal) × means meant × (line ≡ line_of meant) × (refused ≡ is_err meant)
