-- How often an endpoint sent a submission: counted in its replies, lost or not.
use Rattle.std.specs.Prelude.{ℕ, List, Bool, false}
use Rattle.std.specs.List.{count_by, list_any}
use Rattle.std.specs.Str.{bytes_eq}
use Rattle.as4_values.specs.declared.message.Message.{Message}
use Rattle.as4_values.specs.declared.message.Message.TheVariants as message
use Rattle.exchange_model.specs.World.{Act, sends}

-- the user message of this identifier
abbrev pub is_user_message : List ℕ → Message → Bool
is_user_message id (message.User header payloads) = bytes_eq header.id id
is_user_message id (message.Signal signal) = false
is_user_message id (message.Pair pair) = false

-- the reply of the act sends it
unfoldable pub hands_out : List ℕ → Act → Bool
hands_out id act = list_any (is_user_message id) (sends act.outcome.reply)

-- the number of acts that send it
unfoldable pub times_handed_out : List ℕ → List Act → ℕ
times_handed_out id acts = count_by (hands_out id) acts
