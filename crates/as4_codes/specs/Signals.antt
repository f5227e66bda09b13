-- The signals that an endpoint makes: receipts, error signals and pull requests (ebMS 3.0 Core, section 5.2.3; AS4
-- Profile, section 5.1.8).
use Rattle.std.specs.Prelude.{◌≡◌, ℕ, ◌+◌, ◌%◌, ◌^◌, List, [], ◌∷◌, Option, Some, None, option_map}
use Rattle.as4_values.specs.Moment.{IsStampOf}
use Rattle.as4_values.specs.Identifiers.{signal_id}
use Rattle.as4_values.specs.declared.header.UserHeader.{UserHeader}
use Rattle.as4_values.specs.declared.message.Pair.{Pair}
use Rattle.as4_values.specs.declared.signal.Signal.{Signal}
use Rattle.as4_values.specs.declared.signal_body.SignalBody.TheVariants as body
use Rattle.as4_codes.specs.ErrorCodes.{error_row, error_item}

-- the receipt of a user message, made at the moment `ms` with this nonce: it refers to the message and holds
-- a copy of its header
pub record IsReceiptOf (header : UserHeader) (ms nonce : ℕ) (signal : Signal) : Type 0 where
  pub stamped : IsStampOf ms signal.stamp
  pub named : signal.id ≡ signal_id nonce
  pub refers : signal.ref_to ≡ Some header.id
  pub copies : signal.body ≡ body.Receipt (Some header)

-- the error signal with the error of this code, made at the moment `ms` with this nonce: it refers to the message that
-- the error is about, where that message is known (ebMS 3.0 Core, section 6.2)
pub record IsErrorSignalOf (code : ℕ) (about : Option (List ℕ)) (ms nonce : ℕ) (signal : Signal) : Type 0 where
  pub stamped : IsStampOf ms signal.stamp
  pub named : signal.id ≡ signal_id nonce
  pub refers : signal.ref_to ≡ about
  pub tells : option_map (λ row. body.Errors (error_item row about ∷ [])) (error_row code) ≡ Some signal.body

-- the pull request for a channel, made at the moment `ms` with this nonce (ebMS 3.0 Core, section 5.2.3.1)
pub record IsPullOf (mpc : List ℕ) (ms nonce : ℕ) (signal : Signal) : Type 0 where
  pub stamped : IsStampOf ms signal.stamp
  pub named : signal.id ≡ signal_id nonce
  pub refers : signal.ref_to ≡ None
  pub asks : signal.body ≡ body.Pull mpc

-- the nonce after a nonce; both have 128 bits
abbrev pub next_nonce : ℕ → ℕ
next_nonce nonce = (nonce + 1) % 2 ^ 128

-- the receipt of a user message, bundled with the next pull request for a channel: the nonce makes the identifier of
-- the pull request, and the next nonce that of the receipt
pub record IsPairOf (header : UserHeader) (mpc : List ℕ) (ms nonce : ℕ) (pair : Pair) : Type 0 where
  pub receipt : IsReceiptOf header ms (next_nonce nonce) pair.receipt
  pub pull : IsPullOf mpc ms nonce pair.pull
