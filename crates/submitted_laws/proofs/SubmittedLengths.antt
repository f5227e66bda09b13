-- The user message of a submission and the signals about it are short enough.
use Rattle.std.proofs.Common.{◌≡◌, ℕ, ◌+◌, ◌^◌, ◌<◌, ◌≤◌, List, [], ◌++◌, length, length-append, arith}
use Rattle.std.specs.Prelude.{Some, codes}
use Rattle.as4_codes.specs.Signals.{IsReceiptOf, IsPullOf, next_nonce}
use Rattle.as4_effects.specs.declared.submission.Submission.{Submission}
use Rattle.as4_envelope.specs.Markup.{attribute}
use Rattle.as4_message.specs.Meaning.{ArePaired}
use Rattle.as4_values.proofs.IdentifierLemmas.{length-uuid_text}
use Rattle.as4_values.specs.Identifiers.{signal_id, submission_id}
use Rattle.as4_values.specs.Moment.{IsStampOf}
use Rattle.as4_values.specs.declared.header.UserHeader.{UserHeader}
use Rattle.as4_values.specs.declared.message.Message.{Message}
use Rattle.as4_values.specs.declared.signal.Signal.{Signal}
use Rattle.exchange_model.specs.Submitting.{channel_of}
use Rattle.exchange_model.specs.Table.{message_of}
use Rattle.message_laws.specs.Readable.{IsShort}
use Rattle.message_model.specs.UnitText.{message_info, user_message, body_text, pull_text, receipt_text, signal_message, pair_text, envelope_start, envelope_end, envelope_text}
use Rattle.mode_values.specs.declared.mode.Mode.{Mode}
use Rattle.submissions.proofs.NameLemmas.{submission_id_is_stem}
use Rattle.submitted_laws.proofs.ErrorLengths.{errors_within}
use Rattle.submitted_laws.proofs.HeaderLengths.{info_within, user_message_within}
use Rattle.submitted_laws.proofs.MarkupLengths.{IsWithin, length-element, attribute_within}
use Rattle.submitted_laws.proofs.ModeLengths.{channel_within}
use Rattle.submitted_laws.specs.Submitted.{IsShortlySubmitted, IsReceiptFor, IsErrorSignalFor, IsPullRequest, IsPairFor}

pub length-envelope : (unit : List ℕ) → length (envelope_text unit) ≡ length unit + 240
unfolding envelope_start envelope_end
length-envelope unit = simp length-append (omega arith)

signal_id_within : (nonce : ℕ) → length (signal_id nonce) ≤ 61
signal_id_within nonce = simp length-append (omega (arith, length-uuid_text nonce))

-- the identifier and the user message of a submission
id_within : (s : Submission) → IsShortlySubmitted s → length s.header.id ≤ 61
id_within s is =
    let below : is.number < 2 ^ 64 = omega (arith, is.made.numbered, s.numbered) in
    rw is.made.headed.named ((submission_id_is_stem is.number is.nonce below).limited)

header_within : (s : Submission) → IsShortlySubmitted s → length (user_message s.header) ≤ 228604
header_within s is =
    let named : length (submission_id is.number is.nonce) ≤ 61 = rw is.made.headed.named at (id_within s is) in
    user_message_within is.mode (submission_id is.number is.nonce) is.ms is.conversation (length is.loads) s.header is.made.headed named is.talks

pub submission_is_short : (s : Submission) → IsShortlySubmitted s → IsShort (message_of s)
submission_is_short s is = omega (arith, length-envelope (user_message s.header), header_within s is)

pub submission_is_paired : (s : Submission) → ArePaired (message_of s)
submission_is_paired s = s.paired

-- a signal of this handler, with a reference of at most 61 bytes
signal_within : (ms nonce : ℕ) (signal : Signal) (most : ℕ) → IsStampOf ms signal.stamp → signal.id ≡ signal_id nonce → IsWithin 61 signal.ref_to
    → length (body_text signal.body) ≤ most → length (signal_message signal) ≤ most + 1043
unfolding signal_message
signal_within ms nonce signal most stamped named refers within =
    let id : length signal.id ≤ 61 = rw named (signal_id_within nonce) in
    let info : List ℕ = message_info signal.stamp signal.id signal.ref_to in
    omega (
      arith,
      length-element (codes "eb:SignalMessage") [] (info ++ body_text signal.body),
      length-append info (body_text signal.body),
      info_within ms signal.stamp signal.id signal.ref_to stamped id refers,
    )

-- a receipt with its copy of the header
receipt_within : (h : UserHeader) (ms nonce : ℕ) (signal : Signal) → IsReceiptOf h ms nonce signal → length h.id ≤ 61
    → length (user_message h) ≤ 228604 → length (signal_message signal) ≤ 229672
unfolding receipt_text
receipt_within h ms nonce signal is named copied =
    let refers : IsWithin 61 signal.ref_to = rw is.refers named in
    let body : length (body_text signal.body) ≤ 228629 = rw is.copies (omega (arith, length-element (codes "eb:Receipt") [] (user_message h))) in
    signal_within ms nonce signal 228629 is.stamped is.named refers body

pub receipt_is_short : (s : Submission) (m : Message) → IsShortlySubmitted s → IsReceiptFor s m → IsShort m
receipt_is_short s m submitted is =
    let text : length (signal_message is.signal) ≤ 229672 =
    receipt_within s.header is.ms is.nonce is.signal is.made (id_within s submitted) (header_within s submitted) in
    rw is.is (omega (arith, length-envelope (signal_message is.signal)))

pub error_signal_is_short : (s : Submission) (m : Message) → IsShortlySubmitted s → IsErrorSignalFor s m → IsShort m
error_signal_is_short s m submitted is =
    let about : IsWithin 61 (Some s.header.id) = id_within s submitted in
    let refers : IsWithin 61 is.signal.ref_to = rw is.made.refers about in
    let body : length (body_text is.signal.body) ≤ 809 = errors_within is.code (Some s.header.id) is.signal.body about is.made.tells in
    let text : length (signal_message is.signal) ≤ 1852 = signal_within is.ms is.nonce is.signal 809 is.made.stamped is.made.named refers body in
    rw is.is (omega (arith, length-envelope (signal_message is.signal)))

-- a pull request for the channel of a mode
pull_within : (mode : Mode) (mpc : List ℕ) (ms nonce : ℕ) (signal : Signal) → channel_of mode.route ≡ Some mpc → IsPullOf mpc ms nonce signal
    → length (signal_message signal) ≤ 2613
unfolding pull_text
pull_within mode mpc ms nonce signal channel is =
    let named : IsWithin 255 (Some mpc) = rw channel at (channel_within mode.route mode.routed) in
    let refers : IsWithin 61 signal.ref_to = rw is.refers tt in
    let body : length (body_text signal.body) ≤ 1570 =
    rw is.asks (omega (arith, length-element (codes "eb:PullRequest") (attribute (codes "mpc") mpc) [], attribute_within (codes "mpc") mpc)) in
    signal_within ms nonce signal 1570 is.stamped is.named refers body

pub pull_is_short : (m : Message) → IsPullRequest m → IsShort m
pull_is_short m is =
    let text : length (signal_message is.signal) ≤ 2613 = pull_within is.mode is.mpc is.ms is.nonce is.signal is.channel is.made in
    rw is.is (omega (arith, length-envelope (signal_message is.signal)))

pub pair_is_short : (s : Submission) (m : Message) → IsShortlySubmitted s → IsPairFor s m → IsShort m
unfolding pair_text
pair_is_short s m submitted is =
    let receipt : List ℕ = signal_message is.pair.receipt in
    let pull : List ℕ = signal_message is.pair.pull in
    let receipt_most : length receipt ≤ 229672 =
    receipt_within s.header is.ms (next_nonce is.nonce) is.pair.receipt is.made.receipt (id_within s submitted) (header_within s submitted) in
    let pull_most : length pull ≤ 2613 = pull_within is.mode is.mpc is.ms is.nonce is.pair.pull is.channel is.made.pull in
    rw is.is (omega (arith, length-envelope (receipt ++ pull), length-append receipt pull))
