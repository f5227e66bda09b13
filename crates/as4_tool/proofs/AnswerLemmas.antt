-- A source that is read to its end, and the answer to a message file.
use Rattle.std.proofs.Common.{◌≡◌, ℕ, List, [], Option, Some, None, Result, Ok, Err, IfOk, MatchOption, subst, sym, ap, ◌∙◌, Bool}
use Rattle.std.specs.Result.{is_err}
use Rattle.as4_values.specs.declared.memory.NoMemory.{NoMemory}
use Rattle.as4_values.specs.declared.signal.Signal.{Signal}
use Rattle.as4_values.specs.declared.message.Message.TheVariants as message
use Rattle.std.specs.Prelude.{◌∷◌, option_map}
use Rattle.as4_values.proofs.MomentLemmas.{one_stamp_of}
use Rattle.as4_values.proofs.SignalLemmas.{same_signal}
use Rattle.as4_values.specs.declared.signal_body.SignalBody.{SignalBody}
use Rattle.as4_values.specs.declared.signal_body.SignalBody.TheVariants as body
use Rattle.as4_codes.specs.ErrorCodes.{ErrorRow, error_row, error_item}
use Rattle.message_model.specs.Package.{envelope_media}
use Rattle.message_model.specs.UnitText.{signal_message, envelope_text}
use Rattle.message_model.specs.Wire.{IsFile, media_and_body, message_file}
use Rattle.as4_message.proofs.MeaningLemmas.{one_meaning_of}
use Rattle.as4_message.specs.Line.{line_of}
use Rattle.as4_message.specs.Meaning.{ReceivedValue, user, signal, pair}
use Rattle.as4_message.specs.declared.received.Refusal.{Refusal}
use Rattle.as4_tool.specs.Answer.{FileMeans, IsReply, IsAnswer, IsSignal, IsSignalFile, IsFileLine}
use Rattle.as4_flow.specs.Flow.{Told, before}
use Rattle.as4_flow.proofs.FlowLemmas.{read_whole}

-- a property of the bytes that were read holds of the observable source
pub told_whole : (start end : Option (List ℕ)) (bytes : List ℕ) (P : List ℕ → Type 0) → start ≡ before bytes end → Told end (λ rest. rest ≡ []) → P bytes → Told start P
told_whole start end bytes P came none holds all told = subst P (sym (read_whole start end bytes came none all told)) holds

-- the file of the reply, if there is one, is the answer
pub answered : (stamp nonce : ℕ) (file : List ℕ) (meant : Result ReceivedValue Refusal) (reply : Option Signal) (r : Result (Option (List ℕ)) NoMemory) → FileMeans file meant
    → MatchOption reply (IsSignal meant) (IsReply stamp nonce meant)
    → IfOk r (λ found. MatchOption found (reply ≡ None) (λ bytes. (s : Signal) × (reply ≡ Some s) × IsFile (message.Signal s) bytes))
    → IfOk r (λ answer. MatchOption answer (IsSignalFile file) (IsAnswer stamp nonce file))
answered stamp nonce file meant reply (Ok None) means replies none =
    (meant, means, subst (λ (o : Option Signal). MatchOption o (IsSignal meant) (IsReply stamp nonce meant)) none replies)
answered stamp nonce file meant reply (Ok (Some bytes)) means replies found =
    (meant, found.0, means, subst (λ (o : Option Signal). MatchOption o (IsSignal meant) (IsReply stamp nonce meant)) found.1 replies, found.2)
answered stamp nonce file meant reply (Err e) means replies none = tt

-- a file has one line, and a signal has no answer
pub one_line_of : (file line other : List ℕ) (refused also : Bool) → IsFileLine file line refused → IsFileLine file other also → (line ≡ other) × (refused ≡ also)
one_line_of file line other refused also first second =
    let same = one_meaning_of (media_and_body file).0 (media_and_body file).1 first.0 second.0 first.1 second.1 in (
      first.2 ∙ (ap line_of same ∙ sym second.2),
      first.3 ∙ (ap is_err same ∙ sym second.3),
    )

no_reply : (stamp nonce : ℕ) (meant : Result ReceivedValue Refusal) (reply : Signal) → IsSignal meant → IsReply stamp nonce meant reply → ⊥
no_reply stamp nonce (Ok (user header parts)) reply is replies = is
no_reply stamp nonce (Ok (signal s)) reply is replies = replies
no_reply stamp nonce (Ok (pair p)) reply is replies = replies
no_reply stamp nonce (Err refusal) reply is replies = is

pub no_answer_to : (stamp nonce : ℕ) (file answer : List ℕ) → IsSignalFile file → IsAnswer stamp nonce file answer → ⊥
no_answer_to stamp nonce file answer is answers =
    let same = one_meaning_of (media_and_body file).0 (media_and_body file).1 is.0 answers.0 is.1 answers.2 in
    no_reply stamp nonce answers.0 answers.1 (subst (λ (meant : Result ReceivedValue Refusal). IsSignal meant) same is.2) answers.3

-- one answer

same_body : (row : Option ErrorRow) (about : Option (List ℕ)) (a b : SignalBody) → option_map (λ r. body.Errors (error_item r about ∷ [])) row ≡ Some a → option_map (λ r. body.Errors (error_item r about ∷ [])) row ≡ Some b → a ≡ b
same_body row about a b first second = let both = sym first ∙ second in cc

one_signal : (a b : Signal) → a.stamp ≡ b.stamp → a.id ≡ b.id → a.ref_to ≡ b.ref_to → a.body ≡ b.body → a ≡ b
one_signal a b stamp id refers says =
    let built : List ℕ → List ℕ → Signal = λ s i. record { stamp = s; id = i; ref_to = a.ref_to; body = a.body; whole = a.whole } in
    ap (λ (s : List ℕ). built s a.id) stamp ∙ (ap (λ (i : List ℕ). built b.stamp i) id ∙ same_signal b a.ref_to a.body refers says a.whole)

one_reply : (stamp nonce : ℕ) (meant : Result ReceivedValue Refusal) (a b : Signal) → IsReply stamp nonce meant a → IsReply stamp nonce meant b → a ≡ b
one_reply stamp nonce (Ok (user header parts)) a b first second =
    one_signal a b (one_stamp_of stamp a.stamp b.stamp first.stamped second.stamped) (first.named ∙ sym second.named) (first.refers ∙ sym second.refers) (first.copies ∙ sym second.copies)
one_reply stamp nonce (Ok (signal s)) a b first second = absurd first
one_reply stamp nonce (Ok (pair p)) a b first second = absurd first
one_reply stamp nonce (Err refusal) a b first second =
    one_signal a b (one_stamp_of stamp a.stamp b.stamp first.stamped second.stamped) (first.named ∙ sym second.named) (first.refers ∙ sym second.refers)
    (same_body (error_row refusal.code) refusal.about a.body b.body first.tells second.tells)

-- a signal's file has no boundary, so a signal has one file
signal_file : (s : Signal) (file : List ℕ) → IsFile (message.Signal s) file → file ≡ message_file envelope_media (envelope_text (signal_message s))
signal_file s file is = is.file_is ∙ (ap (λ (m : List ℕ). message_file m is.body) is.wire.media_is ∙ ap (λ (b : List ℕ). message_file envelope_media b) is.wire.body_is)

pub one_answer_of : (stamp nonce : ℕ) (file one other : List ℕ) → IsAnswer stamp nonce file one → IsAnswer stamp nonce file other → one ≡ other
one_answer_of stamp nonce file one other first second =
    let same = one_meaning_of (media_and_body file).0 (media_and_body file).1 first.0 second.0 first.2 second.2 in
    let reply = one_reply stamp nonce second.0 first.1 second.1 (subst (λ (m : Result ReceivedValue Refusal). IsReply stamp nonce m first.1) same first.3) second.3 in
    signal_file first.1 one first.4 ∙ (ap (λ (s : Signal). message_file envelope_media (envelope_text (signal_message s))) reply ∙ sym (signal_file second.1 other second.4))
