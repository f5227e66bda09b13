-- A received value comes from one message only, so that message is read.
use Rattle.std.proofs.Common.{◌≡◌, ℕ, List, [], ◌∷◌, Result, Ok, Err, map, refl, sym, ap, ap₂, ◌∙◌}
use Rattle.as4_effects.proofs.PartLemmas.{payload_told}
use Rattle.as4_message.proofs.MeaningLemmas.{one_meaning_of}
use Rattle.as4_message.specs.Meaning.{AnswersBy, Copies, ReceivedValue, user, signal, pair, Means, IsMessage, payload_value}
use Rattle.as4_message.specs.Attached.{AttachedValue}
use Rattle.as4_message.specs.declared.received.MessageRefusal.{MessageRefusal}
use Rattle.as4_message.specs.declared.received.MessageRefusal.TheVariants.{Refused, NoMemory}
use Rattle.as4_values.specs.declared.message.Message.{Message}
use Rattle.as4_values.specs.declared.message.Message.TheVariants as message
use Rattle.as4_values.specs.declared.payload.Payload.{Payload}
use Rattle.message_laws.specs.Answers.{IsReadAs}

-- payloads are equal if their values are
payloads_told : (payloads others : List Payload) → map payload_value payloads ≡ map payload_value others → payloads ≡ others
payloads_told [] [] same = refl
payloads_told [] (other ∷ others) same = absurd cc
payloads_told (payload ∷ payloads) [] same = absurd cc
payloads_told (payload ∷ payloads) (other ∷ others) same =
    let first : payload_value payload ≡ payload_value other = cc in
    let rest : map payload_value payloads ≡ map payload_value others = cc in
    ap₂ ◌∷◌ (payload_told payload other (ap (λ (value : AttachedValue). ((value.cid, value.media), value.content)) first)) (payloads_told payloads others rest)

-- no two messages have the same received value
one_message : (received : ReceivedValue) (m other : Message) → IsMessage received m → IsMessage received other → m ≡ other
one_message (user header parts) m other first second =
    first.2 ∙ (ap (message.User header) (payloads_told first.0 second.0 (sym first.1 ∙ second.1)) ∙ sym second.2)
one_message (signal s) m other first second = first ∙ sym second
one_message (pair p) m other first second = first ∙ sym second

-- if a message has a meaning, each result with that meaning is this message
pub answer_again : (m : Message) (media body : List ℕ) (received : ReceivedValue) → Means media body (Ok received) → IsMessage received m
    → (answer : Result Message MessageRefusal) → AnswersBy (λ read. read) answer (Copies (Means media body)) → IsReadAs answer m
answer_again m media body received means is (Ok read) found =
    let same : found.0 ≡ received = let e = one_meaning_of media body (Ok found.0) (Ok received) found.1 means in cc in
    one_message received read m (rw same at found.2) is
answer_again m media body received means is (Err (Refused refusal)) found =
    let e = one_meaning_of media body (Ok received) (Err refusal) means found in absurd cc
answer_again m media body received means is (Err NoMemory) found = tt
