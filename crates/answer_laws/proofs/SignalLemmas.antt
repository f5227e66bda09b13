-- The messages that an endpoint makes are read as themselves: receipts, error signals and user messages of submissions.
use Rattle.std.proofs.Common.{◌≡◌, ℕ, List, [], ◌∷◌, Option, Some, None, refl, sym, subst}
use Rattle.std.specs.Prelude.{IfSome, option_map}
use Rattle.answer_laws.proofs.OnlyLemmas.{only_itself}
use Rattle.answer_laws.proofs.SpelledLemmas.{header_stays, header_told}
use Rattle.answer_laws.specs.ReadBack.{IsReadAsItself}
use Rattle.as4_codes.proofs.RowLemmas.{code_is_word, row_is_sound}
use Rattle.as4_codes.specs.ErrorCodes.{ErrorRow, code_text, error_item, error_row}
use Rattle.as4_codes.specs.Signals.{IsErrorSignalOf, IsReceiptOf}
use Rattle.as4_message.specs.Meaning.{ArePaired}
use Rattle.as4_values.proofs.IdentifierLemmas.{signal_id_is_word}
use Rattle.as4_values.proofs.MomentTextLemmas.{stamp_of_moment}
use Rattle.as4_values.proofs.TextLemmas.{plain_is_text}
use Rattle.as4_values.specs.Identifiers.{signal_id}
use Rattle.as4_values.specs.Moment.{IsStampOf}
use Rattle.as4_values.specs.Word.{IsWord}
use Rattle.as4_values.specs.declared.header.UserHeader.{UserHeader}
use Rattle.as4_values.specs.declared.message.Message.TheVariants as message
use Rattle.as4_values.specs.declared.message.Pair.{Pair}
use Rattle.as4_values.specs.declared.message.Unit.TheVariants as unit
use Rattle.as4_values.specs.declared.payload.Payload.{Payload}
use Rattle.as4_values.specs.declared.signal.Signal.{Signal}
use Rattle.as4_values.specs.declared.signal_body.ErrorItem.{ErrorItem}
use Rattle.as4_values.specs.declared.signal_body.SignalBody.{SignalBody}
use Rattle.as4_values.specs.declared.signal_body.SignalBody.TheVariants as body
use Rattle.as4_values.specs.declared.word.Word.TheVariants.{ErrorCode, Identifier}
use Rattle.event_code.specs.Spelled.{IsSpelledHeader}
use Rattle.header_reader.specs.Signals.{signal_of}
use Rattle.header_reader.specs.User.{user_of}
use Rattle.message_model.specs.UnitTree.{signal_tree, user_tree}
use Rattle.unit_laws.proofs.AgainLemmas.{stamp_again, text_again, word_again}
use Rattle.unit_laws.proofs.ReadAgain.{unit_read_again}
use Rattle.unit_laws.proofs.SignalAgain.{error_again, signal_again}
use Rattle.unit_laws.proofs.SignalKept.{error_kept, errors_kept, pair_unit, receipt_kept, signal_kept, signal_unit, user_unit}
use Rattle.unit_laws.proofs.UserAgain.{info_again}
use Rattle.unit_laws.proofs.UserKept.{info_kept}
use Rattle.unit_laws.proofs.XmlLemmas.{code_is_xml, id_is_xml, stamp_is_xml, text_is_xml}
use Rattle.unit_laws.specs.Again.{BodyAgain, IdAgain}
use Rattle.unit_laws.specs.Kept.{BodyKept, IsKept, IsXmlText}

-- an identifier is read back, and kept by its text
pub record IsTold (id : List ℕ) : Type 0 where
  pub again : IdAgain id
  pub kept : IsXmlText id

-- a header is
pub record HeaderTold (header : UserHeader) : Type 0 where
  pub again : user_of (user_tree header) ≡ Some header
  pub kept : IsKept 5 (user_tree header)

-- a body is
record BodyTold (b : SignalBody) : Type 0 where
  again : BodyAgain b
  kept : BodyKept b

word_told : (id : List ℕ) → IsWord Identifier id → IsTold id
word_told id is = record { again = word_again Identifier id is; kept = id_is_xml id is }

spelled_told : (header : UserHeader) → IsSpelledHeader header → HeaderTold header
spelled_told header is = record { again = header_told header is; kept = header_stays header is }

-- user messages, signals and pairs that are read back and kept are read as themselves

pub user_itself : (header : UserHeader) (payloads : List Payload) → HeaderTold header → ArePaired (message.User header payloads)
    → IsReadAsItself (message.User header payloads)
user_itself header payloads told paired =
    only_itself (message.User header payloads) (unit_read_again (unit.User header) told.again (user_unit header told.kept)) paired

pub signal_itself : (s : Signal) → signal_of (signal_tree s) ≡ Some s → IsKept 7 (signal_tree s) → IsReadAsItself (message.Signal s)
signal_itself s again kept = only_itself (message.Signal s) (unit_read_again (unit.Signal s) again (signal_unit s kept)) tt

pub pair_itself : (p : Pair) → signal_of (signal_tree p.receipt) ≡ Some p.receipt → IsKept 7 (signal_tree p.receipt)
    → signal_of (signal_tree p.pull) ≡ Some p.pull → IsKept 7 (signal_tree p.pull) → IsReadAsItself (message.Pair p)
pair_itself p one kept other stays =
    only_itself (message.Pair p) (unit_read_again (unit.Pair p) (one, other) (pair_unit p kept stays)) tt

-- the messages of submissions

pub sent_itself : (header : UserHeader) (payloads : List Payload) → IsSpelledHeader header → ArePaired (message.User header payloads)
    → IsReadAsItself (message.User header payloads)
sent_itself header payloads is paired = user_itself header payloads (spelled_told header is) paired

-- signals that are made at a moment, with a nonce, about a message

made_itself : (ms nonce : ℕ) (about : List ℕ) (s : Signal) → IsStampOf ms s.stamp → s.id ≡ signal_id nonce → s.ref_to ≡ Some about → IsTold about
    → BodyTold s.body → IsReadAsItself (message.Signal s)
made_itself ms nonce about s stamped named refers told b =
    let stamp = stamp_of_moment ms s.stamp stamped in
    let id : IsTold s.id = subst IsTold (sym named) (word_told (signal_id nonce) (signal_id_is_word nonce)) in
    let again : IfSome s.ref_to IdAgain = subst (λ (o : Option (List ℕ)). IfSome o IdAgain) (sym refers) told.again in
    let kept : IfSome s.ref_to IsXmlText = subst (λ (o : Option (List ℕ)). IfSome o IsXmlText) (sym refers) told.kept in
    signal_itself s
    (signal_again s (info_again s.stamp s.id s.ref_to (stamp_again s.stamp stamp) id.again again) b.again)
    (signal_kept s (info_kept s.stamp s.id s.ref_to (stamp_is_xml s.stamp stamp) id.kept kept) b.kept)

pub receipt_itself : (header : UserHeader) (ms nonce : ℕ) (s : Signal) → HeaderTold header → IsTold header.id → IsReceiptOf header ms nonce s
    → IsReadAsItself (message.Signal s)
receipt_itself header ms nonce s told id made =
    made_itself ms nonce header.id s made.stamped made.named made.refers id
    (subst BodyTold (sym made.copies) (record { again = told.again; kept = receipt_kept (Some header) told.kept }))

-- the row of a code, with what is made of it
mapped : {X Y : Type 0} (f : X → Y) (o : Option X) (y : Y) → option_map f o ≡ Some y → (x : X) × (o ≡ Some x) × (f x ≡ y)
mapped f None y is = absurd cc
mapped f (Some x) y is = (x, refl, cc)

error_told : (code : ℕ) (row : ErrorRow) (about : List ℕ) → error_row code ≡ Some row → IsTold about → BodyTold (body.Errors (error_item row (Some about) ∷ []))
error_told code row about found told =
    let item : ErrorItem = error_item row (Some about) in
    let sound = row_is_sound code row found in
    let word = code_is_word row.code sound.0 in
    let short = plain_is_text row.short sound.1 in
    let category = plain_is_text row.category sound.2 in
    record {
      again = (
        error_again item (record {
          code = word_again ErrorCode (code_text row.code) word;
          origin = tt;
          category = text_again row.category category;
          about = told.again;
          short = text_again row.short short;
          description = tt;
          detail = tt;
        }),
        tt,
      );
      kept = errors_kept (item ∷ []) (
        error_kept item (record {
          code = code_is_xml (code_text row.code) word;
          origin = tt;
          category = text_is_xml row.category category;
          about = told.kept;
          short = text_is_xml row.short short;
          description = tt;
          detail = tt;
        }),
        tt,
      );
    }

pub error_itself : (code : ℕ) (about : List ℕ) (ms nonce : ℕ) (s : Signal) → IsTold about → IsErrorSignalOf code (Some about) ms nonce s
    → IsReadAsItself (message.Signal s)
error_itself code about ms nonce s told made =
    let row = mapped (λ (r : ErrorRow). body.Errors (error_item r (Some about) ∷ [])) (error_row code) s.body made.tells in
    made_itself ms nonce about s made.stamped made.named made.refers told
    (subst BodyTold row.2 (error_told code row.0 about row.1 told))
