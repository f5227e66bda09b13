-- The meaning of a media text and a body: a message, or a refusal with the first of the errors below that applies (ebMS
-- 3.0 Core, section 6.7.1). And the result of a reader.
use Rattle.std.specs.Prelude.{◌≡◌, ◌⊎◌, ℕ, List, [], ◌∷◌, Option, Some, None, Result, Ok, Err, IsTrue, map}
use Rattle.as4_envelope.specs.declared.tree.Element.{Element}
use Rattle.as4_values.specs.Pairing.{named_by, are_paired, pair as parts_pair}
use Rattle.as4_values.specs.declared.header.UserHeader.{UserHeader}
use Rattle.as4_values.specs.declared.payload.Payload.{Payload}
use Rattle.as4_values.specs.declared.signal.Signal.{Signal}
use Rattle.as4_values.specs.declared.message.Pair.{Pair}
use Rattle.as4_values.specs.declared.message.Unit.{Unit as MessageUnit}
use Rattle.as4_values.specs.declared.message.Unit.TheVariants as unit
use Rattle.as4_values.specs.declared.message.Message.{Message}
use Rattle.as4_values.specs.declared.message.Message.TheVariants as message
use Rattle.tree_reader.specs.Documents.{IsDocument}
use Rattle.header_reader.specs.Envelope.{unit_of}
use Rattle.header_reader.specs.declared.refusal.HeaderRefusal.{HeaderRefusal}
use Rattle.header_reader.specs.declared.refusal.HeaderRefusal.TheVariants as header_refusal
use Rattle.mime_fields.specs.Fields.{PartValue}
use Rattle.mime_package.specs.Reading.{PackageValue, package_of}
use Rattle.mime_package.specs.declared.read.MimeRefusal.{MimeRefusal}
use Rattle.mime_package.specs.declared.read.MimeRefusal.TheVariants as mime_refusal
use Rattle.as4_message.specs.Attached.{AttachedValue, attach, attached_value}
use Rattle.as4_message.specs.declared.error_codes.TheConstants.{INCONSISTENT, INVALID_HEADER, NOT_SUPPORTED}
use Rattle.as4_message.specs.declared.received.Received.{Received}
use Rattle.as4_message.specs.declared.received.Received.TheVariants as lent
use Rattle.as4_message.specs.declared.received.Refusal.{Refusal}
use Rattle.as4_message.specs.declared.received.MessageRefusal.{MessageRefusal}
use Rattle.as4_message.specs.declared.received.MessageRefusal.TheVariants.{Refused, NoMemory}

-- a message as received: a header and the parts that it refers to, a signal, or a pair
pub data ReceivedValue : Type 0 where
  user : UserHeader → List AttachedValue → ReceivedValue
  signal : Signal → ReceivedValue
  pair : Pair → ReceivedValue

-- a borrowed message as a value, without its address in memory
abbrev pub received_value : Received → ReceivedValue
received_value (lent.User header parts) = user header (map attached_value parts.items)
received_value (lent.Signal s) = signal s
received_value (lent.Pair p) = pair p

abbrev pub refused : {X : Type 0} → ℕ → Option (List ℕ) → Result X Refusal
refused code about = Err (record { code = code; about = about })

-- the code of a body that is not a package: MimeInconsistency, or FeatureNotSupported if a part has a transfer encoding
abbrev pub package_code : MimeRefusal → ℕ
package_code mime_refusal.BadType = INCONSISTENT
package_code mime_refusal.NoBoundary = INCONSISTENT
package_code (mime_refusal.BadPart index) = INCONSISTENT
package_code mime_refusal.NoRoot = INCONSISTENT
package_code (mime_refusal.Encoding index) = NOT_SUPPORTED
package_code mime_refusal.NoMemory = INCONSISTENT

-- the code of an envelope that holds no unit: InvalidHeader or FeatureNotSupported
abbrev pub envelope_code : HeaderRefusal → ℕ
envelope_code header_refusal.Invalid = INVALID_HEADER
envelope_code header_refusal.Unsupported = NOT_SUPPORTED
envelope_code header_refusal.NoMemory = INVALID_HEADER

abbrev pub unit_or_code : Result MessageUnit HeaderRefusal → Result MessageUnit ℕ
unit_or_code (Ok u) = Ok u
unit_or_code (Err refusal) = Err (envelope_code refusal)

-- the meaning of the root: the unit of its tree, or the code that refuses it
abbrev pub RootMeans : List ℕ → Result MessageUnit ℕ → Type 0
RootMeans root meant =
    ((meant ≡ Err INVALID_HEADER) × ((tree : Element) → ¬ (IsDocument root tree)))
    ⊎ ((tree : Element) × IsDocument root tree × (meant ≡ unit_or_code (unit_of tree)))

-- a header with the parts that it refers to, or the refusal of this code
abbrev pub user_with : UserHeader → Result (List AttachedValue) ℕ → Result ReceivedValue Refusal
user_with header (Ok parts) = Ok (user header parts)
user_with header (Err code) = refused code (Some header.id)

abbrev pub alone : List PartValue → List ℕ → ReceivedValue → Result ReceivedValue Refusal
alone [] id received = Ok received
alone (part ∷ parts) id received = refused INCONSISTENT (Some id)

abbrev pub unit_with : List PartValue → MessageUnit → Result ReceivedValue Refusal
unit_with parts (unit.User header) = user_with header (attach header.parts parts)
unit_with parts (unit.Signal s) = alone parts s.id (signal s)
unit_with parts (unit.Pair p) = alone parts p.receipt.id (pair p)

abbrev pub root_with : List PartValue → Result MessageUnit ℕ → Result ReceivedValue Refusal
root_with parts (Ok u) = unit_with parts u
root_with parts (Err code) = refused code None

-- the meaning of a package
abbrev pub PackageMeans : Result PackageValue MimeRefusal → Result ReceivedValue Refusal → Type 0
PackageMeans (Err refusal) meant = meant ≡ refused (package_code refusal) None
PackageMeans (Ok whole) meant = (root : Result MessageUnit ℕ) × RootMeans whole.root root × (meant ≡ root_with whole.parts root)

-- the meaning of a media text and a body
abbrev pub Means : List ℕ → List ℕ → Result ReceivedValue Refusal → Type 0
Means media body meant = PackageMeans (package_of media body) meant

-- a payload of the message as a value
abbrev pub payload_value : Payload → AttachedValue
payload_value payload = record { cid = payload.cid; media = payload.media; content = payload.content }

abbrev pub IsMessage : ReceivedValue → Message → Type 0
IsMessage (user header parts) m = (payloads : List Payload) × (parts ≡ map payload_value payloads) × (m ≡ message.User header payloads)
IsMessage (signal s) m = m ≡ message.Signal s
IsMessage (pair p) m = m ≡ message.Pair p

-- for a user message: each part info names one of its payloads, each payload is named, and none is named twice
abbrev pub HasItsParts : ReceivedValue → Type 0
HasItsParts (user header parts) = IsTrue (are_paired (named_by header.parts) (map (λ part. part.cid) parts))
HasItsParts (signal s) = Unit {0}
HasItsParts (pair p) = Unit {0}

-- the same for the message itself
abbrev pub ArePaired : Message → Type 0
ArePaired (message.User header payloads) = IsTrue (parts_pair header.parts payloads)
ArePaired (message.Signal s) = Unit {0}
ArePaired (message.Pair p) = Unit {0}

-- the reader's result has this property; nothing is said where memory ran out
abbrev pub AnswersBy : {X Y : Type 0} → (X → Y) → Result X MessageRefusal → (Result Y Refusal → Type 0) → Type 0
AnswersBy view (Ok x) holds = holds (Ok (view x))
AnswersBy view (Err (Refused refusal)) holds = holds (Err refusal)
AnswersBy view (Err NoMemory) holds = Unit {0}

-- the refusal with this code and this message, unless memory ran out
abbrev pub Refuses : ℕ → Option (List ℕ) → MessageRefusal → Type 0
Refuses code about (Refused refusal) = refusal ≡ record { code = code; about = about }
Refuses code about NoMemory = Unit {0}

-- this holds for the received message that the result copies, or for the refusal
abbrev pub Copies : (Result ReceivedValue Refusal → Type 0) → Result Message Refusal → Type 0
Copies holds (Ok message) = (received : ReceivedValue) × holds (Ok received) × IsMessage received message
Copies holds (Err refusal) = holds (Err refusal)
