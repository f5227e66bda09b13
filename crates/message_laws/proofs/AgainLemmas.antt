-- A written message is read back as that message.
use Rattle.std.proofs.Common.{◌≡◌, ℕ, ◌≤◌, List, [], Ok, length, map, refl, sym, inr}
use Rattle.as4_message.specs.Meaning.{ReceivedValue, user, signal, pair as both, Means, IsMessage, unit_with, payload_value, ArePaired}
use Rattle.as4_values.specs.declared.header.UserHeader.{UserHeader}
use Rattle.as4_values.specs.declared.message.Message.{Message}
use Rattle.as4_values.specs.declared.message.Message.TheVariants as message
use Rattle.as4_values.specs.declared.message.Pair.{Pair}
use Rattle.as4_values.specs.declared.message.Unit.{Unit as MessageUnit}
use Rattle.as4_values.specs.declared.message.Unit.TheVariants as unit
use Rattle.as4_values.specs.declared.payload.Payload.{Payload}
use Rattle.as4_values.specs.declared.signal.Signal.{Signal}
use Rattle.message_laws.proofs.AttachLemmas.{attach_again, payloads_are_few}
use Rattle.message_laws.specs.Readable.{envelope_of, IsShort}
use Rattle.message_model.specs.Package.{IsFree, envelope_media, package_media, package_body}
use Rattle.message_model.specs.Wire.{IsWire}
use Rattle.mime_fields.specs.Fields.{PartValue}
use Rattle.mime_package.specs.Reading.{package_of}
use Rattle.package_laws.specs.Written.{payload_part}
use Rattle.tree_reader.specs.Documents.{limit}
use Rattle.unit_laws.specs.ReadAgain.{IsReadAgain}

-- a written package of these payloads is read back as them, and a bare envelope as itself
abbrev PackageAgain : List Payload → Type 0
PackageAgain payloads =
    (root : List ℕ) (n : ℕ) → IsFree n root payloads → length payloads ≤ 255
    → package_of (package_media n) (package_body n root payloads) ≡ Ok (record { root = root; parts = map payload_part payloads })

abbrev EnvelopeAgain : Type 0
EnvelopeAgain = (root : List ℕ) → package_of envelope_media root ≡ Ok (record { root = root; parts = [] })

-- whatever is written for a message is read back as that message
abbrev MessageAgain : Message → Type 0
MessageAgain m =
    (media body : List ℕ) → IsWire m media body → IsShort m → ArePaired m → (received : ReceivedValue) × Means media body (Ok received) × IsMessage received m

-- a package whose root is read as a unit means what the unit and the other parts mean
means_again : (media body root : List ℕ) (parts : List PartValue) (u : MessageUnit) (received : ReceivedValue)
    → package_of media body ≡ Ok (record { root = root; parts = parts }) → IsReadAgain root u → length root ≤ limit
    → unit_with parts u ≡ Ok received → Means media body (Ok received)
means_again media body root parts u received whole again short is =
    let tree = again short in rw whole (Ok u, inr (tree.0, tree.1, rw tree.2 refl), sym is)

-- a user message, whose payloads pair with its part infos
pub user_again : (header : UserHeader) (payloads : List Payload) → IsReadAgain (envelope_of (message.User header payloads)) (unit.User header) → PackageAgain payloads
    → MessageAgain (message.User header payloads)
user_again header payloads again whole media body wire short paired =
    let root : List ℕ = envelope_of (message.User header payloads) in
    let parts : List PartValue = map payload_part payloads in
    let few = payloads_are_few header.parts payloads paired header.parts_counted in
    let read = whole root wire.number wire.boundary.free few in
    let received : ReceivedValue = user header (map payload_value payloads) in (
      received,
      means_again media body root parts (unit.User header) received (rw (wire.media_is, wire.body_is) read) again short (rw (attach_again header.parts payloads paired) refl),
      (payloads, refl, refl),
    )

-- a bare envelope
pub signal_again : (s : Signal) → IsReadAgain (envelope_of (message.Signal s)) (unit.Signal s) → EnvelopeAgain → MessageAgain (message.Signal s)
signal_again s again bare media body wire short paired =
    let root : List ℕ = envelope_of (message.Signal s) in
    (signal s, means_again media body root [] (unit.Signal s) (signal s) (rw (wire.media_is, wire.body_is) (bare root)) again short refl, refl)

pub pair_again : (p : Pair) → IsReadAgain (envelope_of (message.Pair p)) (unit.Pair p) → EnvelopeAgain → MessageAgain (message.Pair p)
pair_again p again bare media body wire short paired =
    let root : List ℕ = envelope_of (message.Pair p) in
    (both p, means_again media body root [] (unit.Pair p) (both p) (rw (wire.media_is, wire.body_is) (bare root)) again short refl, refl)
