-- A message whose unit is read back from its text is read as itself, if it is read.
use Rattle.std.proofs.Common.{◌≡◌, ℕ, ◌≤◌, List, [], length, map, inl, inr, subst}
use Rattle.std.specs.Prelude.{Ok, Err, Result}
use Rattle.answer_laws.specs.ReadBack.{IsReadAsItself}
use Rattle.as4_message.specs.Meaning.{ArePaired, Means, PackageMeans, ReceivedValue, RootMeans, root_with}
use Rattle.as4_values.specs.declared.message.Message.{Message}
use Rattle.as4_values.specs.declared.message.Message.TheVariants as message
use Rattle.as4_values.specs.declared.message.Unit.{Unit as MessageUnit}
use Rattle.as4_values.specs.declared.message.Unit.TheVariants as unit
use Rattle.message_laws.proofs.AgainLemmas.{pair_again, signal_again, user_again}
use Rattle.message_laws.proofs.AttachLemmas.{payloads_are_few}
use Rattle.message_laws.proofs.OneLemmas.{answer_again}
use Rattle.message_laws.specs.Readable.{envelope_of}
use Rattle.mime_fields.specs.Fields.{PartValue}
use Rattle.mime_package.specs.Reading.{package_of}
use Rattle.package_laws.proofs.PackageLemmas.{envelope_again, package_again}
use Rattle.package_laws.specs.Written.{payload_part}
use Rattle.tree_reader.specs.Documents.{limit}
use Rattle.unit_laws.specs.ReadAgain.{IsReadAgain}

-- the unit of a message
abbrev pub unit_of_message : Message → MessageUnit
unit_of_message (message.User header payloads) = unit.User header
unit_of_message (message.Signal signal) = unit.Signal signal
unit_of_message (message.Pair pair) = unit.Pair pair

-- a root that is read as a unit is short enough for a document
short_root : (root : List ℕ) (parts : List PartValue) (received : ReceivedValue) (meant : Result MessageUnit ℕ) → RootMeans root meant
    → Ok received ≡ root_with parts meant → length root ≤ limit
short_root root parts received (Err code) means is = absurd cc
short_root root parts received (Ok u) (inl none) is = absurd (let e = none.0 in cc)
short_root root parts received (Ok u) (inr whole) is = whole.1.short

short_package : (media body root : List ℕ) (parts : List PartValue) (received : ReceivedValue)
    → package_of media body ≡ Ok (record { root = root; parts = parts }) → Means media body (Ok received) → length root ≤ limit
short_package media body root parts received whole means =
    let meant = subst (λ p. PackageMeans p (Ok received)) whole means in
    short_root root parts received meant.0 meant.1 meant.2

pub only_itself : (m : Message) → IsReadAgain (envelope_of m) (unit_of_message m) → ArePaired m → IsReadAsItself m
only_itself (message.User header payloads) again paired = λ media body read wire found.
    let root : List ℕ = envelope_of (message.User header payloads) in
    let parts : List PartValue = map payload_part payloads in
    let few = payloads_are_few header.parts payloads paired header.parts_counted in
    let whole : package_of media body ≡ Ok (record { root = root; parts = parts }) =
    rw (wire.media_is, wire.body_is) (package_again root wire.number payloads wire.boundary.free few) in
    let first = user_again header payloads again (λ r n free small. package_again r n payloads free small) media body wire
    (short_package media body root parts found.0 whole found.1) paired in
    answer_again (message.User header payloads) media body first.0 first.1 first.2 (Ok read) found
only_itself (message.Signal s) again paired = λ media body read wire found.
    let root : List ℕ = envelope_of (message.Signal s) in
    let whole : package_of media body ≡ Ok (record { root = root; parts = [] }) = rw (wire.media_is, wire.body_is) (envelope_again root) in
    let first = signal_again s again envelope_again media body wire (short_package media body root [] found.0 whole found.1) tt in
    answer_again (message.Signal s) media body first.0 first.1 first.2 (Ok read) found
only_itself (message.Pair p) again paired = λ media body read wire found.
    let root : List ℕ = envelope_of (message.Pair p) in
    let whole : package_of media body ≡ Ok (record { root = root; parts = [] }) = rw (wire.media_is, wire.body_is) (envelope_again root) in
    let first = pair_again p again envelope_again media body wire (short_package media body root [] found.0 whole found.1) tt in
    answer_again (message.Pair p) media body first.0 first.1 first.2 (Ok read) found
