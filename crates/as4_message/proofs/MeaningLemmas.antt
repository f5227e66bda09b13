-- Each input has one meaning, and each refusal has a code of the table.
use Rattle.std.proofs.Common.{◌≡◌, ℕ, List, [], ◌∷◌, Bool, true, false, Option, Some, None, Result, Ok, Err, refl, sym, ap, ◌∙◌, inl, inr, map, cond, subst}
use Rattle.std.specs.Prelude.{IfOk, IsSome, IsTrue}
use Rattle.std.specs.List.{list_any}
use Rattle.as4_envelope.specs.declared.tree.Element.{Element}
use Rattle.as4_values.specs.declared.header.PartInfo.{PartInfo}
use Rattle.as4_values.specs.declared.header.UserHeader.{UserHeader}
use Rattle.std.proofs.lemmas.Simd.{map-map}
use Rattle.as4_values.specs.Pairing.{named_by, are_paired, pair as parts_pair}
use Rattle.as4_values.specs.declared.message.Message.{Message}
use Rattle.as4_values.specs.declared.message.Pair.{Pair}
use Rattle.as4_values.specs.declared.payload.Payload.{Payload}
use Rattle.as4_values.specs.declared.signal.Signal.{Signal}
use Rattle.as4_values.specs.declared.message.Unit.{Unit as MessageUnit}
use Rattle.as4_values.specs.declared.message.Unit.TheVariants as unit
use Rattle.as4_codes.specs.ErrorCodes.{error_row, error_table}
use Rattle.tree_reader.proofs.UniqueLemmas.{one_tree}
use Rattle.header_reader.specs.Envelope.{unit_of}
use Rattle.header_reader.specs.declared.refusal.HeaderRefusal.{HeaderRefusal}
use Rattle.header_reader.specs.declared.refusal.HeaderRefusal.TheVariants as header_refusal
use Rattle.mime_fields.specs.Fields.{PartValue}
use Rattle.mime_package.specs.Reading.{PackageValue, package_of}
use Rattle.mime_package.specs.declared.read.MimeRefusal.{MimeRefusal}
use Rattle.mime_package.specs.declared.read.MimeRefusal.TheVariants as mime
use Rattle.as4_message.specs.Attached.{AttachedValue, is_inside, is_outside, all_attached, attach, paired}
use Rattle.as4_message.specs.Meaning.{ReceivedValue, user, signal, pair, HasItsParts, ArePaired, IsMessage, payload_value, RootMeans, PackageMeans, Means, refused, package_code, unit_or_code, user_with, alone, unit_with, root_with, AnswersBy, received_value}
use Rattle.as4_message.specs.declared.error_codes.TheConstants.{EXTERNAL, INCONSISTENT, INVALID_HEADER, NOT_SUPPORTED}
use Rattle.as4_message.specs.declared.received.Received.{Received}
use Rattle.as4_message.specs.declared.received.Refusal.{Refusal}
use Rattle.as4_message.specs.declared.received.MessageRefusal.{MessageRefusal}
use Rattle.as4_message.specs.declared.received.MessageRefusal.TheVariants.{Refused}

one_root : (root : List ℕ) (one other : Result MessageUnit ℕ) → RootMeans root one → RootMeans root other → one ≡ other
one_root root one other (inl first) (inl second) = first.0 ∙ sym second.0
one_root root one other (inl first) (inr second) = absurd (first.1 second.0 second.1)
one_root root one other (inr first) (inl second) = absurd (second.1 first.0 first.1)
one_root root one other (inr first) (inr second) =
    first.2 ∙ (ap (λ (tree : Element). unit_or_code (unit_of tree)) (one_tree root first.0 second.0 first.1 second.1) ∙ sym second.2)

one_of_package : (read : Result PackageValue MimeRefusal) (one other : Result ReceivedValue Refusal) → PackageMeans read one → PackageMeans read other → one ≡ other
one_of_package (Err refusal) one other first second = first ∙ sym second
one_of_package (Ok whole) one other first second =
    first.2 ∙ (ap (λ (r : Result MessageUnit ℕ). root_with whole.parts r) (one_root whole.root first.0 second.0 first.1 second.1) ∙ sym second.2)

pub one_meaning_of : (media body : List ℕ) (one other : Result ReceivedValue Refusal) → Means media body one → Means media body other → one ≡ other
one_meaning_of media body one other first second = one_of_package (package_of media body) one other first second

some_root : (root : List ℕ) → ((meant : Result MessageUnit ℕ) → RootMeans root meant → ⊥) → ⊥
some_root root none =
    none (Err INVALID_HEADER) (inl (refl, λ tree spelled. none (unit_or_code (unit_of tree)) (inr (tree, spelled, refl))))

some_of_package : (read : Result PackageValue MimeRefusal) → ((meant : Result ReceivedValue Refusal) → PackageMeans read meant → ⊥) → ⊥
some_of_package (Err refusal) none = none (refused (package_code refusal) None) refl
some_of_package (Ok whole) none = some_root whole.root (λ root means. none (root_with whole.parts root) (root, means, refl))

pub some_meaning : (media body : List ℕ) → ((meant : Result ReceivedValue Refusal) → Means media body meant → ⊥) → ⊥
some_meaning media body none = some_of_package (package_of media body) none

-- the table of errors has each code of a refusal

abbrev IsKnown : {X : Type 0} → Result X ℕ → Type 0
IsKnown (Ok x) = Unit {0}
IsKnown (Err code) = IsSome (error_row code)

abbrev IsKnownRefusal : {X : Type 0} → Result X Refusal → Type 0
IsKnownRefusal (Ok x) = Unit {0}
IsKnownRefusal (Err refusal) = IsSome (error_row refusal.code)

known_7 : IsSome (error_row 7)
unfolding error_row error_table
known_7 = refl

known_8 : IsSome (error_row 8)
unfolding error_row error_table
known_8 = refl

known_9 : IsSome (error_row 9)
unfolding error_row error_table
known_9 = refl

known_11 : IsSome (error_row 11)
unfolding error_row error_table
known_11 = refl

known_choice : {X : Type 0} (b : Bool) (one other : Result X ℕ) → IsKnown one → IsKnown other → IsKnown (cond b one other)
known_choice true one other first second = first
known_choice false one other first second = second

known_pairing : (names : Option (List (List ℕ))) (parts : Option (List AttachedValue)) → IsKnown (paired names parts)
known_pairing names None = known_7
known_pairing names (Some parts) = known_choice (are_paired names (map (λ part. part.cid) parts)) (Ok parts) (Err 7) tt known_7

known_attach : (infos : List PartInfo) (parts : List PartValue) → IsKnown (attach infos parts)
unfolding attach
known_attach infos parts =
    known_choice (list_any is_inside infos) (Err 8) _ known_8 (known_choice (list_any is_outside infos) (Err 11) _ known_11 (known_pairing (named_by infos) (all_attached parts)))

known_user : (header : UserHeader) (read : Result (List AttachedValue) ℕ) → IsKnown read → IsKnownRefusal (user_with header read)
known_user header (Ok parts) known = tt
known_user header (Err code) known = known

known_alone : (parts : List PartValue) (id : List ℕ) (received : ReceivedValue) → IsKnownRefusal (alone parts id received)
known_alone [] id received = tt
known_alone (part ∷ parts) id received = known_7

known_unit : (parts : List PartValue) (u : MessageUnit) → IsKnownRefusal (unit_with parts u)
known_unit parts (unit.User header) = known_user header (attach header.parts parts) (known_attach header.parts parts)
known_unit parts (unit.Signal s) = known_alone parts s.id (signal s)
known_unit parts (unit.Pair p) = known_alone parts p.receipt.id (pair p)

known_envelope : (read : Result MessageUnit HeaderRefusal) → IsKnown (unit_or_code read)
known_envelope (Ok u) = tt
known_envelope (Err header_refusal.Invalid) = known_9
known_envelope (Err header_refusal.Unsupported) = known_8
known_envelope (Err header_refusal.NoMemory) = known_9

known_root : (root : List ℕ) (read : Result MessageUnit ℕ) → RootMeans root read → IsKnown read
known_root root read (inl none) = subst (λ (r : Result MessageUnit ℕ). IsKnown r) (sym none.0) known_9
known_root root read (inr tree) = subst (λ (r : Result MessageUnit ℕ). IsKnown r) (sym tree.2) (known_envelope (unit_of tree.0))

known_with : (parts : List PartValue) (read : Result MessageUnit ℕ) → IsKnown read → IsKnownRefusal (root_with parts read)
known_with parts (Ok u) known = known_unit parts u
known_with parts (Err code) known = known

known_package : (refusal : MimeRefusal) → IsSome (error_row (package_code refusal))
known_package mime.BadType = known_7
known_package mime.NoBoundary = known_7
known_package (mime.BadPart index) = known_7
known_package mime.NoRoot = known_7
known_package (mime.Encoding index) = known_8
known_package mime.NoMemory = known_7

known_meaning : (read : Result PackageValue MimeRefusal) (meant : Result ReceivedValue Refusal) → PackageMeans read meant → IsKnownRefusal meant
known_meaning (Err refusal) meant is = subst (λ (r : Result ReceivedValue Refusal). IsKnownRefusal r) (sym is) (known_package refusal)
known_meaning (Ok whole) meant is =
    subst (λ (r : Result ReceivedValue Refusal). IsKnownRefusal r) (sym is.2) (known_with whole.parts is.0 (known_root whole.root is.0 is.1))

pub refusal_is_known : (media body : List ℕ) (refusal : Refusal) → Means media body (Err refusal) → IsSome (error_row refusal.code)
refusal_is_known media body refusal means = known_meaning (package_of media body) (Err refusal) means

pub known_of : (media body : List ℕ) (r : Result Received MessageRefusal) → AnswersBy received_value r (Means media body) → (refusal : Refusal) → r ≡ Err (Refused refusal) → IsSome (error_row refusal.code)
known_of media body r answers refusal is =
    refusal_is_known media body refusal (subst (λ (x : Result Received MessageRefusal). AnswersBy received_value x (Means media body)) is answers)

-- a user message has the parts that its header names

taken : {X : Type 0} (b : Bool) (x y : X) (code : ℕ) → cond b (Ok x) (Err code) ≡ Ok y → (b ≡ true) × (x ≡ y)
taken true x y code e = (refl, cc)
taken false x y code e = absurd cc

not_refused : {X : Type 0} (b : Bool) (code : ℕ) (other : Result X ℕ) (y : X) → cond b (Err code) other ≡ Ok y → other ≡ Ok y
not_refused true code other y e = absurd cc
not_refused false code other y e = e

pairing_holds : (names : Option (List (List ℕ))) (parts : Option (List AttachedValue)) (found : List AttachedValue) → paired names parts ≡ Ok found → are_paired names (map (λ part. part.cid) found) ≡ true
pairing_holds names None found e = absurd cc
pairing_holds names (Some parts) found e =
    let both = taken (are_paired names (map (λ part. part.cid) parts)) parts found INCONSISTENT e in
    subst (λ (l : List AttachedValue). are_paired names (map (λ part. part.cid) l) ≡ true) both.1 both.0

attached_are_paired : (infos : List PartInfo) (parts : List PartValue) (found : List AttachedValue) → attach infos parts ≡ Ok found → are_paired (named_by infos) (map (λ part. part.cid) found) ≡ true
unfolding attach
attached_are_paired infos parts found e =
    pairing_holds (named_by infos) (all_attached parts) found
    (not_refused (list_any is_outside infos) EXTERNAL _ found (not_refused (list_any is_inside infos) NOT_SUPPORTED _ found e))

abbrev IfReceived : Result ReceivedValue Refusal → Type 0
IfReceived (Ok received) = HasItsParts received
IfReceived (Err refusal) = Unit {0}

user_has_parts : (header : UserHeader) (read : Result (List AttachedValue) ℕ) → ((found : List AttachedValue) → read ≡ Ok found → are_paired (named_by header.parts) (map (λ part. part.cid) found) ≡ true) → IfReceived (user_with header read)
user_has_parts header (Ok parts) each = each parts refl
user_has_parts header (Err code) each = tt

signal_has_parts : (parts : List PartValue) (s : Signal) → IfReceived (alone parts s.id (signal s))
signal_has_parts [] s = tt
signal_has_parts (part ∷ parts) s = tt

pair_has_parts : (parts : List PartValue) (p : Pair) → IfReceived (alone parts p.receipt.id (pair p))
pair_has_parts [] p = tt
pair_has_parts (part ∷ parts) p = tt

root_has_parts : (parts : List PartValue) (read : Result MessageUnit ℕ) → IfReceived (root_with parts read)
root_has_parts parts (Ok (unit.User header)) = user_has_parts header (attach header.parts parts) (attached_are_paired header.parts parts)
root_has_parts parts (Ok (unit.Signal s)) = signal_has_parts parts s
root_has_parts parts (Ok (unit.Pair p)) = pair_has_parts parts p
root_has_parts parts (Err code) = tt

package_has_parts : (read : Result PackageValue MimeRefusal) (meant : Result ReceivedValue Refusal) → PackageMeans read meant → IfReceived meant
package_has_parts (Err refusal) meant is = subst IfReceived (sym is) tt
package_has_parts (Ok whole) meant is = subst IfReceived (sym is.2) (root_has_parts whole.parts is.0)

pub parts_of : (media body : List ℕ) (r : Result Received MessageRefusal) → AnswersBy received_value r (Means media body) → IfOk r (λ received. HasItsParts (received_value received))
parts_of media body (Ok received) answers = package_has_parts (package_of media body) (Ok (received_value received)) answers
parts_of media body (Err refusal) answers = tt

ids_of : (payloads : List Payload) → map (λ part. part.cid) (map payload_value payloads) ≡ map (λ payload. payload.cid) payloads
ids_of payloads = map-map (λ part. part.cid) payload_value payloads

-- and so does its copy
pub copy_is_paired : (received : ReceivedValue) (m : Message) → HasItsParts received → IsMessage received m → ArePaired m
unfolding parts_pair
copy_is_paired (user header parts) m has is =
    let ids : map (λ part. part.cid) parts ≡ map (λ payload. payload.cid) is.0 = ap (map (λ part. part.cid)) is.1 ∙ ids_of is.0 in
    subst ArePaired (sym is.2) (subst (λ (l : List (List ℕ)). are_paired (named_by header.parts) l ≡ true) ids has)
copy_is_paired (signal s) m has is = subst ArePaired (sym is) tt
copy_is_paired (pair p) m has is = subst ArePaired (sym is) tt
