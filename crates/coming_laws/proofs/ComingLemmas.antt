-- A user message that is read is deliverable.
use Rattle.std.proofs.Common.{◌≡◌, ℕ, ◌+◌, ◌*◌, ◌≤◌, Bool, true, false, cond, List, [], ◌∷◌, Option, Some, None, Result, Ok, Err, length, length-append, map, arith, inl, inr, refl, sym, ap, subst}
use Rattle.std.specs.List.{sum_by, list_any}
use Rattle.std.proofs.lemmas.Bool.{and_from}
use Rattle.std.proofs.lemmas.Bool.Decides.{nat_tests}
use Rattle.std.proofs.lemmas.List.{length-map}
use Rattle.std.proofs.lemmas.List.Sums.{sum_by-cons}
use Rattle.as4_effects.specs.Bodies.{list_body, header_body, payload_body}
use Rattle.as4_effects.specs.Sound.{delivered_body, fits_an_effect}
use Rattle.as4_envelope.specs.declared.tree.Element.{Element}
use Rattle.as4_http.specs.Limits.{the_limits}
use Rattle.as4_message.proofs.MeaningLemmas.{copy_is_paired}
use Rattle.as4_message.specs.Attached.{AttachedValue, attached, all_attached, attach, paired, is_inside, is_outside}
use Rattle.as4_message.specs.Meaning.{ReceivedValue, user, signal, pair, Means, PackageMeans, RootMeans, IsMessage, payload_value, unit_or_code, user_with, alone, root_with}
use Rattle.as4_values.proofs.PayloadLemmas.{media_limited}
use Rattle.as4_values.specs.Pairing.{named_by, are_paired}
use Rattle.as4_values.specs.declared.header.PartInfo.{PartInfo}
use Rattle.as4_values.specs.declared.header.UserHeader.{UserHeader}
use Rattle.as4_values.specs.declared.message.Message.{Message}
use Rattle.as4_values.specs.declared.message.Message.TheVariants as message
use Rattle.as4_values.specs.declared.message.Unit.{Unit as MessageUnit}
use Rattle.as4_values.specs.declared.message.Unit.TheVariants as unit
use Rattle.as4_values.specs.declared.payload.Payload.{Payload}
use Rattle.byte_forms.proofs.CutLemmas.{bind_some}
use Rattle.exchange_model.specs.Coming.{is_deliverable, may_come}
use Rattle.exchange_model.specs.declared.what.What.TheVariants.{Came}
use Rattle.header_reader.specs.Envelope.{unit_of}
use Rattle.header_reader.specs.declared.refusal.HeaderRefusal.{HeaderRefusal}
use Rattle.mime_fields.specs.Fields.{PartValue}
use Rattle.mime_package.specs.Reading.{PackageValue, package_of, max_parts}
use Rattle.mime_package.specs.declared.read.MimeRefusal.{MimeRefusal}
use Rattle.tree_reader.specs.Documents.{IsDocument}
use Rattle.coming_laws.proofs.ChoiceLemmas.{either, applied}
use Rattle.coming_laws.proofs.ElementSizes.{text_length, list_length}
use Rattle.coming_laws.proofs.PackageSizes.{AreWithin, contents, package_within}
use Rattle.coming_laws.proofs.PartSizes.{content_size}
use Rattle.coming_laws.proofs.SumLemmas.{sum_by-map}
use Rattle.coming_laws.proofs.TreeSizes.{document_size}
use Rattle.coming_laws.proofs.UnitSizes.{unit_within}
use Rattle.coming_laws.proofs.UserSizes.{user_size}

-- the parts that a header refers to

abbrev attached_size : AttachedValue → ℕ
attached_size part = length part.content

attached_same : (part : PartValue) (found : AttachedValue) → attached part ≡ Some found → attached_size found ≡ content_size part
attached_same part found e = applied _ part.id found e λ cid here same. sym (ap attached_size same)

all_same : (parts : List PartValue) (found : List AttachedValue) → all_attached parts ≡ Some found → (length found ≡ length parts) × (sum_by attached_size found ≡ contents parts)
unfolding all_attached
all_same [] found e = let none : [] ≡ found = cc in rw (← none) (refl, refl)
all_same (part ∷ parts) found e =
    bind_some (attached part) _ found e λ first here rest.
    applied (λ others. first ∷ others) (all_attached parts) found rest λ others later same.
    let inner = all_same parts others later in
    rw (← same) (
      omega (arith, inner.0),
      omega (arith, inner.1, attached_same part first here, sum_by-cons attached_size first others, sum_by-cons content_size part parts),
    )

-- the parts with their names, if they pair
record Pairs (infos : List PartInfo) (parts : List PartValue) (found : List AttachedValue) : Type 0 where
  all : all_attached parts ≡ Some found
  named : are_paired (named_by infos) (map (λ part. part.cid) found) ≡ true

-- what a test lets through
passed : {X : Type 0} (test : Bool) (x y : X) (code : ℕ) → cond test (Ok x) (Err code) ≡ Ok y → (test ≡ true) × (x ≡ y)
passed true x y code e = (refl, cc)
passed false x y code e = absurd cc

paired_parts : (names : Option (List (List ℕ))) (all : Option (List AttachedValue)) (found : List AttachedValue) → paired names all ≡ Ok found
    → (all ≡ Some found) × (are_paired names (map (λ part. part.cid) found) ≡ true)
paired_parts names None found e = absurd cc
paired_parts names (Some parts) found e =
    let both = passed (are_paired names (map (λ part. part.cid) parts)) parts found _ e in rw (← both.1) (refl, both.0)

attached_parts : (infos : List PartInfo) (parts : List PartValue) (found : List AttachedValue) → attach infos parts ≡ Ok found → Pairs infos parts found
unfolding attach
attached_parts infos parts found e =
    either (list_any is_inside infos) _ _ (Ok found) e (λ inside. absurd cc) (λ not_inside.
    either (list_any is_outside infos) _ _ (Ok found) not_inside (λ outside. absurd cc) (λ read.
    let both = paired_parts (named_by infos) (all_attached parts) found read in record { all = both.0; named = both.1 }))

-- where a user message is read from

record ReadFrom (whole : PackageValue) (header : UserHeader) (found : List AttachedValue) : Type 0 where
  tree : Element
  document : IsDocument whole.root tree
  meant : unit_of tree ≡ Ok (unit.User header)
  parts : attach header.parts whole.parts ≡ Ok found

root_of_user : (root : List ℕ) (h : UserHeader) → RootMeans root (Ok (unit.User h)) → (tree : Element) × IsDocument root tree × (unit_of tree ≡ Ok (unit.User h))
root_of_user root h (inl none) = let other = none.0 in absurd cc
root_of_user root h (inr read) = (read.0, read.1, unit_read (unit_of read.0) (sym read.2))
  where
    unit_read : (r : Result MessageUnit HeaderRefusal) → unit_or_code r ≡ Ok (unit.User h) → r ≡ Ok (unit.User h)
    unit_read (Ok u) e = let same : u ≡ unit.User h = cc in ap Ok same
    unit_read (Err refusal) e = absurd cc

user_parts : (h header : UserHeader) (read : Result (List AttachedValue) ℕ) (found : List AttachedValue) → user_with h read ≡ Ok (user header found) → (h ≡ header) × (read ≡ Ok found)
user_parts h header (Ok parts) found e = let one : h ≡ header = cc in let other : parts ≡ found = cc in (one, ap Ok other)
user_parts h header (Err code) found e = absurd cc

not_alone : {P : Type 0} (parts : List PartValue) (id : List ℕ) (received : ReceivedValue) (header : UserHeader) (found : List AttachedValue)
    → (received ≡ user header found → P) → alone parts id received ≡ Ok (user header found) → P
not_alone [] id received header found none e = none (cc)
not_alone (part ∷ parts) id received header found none e = absurd cc

root_read : (whole : PackageValue) (root : Result MessageUnit ℕ) (header : UserHeader) (found : List AttachedValue) → RootMeans whole.root root
    → root_with whole.parts root ≡ Ok (user header found) → ReadFrom whole header found
root_read whole (Err code) header found means e = absurd cc
root_read whole (Ok (unit.User h)) header found means e =
    let same = user_parts h header (attach h.parts whole.parts) found e in
    let read = root_of_user whole.root h means in
    subst (λ (x : UserHeader). ReadFrom whole x found) same.0 (record { tree = read.0; document = read.1; meant = read.2; parts = same.1 })
root_read whole (Ok (unit.Signal s)) header found means e = not_alone whole.parts s.id (signal s) header found (λ other. absurd cc) e
root_read whole (Ok (unit.Pair p)) header found means e = not_alone whole.parts p.receipt.id (pair p) header found (λ other. absurd cc) e

-- the bytes of a delivery

payload_length : (p : Payload) → length (payload_body p) ≤ length p.content + 1300
unfolding payload_body
payload_length p =
    let cid : length p.cid ≤ 255 = p.named.limited in
    let media : length p.media ≤ 1024 = media_limited p.media p.typed in
    simp length-append (omega (arith, text_length p.cid, text_length p.media, text_length p.content))

payloads_length : (payloads : List Payload) → sum_by (λ p. length (payload_body p)) payloads ≤ sum_by (λ p. length p.content) payloads + length payloads * 1300
payloads_length [] = omega arith
payloads_length (p ∷ payloads) =
    omega (
      arith,
      payload_length p,
      payloads_length payloads,
      sum_by-cons (λ (q : Payload). length (payload_body q)) p payloads,
      sum_by-cons (λ (q : Payload). length q.content) p payloads,
    )

-- the header is short, since its texts are part of a document
header_short : (whole : PackageValue) (header : UserHeader) (found : List AttachedValue) → ReadFrom whole header found → length (header_body header) ≤ 26165824
header_short whole header found from =
    let w = unit_within from.tree header from.meant in
    omega (arith, user_size w.inner header w.read, w.smaller, document_size whole.root from.tree from.document)

delivery_fits : (whole : PackageValue) (header : UserHeader) (payloads : List Payload) (most : ℕ) → ReadFrom whole header (map payload_value payloads) → AreWithin max_parts most whole.parts
    → most ≤ the_limits.body → fits_an_effect (delivered_body header payloads) ≡ true
unfolding fits_an_effect
delivery_fits whole header payloads most from within limited =
    let same = all_same whole.parts (map payload_value payloads) (attached_parts header.parts whole.parts (map payload_value payloads) from.parts).all in
    let count : length payloads ≤ 256 = omega (arith, same.0, within.few, length-map payloads payload_value) in
    let content : sum_by (λ (p : Payload). length p.content) payloads ≤ most = omega (arith, same.1, within.short, sum_by-map payload_value attached_size payloads) in
    let len : length (delivered_body header payloads) ≤ 536870910 =
    omega (
      arith,
      length-append (header_body header) (list_body payload_body payloads),
      header_short whole header (map payload_value payloads) from,
      list_length payload_body payloads,
      payloads_length payloads,
    ) in
    grind (arith, nat_tests)

user_deliverable : (media body : List ℕ) (header : UserHeader) (payloads : List Payload) → length body ≤ the_limits.body → Means media body (Ok (user header (map payload_value payloads)))
    → is_deliverable header payloads ≡ true
unfolding is_deliverable
user_deliverable media body header payloads limited means = by (package_of media body) refl means
  where
    by : (read : Result PackageValue MimeRefusal) → package_of media body ≡ read → PackageMeans read (Ok (user header (map payload_value payloads))) → is_deliverable header payloads ≡ true
    by (Err refusal) is means = absurd cc
    by (Ok whole) is means =
        let from = root_read whole means.0 header (map payload_value payloads) means.1 (sym means.2) in
        let pairs = (attached_parts header.parts whole.parts (map payload_value payloads) from.parts).named in
        and_from _ _ (copy_is_paired (user header (map payload_value payloads)) (message.User header payloads) pairs (payloads, refl, refl))
        (delivery_fits whole header payloads (length body) from (package_within media body whole is) limited)

-- and any other message may come
pub message_may_come : (media body : List ℕ) (received : ReceivedValue) (m : Message) → length body ≤ the_limits.body → Means media body (Ok received) → IsMessage received m → may_come (Came m) ≡ true
unfolding may_come
message_may_come media body (user header parts) m limited means is =
    rw is.2 (user_deliverable media body header is.0 limited (subst (λ (l : List AttachedValue). Means media body (Ok (user header l))) is.1 means))
message_may_come media body (signal s) m limited means is = rw is refl
message_may_come media body (pair p) m limited means is = rw is refl
