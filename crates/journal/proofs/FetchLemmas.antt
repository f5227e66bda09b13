-- A record of a leaf, by the place of its gate.
use Rattle.std.proofs.Common.{◌≡◌, ℕ, ◌<◌, List, [], ◌∷◌, ◌++◌, length, drop, get_or, refl, sym, ◌∙◌, ap, subst, arith, append_assoc, length-append}
use Rattle.std.specs.Prelude.{flat_map}
use Rattle.std.proofs.lemmas.List.{drop_at}
use Rattle.std.proofs.lemmas.List.Concat.{flat_map-append}
use Rattle.as4_flow.specs.Flow.{Told}
use Rattle.as4_disk.specs.declared.disk.Disk.{Ghosts as DiskMeaning}
use Rattle.as4_disk.specs.declared.part.Part.{Part}
use Rattle.journal.specs.declared.version.Version.{Version}
use Rattle.journal.specs.Leaf.{magic_of, limit_of, length_bytes, record_of, front_of}
use Rattle.journal.specs.declared.reading.Next.{Next}
use Rattle.journal.specs.declared.reading.Next.TheVariants.{Record, Closed, Broken}
use Rattle.journal.specs.Reading.{gate_behind, IsBodyAt, HasNoBody, IsNext}
use Rattle.journal.specs.declared.journal.Journal.{Journal}
use Rattle.journal.specs.Store.{leaf_of}
use Rattle.journal.specs.State.{HasRecords}
use Rattle.journal.proofs.LeafLemmas.{split_same, length_head, limit_fits, length-record, record_at}

-- the records before, and then the others
pub front_split : (version : Version) (before after : List (List ℕ)) → front_of version (before ++ after) ≡ front_of version before ++ flat_map (record_of version) after
unfolding front_of
front_split version before after =
    ap (λ (l : List ℕ). magic_of version ++ l) (flat_map-append (record_of version) before after)
    ∙ sym (append_assoc (magic_of version) (flat_map (record_of version) before) (flat_map (record_of version) after))

-- a record with this body was read
abbrev pub IsRecordOf : List ℕ → Next → Type 0
IsRecordOf body (Record read ahead) = read ≡ body
IsRecordOf body (Closed byte) = ⊥
IsRecordOf body Broken = ⊥

module _ (version : Version) (before after : List (List ℕ)) (body rest : List ℕ) (gate : ℕ) (place : gate ≡ length (front_of version before)) where
  abbrev pub leaf : List ℕ
  leaf = front_of version (before ++ body ∷ after) ++ 0 ∷ rest

  -- what stands behind the record, and behind its gate
  abbrev behind : List ℕ
  behind = flat_map (record_of version) after ++ 0 ∷ rest

  abbrev from : List ℕ
  from = length_bytes version (length body) ++ body ++ behind

  -- the record stands at its gate
  here : drop gate leaf ≡ 1 ∷ from
  here =
      ap (λ (l : List ℕ). drop gate l)
      (ap (λ (l : List ℕ). l ++ 0 ∷ rest) (front_split version before (body ∷ after))
      ∙ append_assoc (front_of version before) (record_of version body ++ flat_map (record_of version) after) (0 ∷ rest)
      ∙ ap (λ (l : List ℕ). front_of version before ++ l) (append_assoc (record_of version body) (flat_map (record_of version) after) (0 ∷ rest) ∙ record_at version body behind))
      ∙ drop_at (front_of version before) (1 ∷ from) gate (sym place)

  pub within_behind : length (front_of version (before ++ body ∷ after)) < limit_of version → gate_behind version gate body < limit_of version
  within_behind within =
      omega (arith, within, place, ap length (front_split version before (body ∷ after)), length-append (front_of version before) (record_of version body ++ flat_map (record_of version) after), length-append (record_of version body) (flat_map (record_of version) after), length-record version body)

  -- what was read there is its body
  same_body : (read : List ℕ) → length (front_of version (before ++ body ∷ after)) < limit_of version → IsBodyAt version gate from read → read ≡ body
  same_body read within is =
      let same : length_bytes version (length read) ++ (read ++ is.1 ∷ is.2) ≡ length_bytes version (length body) ++ (body ++ behind) =
      sym (append_assoc (length_bytes version (length read)) read (is.1 ∷ is.2)) ∙ sym is.3 ∙ append_assoc (length_bytes version (length body)) body behind in
      let bound = within_behind within in
      let heads = length_head version (length read) (length body) (read ++ is.1 ∷ is.2) (body ++ behind) (limit_fits version _ (omega (arith, is.0))) (limit_fits version _ (omega (arith, bound))) same in
      (split_same read body (is.1 ∷ is.2) behind heads.0 heads.1).0

  -- and something was read
  has_body : length (front_of version (before ++ body ∷ after)) < limit_of version → HasNoBody version gate from → ⊥
  has_body within none =
      let bound = within_behind within in
      let next = split behind (omega (arith, length-append (flat_map (record_of version) after) (0 ∷ rest))) in
      omega (arith, bound, none body next.1 next.0 (ap (λ (l : List ℕ). length_bytes version (length body) ++ body ++ l) next.2))
    where
      split : (l : List ℕ) → 0 < length l → (n : ℕ) × (others : List ℕ) × (l ≡ n ∷ others)
      split [] some = absurd (omega arith)
      split (n ∷ others) some = (n, others, refl)

  -- it is the record that is read there
  reads_record : length (front_of version (before ++ body ∷ after)) < limit_of version → (next : Next) → IsNext version gate leaf next → IsRecordOf body next
  reads_record within (Record read ahead) (is, there) =
      let P : List ℕ → Type 0 = λ l. IsBodyAt version gate l read in
      same_body read within (subst P (ap (λ (l : List ℕ). drop 1 l) (sym is.1 ∙ here)) is.2)
  reads_record within (Closed byte) is = is.0 (ap (λ (l : List ℕ). get_or l 0 0) (sym is.2 ∙ here))
  reads_record within Broken is = has_body within (is 1 from here).1

-- over the leaf of a journal with these records
pub fetched : {D : Type 0} (M : DiskMeaning D) (journal : Journal D) (part : Part) (gate : ℕ) (next : Next) (before after : List (List ℕ)) (body : List ℕ) → HasRecords M journal (before ++ body ∷ after) → gate ≡ length (front_of journal.version before)
    → part ≡ leaf_of journal.is_second → Told (M.seen journal.disk) (λ b. IsNext journal.version gate (b part) next) → IsRecordOf body next
fetched M journal part gate next before after body has place picked read =
    let P : List ℕ → Type 0 = λ l. IsNext journal.version gate l next in
    reads_record journal.version before after body has.rest gate place has.within next
    (subst P (ap has.settled.image picked ∙ has.settled.bytes) (read has.settled.image has.settled.told))
