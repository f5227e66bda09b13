-- What is met at the gate behind the records that were read.
use Rattle.std.proofs.Common.{◌≡◌, ◌≢◌, inl, ℕ, ◌<◌, Bool, List, [], ◌∷◌, ◌++◌, Option, Some, length, drop, get_or, sym, ◌∙◌, ap, subst, arith}
use Rattle.std.proofs.lemmas.List.{drop_at}
use Rattle.as4_disk.specs.declared.disk.Disk.{Ghosts as DiskMeaning}
use Rattle.as4_disk.specs.Bytes.{Torn}
use Rattle.as4_disk.specs.Image.{Image}
use Rattle.as4_flow.specs.Flow.{Told}
use Rattle.as4_disk.specs.declared.part.Part.{Part}
use Rattle.as4_disk.specs.Leaving.{LeavesOnly, Quiet}
use Rattle.as4_disk.proofs.ByteLemmas.{torn_byte}
use Rattle.as4_disk.proofs.RunLemmas.{then, weaken}
use Rattle.journal.specs.declared.version.Version.{Version}
use Rattle.journal.specs.declared.reading.Next.{Next}
use Rattle.journal.specs.declared.reading.Next.TheVariants.{Record, Closed, Broken}
use Rattle.journal.specs.Leaf.{limit_of, front_of}
use Rattle.journal.specs.Reading.{IsNext, IsAhead, HasNoBody, gate_behind}
use Rattle.journal.specs.Store.{leaf_of, picked_leaf, Reopens}
use Rattle.journal.specs.Settled.{IsSettled}
use Rattle.journal.specs.Passing.{Passes}
use Rattle.journal.proofs.LeafLemmas.{length-front_more}
use Rattle.journal.proofs.StoreLemmas.{opened, closing_reopens, settled_left, settled_told, settled_within}
use Rattle.journal.proofs.JournalLaws.{keeps_reopens}

module _ (version : Version) (bodies : List (List ℕ)) (byte : ℕ) (rest : List ℕ) (gate : ℕ) (place : gate ≡ length (front_of version bodies)) where
  gate_here : drop gate (front_of version bodies ++ byte ∷ rest) ≡ byte ∷ rest
  gate_here = drop_at (front_of version bodies) (byte ∷ rest) gate (sym place)

  -- the byte and what is behind it
  same_gate : (met : ℕ) (behind : List ℕ) → drop gate (front_of version bodies ++ byte ∷ rest) ≡ met ∷ behind → (byte ≡ met) × (rest ≡ behind)
  same_gate met behind is =
      let same : byte ∷ rest ≡ met ∷ behind = sym gate_here ∙ is in
      (ap (λ (l : List ℕ). get_or l 0 0) same, ap (λ (l : List ℕ). drop 1 l) same)

  passes_record : (body : List ℕ) (ahead : Option (List ℕ)) → IsNext version gate (front_of version bodies ++ byte ∷ rest) (Record body ahead)
      → (next : ℕ) × (after : List ℕ) × (front_of version bodies ++ byte ∷ rest ≡ front_of version (bodies ++ body ∷ []) ++ next ∷ after) × (length (front_of version (bodies ++ body ∷ [])) < limit_of version) × IsAhead version (next ∷ after) ahead
  passes_record body ahead ((behind, is, whole), there) =
      let same = same_gate 1 behind is in
      let leaf_is : front_of version bodies ++ byte ∷ rest ≡ front_of version (bodies ++ body ∷ []) ++ whole.1 ∷ whole.2 =
      ap (λ (n : ℕ). front_of version bodies ++ n ∷ rest) same.0 ∙ ap (λ (l : List ℕ). front_of version bodies ++ 1 ∷ l) (same.1 ∙ whole.3) ∙ opened version bodies body whole.2 whole.1 in
      let P : List ℕ → Type 0 = λ l. IsAhead version l ahead in (
        whole.1,
        whole.2,
        leaf_is,
        omega (arith, whole.0, place, length-front_more version bodies body),
        subst P
            (ap (λ (l : List ℕ). drop (gate_behind version gate body) l) leaf_is
            ∙ drop_at (front_of version (bodies ++ body ∷ [])) (whole.1 ∷ whole.2) (gate_behind version gate body) (omega (arith, place, length-front_more version bodies body)))
            there,
      )

  passes_closed : (met : ℕ) → IsNext version gate (front_of version bodies ++ byte ∷ rest) (Closed met) → (byte ≡ met) × (byte ≢ 1)
  passes_closed met (closed, behind, is) =
      let same = same_gate met behind is in
      (same.0, λ is_open. closed (sym same.0 ∙ is_open))

  passes_broken : IsNext version gate (front_of version bodies ++ byte ∷ rest) Broken → (byte ≡ 1) × HasNoBody version (length (front_of version bodies)) rest
  passes_broken is =
      let P : ℕ → Type 0 = λ n. HasNoBody version n rest in
      let here = is byte rest gate_here in
      (here.0, subst P place here.1)

  -- the gate is being closed
  torn_gate : (before after : Image) → length (front_of version bodies) < limit_of version → byte ≢ 1 → byte ≢ 0 → picked_leaf before ≡ front_of version bodies ++ byte ∷ rest
      → Torn gate 1 (front_of version bodies ++ byte ∷ rest) (picked_leaf after) → Reopens before after
  torn_gate before after within closed not_zero bytes torn =
      let P : ℕ → Type 0 = λ n. Torn n 1 (front_of version bodies ++ byte ∷ rest) (picked_leaf after) in
      let any = torn_byte (front_of version bodies) byte rest (picked_leaf after) (subst P place torn) in
      closing_reopens version bodies byte any.0 rest before after within closed not_zero bytes any.1

-- a read that wrote nothing, where the leaf was settled: the records, a gate and what stands behind it
module _ {D : Type 0} (M : DiskMeaning D) (old mid : D) (quiet : Quiet M old mid) (is_second : Bool) (version : Version) (bodies : List (List ℕ)) (byte : ℕ) (rest : List ℕ) (gate : ℕ) (place : gate ≡ length (front_of version bodies)) (is : IsSettled M old is_second (front_of version bodies ++ byte ∷ rest)) where
  abbrev leaf : List ℕ
  leaf = front_of version bodies ++ byte ∷ rest

  pub still : IsSettled M mid is_second leaf
  still = settled_within M old mid is_second leaf quiet.same quiet.within is

  pub read_run : (b : Image) → M.seen old ≡ Some b → LeavesOnly M old mid (Reopens b)
  read_run b told =
      weaken M old mid (M.may_leave old) (Reopens b)
      (λ image left. keeps_reopens b image (inl ((settled_left M old is_second leaf image is left).2 ∙ sym (settled_told M old is_second leaf b is told).2)))
      quiet.run

  module _ (part : Part) (picked : part ≡ leaf_of is_second) (ahead : Option (List ℕ)) (is_ahead : IsAhead version (byte ∷ rest) ahead) (found : Next) (read : Told (M.seen old) (λ b. IsAhead version (drop gate (b part)) ahead → IsNext version gate (b part) found)) where
    of_leaf : (next : Next) → found ≡ next → IsNext version gate leaf next
    of_leaf next same =
        let P : List ℕ → Type 0 = λ l. IsAhead version (drop gate l) ahead → IsNext version gate l found in
        let Q : Next → Type 0 = IsNext version gate leaf in
        let R : List ℕ → Type 0 = λ l. IsAhead version l ahead in
        subst Q same (subst P (ap is.image picked ∙ is.bytes) (read is.image is.told) (subst R (sym (gate_here version bodies byte rest gate place)) is_ahead))

    pub read_record : (body : List ℕ) (more : Option (List ℕ)) → found ≡ Record body more → Passes M mid is_second version bodies byte rest (Record body more)
    read_record body more same =
        let behind = passes_record version bodies byte rest gate place body more (of_leaf (Record body more) same) in
        let P : List ℕ → Type 0 = IsSettled M mid is_second in
        (behind.0, behind.1, subst P behind.2 still, behind.3, behind.4)

    pub read_broken : found ≡ Broken → Passes M mid is_second version bodies byte rest Broken
    read_broken same = passes_broken version bodies byte rest gate place (of_leaf Broken same)

    pub read_closed : (met : ℕ) → found ≡ Closed met → (byte ≡ met) × (byte ≢ 1)
    read_closed met same = passes_closed version bodies byte rest gate place met (of_leaf (Closed met) same)

    -- and then the gate is closed
    pub closing_run : (new : D) (met : ℕ) → found ≡ Closed met → met ≢ 0 → length (front_of version bodies) < limit_of version
        → ((l : List ℕ) → IsSettled M mid is_second l → LeavesOnly M mid new (λ c. Torn gate 1 l (picked_leaf c)))
        → (b : Image) → M.seen old ≡ Some b → LeavesOnly M old new (Reopens b)
    closing_run new met same not_zero within run b told =
        let closed = read_closed met same in
        then M old mid new (Reopens b) (read_run b told)
        (weaken M mid new (λ (image : Image). Torn gate 1 leaf (picked_leaf image)) (Reopens b)
        (λ image torn. torn_gate version bodies byte rest gate place b image within closed.1 (λ zero_is. not_zero (sym closed.0 ∙ zero_is)) (settled_told M old is_second leaf b is told).2 torn)
        (run leaf still))
