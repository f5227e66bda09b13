use Rattle.std.proofs.Common.{◌≡◌, inl, inr, ℕ, ◌+◌, ◌<◌, ◌≤◌, Bool, List, [], ◌∷◌, ◌++◌, Option, Some, None, length, take, drop, refl, sym, ap, subst, ◌∙◌, arith}
use Rattle.std.specs.Prelude.{IfNone}
use Rattle.std.proofs.lemmas.List.{drop_all, take-take}
use Rattle.std.proofs.lemmas.Option.{IfSome_then}
use Rattle.std.proofs.lemmas.Grind.{common_steps}
use Rattle.as4_disk.specs.declared.disk.Disk.{Ghosts as DiskMeaning}
use Rattle.as4_disk.specs.Bytes.{Torn}
use Rattle.as4_disk.specs.Image.{Image}
use Rattle.as4_disk.specs.Leaving.{LeavesOnly, Quiet}
use Rattle.as4_disk.proofs.RunLemmas.{then, weaken}
use Rattle.journal.specs.declared.version.Version.TheVariants.{Two}
use Rattle.journal.specs.Leaf.{front_of, IsNew}
use Rattle.journal.specs.Store.{picked_leaf, KeepsLeaf}
use Rattle.journal.specs.Settled.{IsSettled}
use Rattle.journal.proofs.StoreLemmas.{settled_told, settled_left, settled_within, told_same}
use Rattle.journal.proofs.StartLemmas.{starts, starts_new, new_leaf}
use Rattle.journal.proofs.starting.known.Goals as goal

-- reading leaves the leaf as it was
read_run : {D : Type 0} (M : DiskMeaning D) (old new : D) (is_second : Bool) (leaf : List ℕ) (b : Image) → Quiet M old new → M.seen old ≡ Some b → IsSettled M old is_second leaf → LeavesOnly M old new (KeepsLeaf b)
read_run M old new is_second leaf b quiet told is =
    weaken M old new (M.may_leave old) (KeepsLeaf b)
    (λ image left. inl ((settled_left M old is_second leaf image is left).2 ∙ sym (settled_told M old is_second leaf b is told).2))
    quiet.run

-- and a new leaf stays new while it is written
made_run : {D : Type 0} (M : DiskMeaning D) (old mid new : D) (is_second : Bool) (leaf : List ℕ) (b : Image) → Quiet M old mid → M.seen old ≡ Some b → IsSettled M old is_second leaf → length leaf ≤ 9
    → LeavesOnly M mid new (λ c. Torn 0 9 leaf (picked_leaf c)) → LeavesOnly M old new (KeepsLeaf b)
made_run M old mid new is_second leaf b quiet told is short run =
    let new_before : IsNew (picked_leaf b) = omega (arith, short, ap length (settled_told M old is_second leaf b is told).2) in
    then M old mid new (KeepsLeaf b) (read_run M old mid is_second leaf b quiet told is)
    (weaken M mid new (λ (c : Image). Torn 0 9 leaf (picked_leaf c)) (KeepsLeaf b) (λ image torn. inr (new_before, omega (arith, torn.no_longer, short))) run)

pub returns-in_err-bytes-clause-any_moment : goal.returns-in_err-bytes-clause-any_moment
returns-in_err-bytes-clause-any_moment g c leaf b told is =
    read_run g.D.Disk c.args.disk.now c.read_some.new.disk c.args.is_second leaf b c.read_some.ensures.quiet told is

pub returns-in_err-write_picked-clause-any_moment : goal.returns-in_err-write_picked-clause-any_moment
returns-in_err-write_picked-clause-any_moment g c leaf b told is =
    let short : length (b c.leaf_part.result) < 10 = grind (arith, common_steps) in
    let bytes = (settled_told g.D.Disk c.args.disk.now c.args.is_second leaf b is told).1 in
    made_run g.D.Disk c.args.disk.now c.read_some.new.disk c.write_picked.new.disk c.args.is_second leaf b c.read_some.ensures.quiet told is
    (omega (arith, short, ap length bytes, ap (λ p. length (b p)) c.leaf_part.ensures))
    (c.write_picked.ensures.any_moment leaf (settled_within g.D.Disk c.args.disk.now c.read_some.new.disk c.args.is_second leaf c.read_some.ensures.quiet.same c.read_some.ensures.quiet.within is))

pub returns-in_default-clause-read : goal.returns-in_default-clause-read
returns-in_default-clause-read g c leaf b told is =
    let short : length (b c.leaf_part.result) < 10 = grind (arith, common_steps) in
    let here = settled_told g.D.Disk c.args.disk.now c.args.is_second leaf b is told in
    let short_leaf : length leaf ≤ 9 = omega (arith, short, ap length here.1, ap (λ p. length (b p)) c.leaf_part.ensures) in
    let mid = settled_within g.D.Disk c.args.disk.now c.read_some.new.disk c.args.is_second leaf c.read_some.ensures.quiet.same c.read_some.ensures.quiet.within is in
    let written = c.in_ok-write_picked.ensures.settled [] leaf refl mid in
    let P : List ℕ → Type 0 = IsSettled g.D.Disk c.write_picked.new.disk c.args.is_second in
    let bytes : 65 ∷ 83 ∷ 52 ∷ 74 ∷ 78 ∷ 76 ∷ 50 ∷ 10 ∷ 0 ∷ drop 9 leaf ≡ front_of Two [] ++ 0 ∷ [] = ap (λ (l : List ℕ). 65 ∷ 83 ∷ 52 ∷ 74 ∷ 78 ∷ 76 ∷ 50 ∷ 10 ∷ 0 ∷ l) (drop_all 9 leaf short_leaf) ∙ new_leaf in
    let settled = subst P bytes written in (
      starts_new g.D.Disk c.write_picked.new.disk c.args.is_second (front_of Two [] ++ 0 ∷ []) refl settled,
      λ after told_after. inr (omega (arith, short_leaf, ap length here.2), omega (arith, ap length (sym new_leaf), ap length (settled_told g.D.Disk c.write_picked.new.disk c.args.is_second (front_of Two [] ++ 0 ∷ []) after settled told_after).2)),
    )

pub returns-in_default-clause-quiet : goal.returns-in_default-clause-quiet
returns-in_default-clause-quiet g c leaf b told is long =
    let short : length (b c.leaf_part.result) < 10 = grind (arith, common_steps) in
    let bytes = (settled_told g.D.Disk c.args.disk.now c.args.is_second leaf b is told).1 in
    absurd (long (omega (arith, short, ap length bytes, ap (λ p. length (b p)) c.leaf_part.ensures)))

pub returns-in_default-clause-any_moment : goal.returns-in_default-clause-any_moment
returns-in_default-clause-any_moment g c leaf b told is =
    let short : length (b c.leaf_part.result) < 10 = grind (arith, common_steps) in
    let bytes = (settled_told g.D.Disk c.args.disk.now c.args.is_second leaf b is told).1 in
    made_run g.D.Disk c.args.disk.now c.read_some.new.disk c.write_picked.new.disk c.args.is_second leaf b c.read_some.ensures.quiet told is
    (omega (arith, short, ap length bytes, ap (λ p. length (b p)) c.leaf_part.ensures))
    (c.write_picked.ensures.any_moment leaf (settled_within g.D.Disk c.args.disk.now c.read_some.new.disk c.args.is_second leaf c.read_some.ensures.quiet.same c.read_some.ensures.quiet.within is))

pub returns-clause-any_moment : goal.returns-clause-any_moment
returns-clause-any_moment g c leaf b told is =
    read_run g.D.Disk c.args.disk.now c.read_some.new.disk c.args.is_second leaf b c.read_some.ensures.quiet told is

-- the ten bytes
ten : (g : _) (c : goal.After-drop g) (leaf : List ℕ) (b : Image) → g.D.Disk.seen c.args.disk.now ≡ Some b → IsSettled g.D.Disk c.args.disk.now c.args.is_second leaf → (9 < length leaf) × (take 8 c.deref.result.now ≡ take 8 leaf)
ten g c leaf b told is =
    let here : b c.leaf_part.result ≡ leaf = ap b c.leaf_part.ensures ∙ (settled_told g.D.Disk c.args.disk.now c.args.is_second leaf b is told).1 in
    let long : 0 + 10 ≤ length (b c.leaf_part.result) = grind (arith, common_steps) in
    let are : c.in-Some.bytes.items ≡ take 10 (drop 0 (b c.leaf_part.result)) = grind (arith, common_steps) in (
      omega (arith, long, ap length here),
      ap (λ (l : List ℕ). take 8 l) (c.deref.ensures.value ∙ are ∙ ap (λ (l : List ℕ). take 10 l) here) ∙ take-take 8 10 leaf (omega arith),
    )

pub returns-clause-read : goal.returns-clause-read
returns-clause-read g c =
    IfSome_then c.version_in-version.result c.version_in-version.ensures.some
    (λ version magic leaf b told is.
    let both = ten g c leaf b told is in
    let settled = settled_within g.D.Disk c.args.disk.now c.read_some.new.disk c.args.is_second leaf c.read_some.ensures.quiet.same c.read_some.ensures.quiet.within is in (
      starts g.D.Disk c.read_some.new.disk c.args.is_second version leaf (sym both.1 ∙ magic) both.0 settled,
      λ after told_after. inl (ap picked_leaf (told_same after b told_after (c.read_some.ensures.quiet.same ∙ told))),
    ))

pub returns-clause-none : goal.returns-clause-none
returns-clause-none g c =
    none_then c.version_in-version.result _ _ c.version_in-version.ensures.none
    (λ other leaf is. (let both = ten g c leaf is.image is.told is in (both.0, inl (refl, λ version magic. other version (both.1 ∙ magic)))))
  where
    none_then : {A : Type 0} (o : Option A) (P Q : Type 0) → IfNone o P → (P → Q) → IfNone o Q
    none_then None P Q holds implies = implies holds
    none_then (Some x) P Q holds implies = tt
