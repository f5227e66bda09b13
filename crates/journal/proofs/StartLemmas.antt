-- How a journal begins: a leaf that is new, and one that has a magic.
use Rattle.std.proofs.Common.{◌≡◌, ℕ, ◌<◌, Bool, List, [], ◌∷◌, ◌++◌, length, take, drop, refl, sym, ◌∙◌, ap, subst, arith, length-drop, take-append-drop}
use Rattle.as4_disk.specs.declared.disk.Disk.{Ghosts as DiskMeaning}
use Rattle.journal.specs.declared.version.Version.{Version}
use Rattle.journal.specs.declared.version.Version.TheVariants.{Two}
use Rattle.journal.specs.Leaf.{magic_of, front_of}
use Rattle.journal.specs.Settled.{IsSettled, IsStart}
use Rattle.journal.proofs.LeafLemmas.{front_none}

-- the bytes of a new leaf
pub new_leaf : 65 ∷ 83 ∷ 52 ∷ 74 ∷ 78 ∷ 76 ∷ 50 ∷ 10 ∷ 0 ∷ [] ≡ front_of Two [] ++ 0 ∷ []
unfolding magic_of
new_leaf = ap (λ (l : List ℕ). l ++ 0 ∷ []) (sym (front_none Two))

-- a leaf of more than nine bytes that begins with a magic
pub has_gate : (version : Version) (leaf : List ℕ) → take 8 leaf ≡ magic_of version → 9 < length leaf → (next : ℕ) × (rest : List ℕ) × (leaf ≡ front_of version [] ++ next ∷ rest)
has_gate version leaf magic long =
    split (drop 8 leaf) (omega (arith, length-drop 8 leaf)) (sym (take-append-drop 8 leaf) ∙ ap (λ (l : List ℕ). l ++ drop 8 leaf) (magic ∙ sym (front_none version)))
  where
    split : (l : List ℕ) → 0 < length l → leaf ≡ front_of version [] ++ l → (next : ℕ) × (rest : List ℕ) × (leaf ≡ front_of version [] ++ next ∷ rest)
    split [] none is = absurd (omega arith)
    split (next ∷ rest) some is = (next, rest, is)

module _ {D : Type 0} (M : DiskMeaning D) where
  pub starts : (disk : D) (is_second : Bool) (version : Version) (leaf : List ℕ) → take 8 leaf ≡ magic_of version → 9 < length leaf → IsSettled M disk is_second leaf → IsStart M disk is_second version
  starts disk is_second version leaf magic long is =
      let gate = has_gate version leaf magic long in
      let P : List ℕ → Type 0 = IsSettled M disk is_second in
      record { next = gate.0; rest = gate.1; settled = subst P gate.2 is; made = λ is_open. omega (arith, long, ap length gate.2); new = λ short. absurd (omega (arith, long, short, ap length gate.2)) }

  pub starts_new : (disk : D) (is_second : Bool) (bytes : List ℕ) → bytes ≡ front_of Two [] ++ 0 ∷ [] → IsSettled M disk is_second bytes → IsStart M disk is_second Two
  starts_new disk is_second bytes are is =
      let P : List ℕ → Type 0 = IsSettled M disk is_second in
      record { next = 0; rest = []; settled = subst P are is; made = λ is_open. absurd (omega (arith, is_open)); new = λ short. refl }
