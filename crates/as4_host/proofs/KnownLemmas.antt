-- Lemmas on a host's names, each of which has its rows, and on its files and guests by name.
use Rattle.std.proofs.Common.{◌≡◌, ℕ, ◌+◌, ◌<◌, List, [], length, get_or, take, Option, None, Some, refl, sym, ◌∙◌, ap, inl, inr, arith}
use Rattle.std.specs.Prelude.{◌⊎◌, IsSome, unwrap_or, option_and_then}
use Rattle.std.proofs.lemmas.List.Elements.{All-more}
use Rattle.as4_host.specs.declared.table.Row.{Row}
use Rattle.as4_disk.specs.declared.file.Paths.{Paths}
use Rattle.as4_disk.specs.declared.part.Part.{Part}
use Rattle.as4_disk.specs.declared.part.Part.TheVariants.{Selector, Leaf0, Leaf1}
use Rattle.as4_host.specs.Calls.{names_of}
use Rattle.as4_host.specs.Files.{made, path_of}
use Rattle.as4_host.specs.Rows.{value_at, GetsRow}
use Rattle.as4_host.specs.HostInMemory.{AreKnown, file_at, guests_at}
use Rattle.as4_host.proofs.RowLemmas.{gets_keeps}

abbrev pub HasRows : List (Row (Option (List ℕ))) → List (Row (List (List ℕ))) → List ℕ → Type 0
HasRows files doors name = IsSome (value_at files name) × IsSome (value_at doors name)

-- where no name loses its rows, names that had theirs still have them
pub known_still : (names : List (List ℕ)) (files later : List (Row (Option (List ℕ)))) (doors after : List (Row (List (List ℕ)))) → AreKnown names files doors
    → ((n : List ℕ) → IsSome (value_at files n) → IsSome (value_at later n)) → ((n : List ℕ) → IsSome (value_at doors n) → IsSome (value_at after n)) → AreKnown names later after
known_still names files later doors after known keeps_file keeps_door = λ k d below. (keeps_file _ (known k d below).0, keeps_door _ (known k d below).1)

-- names that get their rows have them
pub known_gets : (names : List (List ℕ)) (files later : List (Row (Option (List ℕ)))) (doors after : List (Row (List (List ℕ)))) → AreKnown names files doors
    → GetsRow None (value_at files) (value_at later) → GetsRow [] (value_at doors) (value_at after) → AreKnown names later after
known_gets names files later doors after known gets_file gets_door =
    known_still names files later doors after known (gets_keeps None (value_at files) (value_at later) gets_file) (gets_keeps [] (value_at doors) (value_at after) gets_door)

-- one more name
pub known_more : (names : List (List ℕ)) (i : ℕ) (name : List ℕ) (files later : List (Row (Option (List ℕ)))) (doors after : List (Row (List (List ℕ)))) → i < length names → name ≡ get_or names i name → AreKnown (take i names) files doors
    → GetsRow None (value_at files) (value_at later) → GetsRow [] (value_at doors) (value_at after) → IsSome (value_at later name) → IsSome (value_at after name) → AreKnown (take (i + 1) names) later after
known_more names i name files later doors after below item known gets_file gets_door file door =
    let there : HasRows later after (get_or names i name) = rw (sym item) (file, door) in
    All-more (HasRows later after) names i name below (known_gets (take i names) files later doors after known gets_file gets_door) there

-- a row that a name gets is that of no file and no guests
pub same_file : (files later : List (Row (Option (List ℕ)))) → GetsRow None (value_at files) (value_at later) → (p : List ℕ) → file_at later p ≡ file_at files p
same_file files later gets p = elim (gets p) [
  | inl same ↦ ap (option_and_then (λ file. file)) same
  | inr got ↦ ap (option_and_then (λ file. file)) got.1 ∙ sym (ap (option_and_then (λ file. file)) got.0)
]

pub same_guests : (doors after : List (Row (List (List ℕ)))) → GetsRow [] (value_at doors) (value_at after) → (a : List ℕ) → guests_at after a ≡ guests_at doors a
same_guests doors after gets a = elim (gets a) [
  | inl same ↦ ap (λ guests. unwrap_or guests []) same
  | inr got ↦ ap (λ guests. unwrap_or guests []) got.1 ∙ sym (ap (λ guests. unwrap_or guests []) got.0)
]

-- ---- a store's files

-- a file that is made, or stays as it was made, is made
pub still_made : (a b c : Option (List ℕ)) → b ≡ Some (unwrap_or a []) → (c ≡ b) ⊎ (c ≡ Some (unwrap_or b [])) → c ≡ Some (unwrap_or a [])
still_made a b c made after = elim after [
  | inl same ↦ same ∙ made
  | inr again ↦ again ∙ ap (λ file. Some (unwrap_or file [])) made
]

-- a file that is made once it was made, or not, is made
pub made_then : (a b c : Option (List ℕ)) → (b ≡ a) ⊎ (b ≡ Some (unwrap_or a [])) → c ≡ Some (unwrap_or b []) → c ≡ Some (unwrap_or a [])
made_then a b c before made = elim before [
  | inl same ↦ made ∙ ap (λ file. Some (unwrap_or file [])) same
  | inr once ↦ made ∙ ap (λ file. Some (unwrap_or file [])) once
]

-- what may be made in two steps may be made
pub may_then : (a b c : Option (List ℕ)) → (b ≡ a) ⊎ (b ≡ Some (unwrap_or a [])) → (c ≡ b) ⊎ (c ≡ Some (unwrap_or b [])) → (c ≡ a) ⊎ (c ≡ Some (unwrap_or a []))
may_then a b c before after = elim before [
  | inl same ↦ elim after [
    | inl still ↦ inl (still ∙ same)
    | inr made ↦ inr (made ∙ ap (λ file. Some (unwrap_or file [])) same)
  ]
  | inr once ↦ inr (still_made a b c once after)
]

-- a file that is made, where the host is observable
pub made_is : (file : Option (List ℕ)) → made (Some file) ≡ Some (Some (unwrap_or file []))
made_is None = refl
made_is (Some bytes) = refl

-- a store's paths have their rows, once they were asked for
pub known_path : (paths : Paths) (files : List (Row (Option (List ℕ)))) (doors : List (Row (List (List ℕ)))) → AreKnown (names_of paths) files doors → (q : Part) → IsSome (value_at files (path_of paths q))
known_path paths files doors known Leaf0 = (known 0 [] (omega arith)).0
known_path paths files doors known Leaf1 = (known 1 [] (omega arith)).0
known_path paths files doors known Selector = (known 2 [] (omega arith)).0
