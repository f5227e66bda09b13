-- Lemmas on the names that a host was asked for, in the shape in which the settling calls require them.
use Rattle.std.proofs.Common.{◌≡◌, ℕ, List, [], ◌∷◌, ◌++◌, Option, None, Some, refl, arith}
use Rattle.std.specs.Prelude.{Contains}
use Rattle.std.proofs.lemmas.List.Elements.{Contains-append_right}
use Rattle.as4_flow.specs.Flow.{Told}
use Rattle.as4_disk.specs.declared.part.Part.{Part}
use Rattle.as4_disk.specs.declared.part.Part.TheVariants.{Selector, Leaf0, Leaf1}
use Rattle.as4_host.specs.Lists.{and_all}

-- a host that was asked for a name was asked for it
pub asked_name : (old new : Option (List (List ℕ))) (name : List ℕ) → new ≡ and_all old (Some (name ∷ [])) → Told new (λ all. Contains all name)
asked_name None new name is all told = absurd (cc)
asked_name (Some old) new name is all told =
    let names_are : all ≡ old ++ name ∷ [] = cc in
    let here : Contains (name ∷ []) name = (0, omega arith, refl) in
    rw names_are (Contains-append_right old (name ∷ []) name here)

-- the names of a store's files, by the part
abbrev names_by : (Part → List ℕ) → List (List ℕ)
names_by path = path Leaf0 ∷ path Leaf1 ∷ path Selector ∷ []

path_among : (path : Part → List ℕ) (q : Part) → Contains (names_by path) (path q)
path_among path Leaf0 = (0, omega arith, refl)
path_among path Leaf1 = (1, omega arith, refl)
path_among path Selector = (2, omega arith, refl)

-- a host that was asked for a store was asked for the path of each part
pub asked_paths : (old new : Option (List (List ℕ))) (path : Part → List ℕ) → new ≡ and_all old (Some (path Leaf0 ∷ path Leaf1 ∷ path Selector ∷ [])) → Told new (λ all. (q : Part) → Contains all (path q))
asked_paths None new path is all told q = absurd (cc)
asked_paths (Some old) new path is all told q =
    let names_are : all ≡ old ++ names_by path = cc in
    rw names_are (Contains-append_right old (names_by path) (path q) (path_among path q))
