-- Changes of one part.
use Rattle.std.proofs.Common.{◌≢◌, ℕ, List, refl, ◌∙◌}
use Rattle.as4_disk.specs.declared.part.Part.{Part}
use Rattle.as4_disk.specs.Bytes.{Torn}
use Rattle.as4_disk.specs.Runs.{Follows, Within}
use Rattle.as4_disk.specs.Image.{Image, On, IsOnly}
use Rattle.as4_disk.specs.ByteLaws.{torn_same}

-- an image, after a write of which nothing came
pub torn_nothing : (part : Part) (at n : ℕ) (image : Image) → On part (Torn at n) image image
torn_nothing part at n image = record { there = torn_same at n (image part); elsewhere = λ q other. refl }

-- what is settled of a part stays so where another part changes
pub only_elsewhere : (part other : Part) (step : List ℕ → List ℕ → Type 0) (image : Image) (old new : Image → Type 0) → part ≢ other → Follows (On other step) old new → IsOnly part image old → IsOnly part image new
only_elsewhere part other step image old new differs follows only c left =
    let from = follows c left in
    from.2.elsewhere part differs ∙ only from.0 from.1

-- and where there is no new image
pub only_within : (part : Part) (image : Image) (old new : Image → Type 0) → Within old new → IsOnly part image old → IsOnly part image new
only_within part image old new within only c left = only c (within c left)
