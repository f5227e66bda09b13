-- The parts that are read are those of the body's only cut.
use Rattle.std.proofs.Common.{◌≡◌, ℕ, List, ◌↔◌}
use Rattle.std.specs.Prelude.{Ok, IsTrue}
use Rattle.mime_fields.specs.Fields.{PartValue}
use Rattle.mime_package.specs.Pieces.{HasParts}
use Rattle.mime_package.specs.Reading.{is_boundary, parts_of}
use Rattle.mime_package.proofs.AgainLemmas.{body_again}
use Rattle.mime_package.proofs.TakenLemmas.{body_taken}

-- in both directions
pub body_is_cut : (boundary body : List ℕ) (parts : List PartValue) → IsTrue (is_boundary boundary) → ((parts_of boundary body ≡ Ok parts) ↔ HasParts boundary body parts)
body_is_cut boundary body parts is = (body_taken boundary body parts is, body_again boundary body parts is)
