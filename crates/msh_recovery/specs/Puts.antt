-- How a record is put behind the others, in the terms of ends.
use Rattle.std.specs.Prelude.{◌≡◌, ◌≢◌, ℕ, ◌+◌, List, [], ◌∷◌, length}
use Rattle.as4_disk.specs.Bytes.{IsOverwritten, Torn}
use Rattle.as4_disk.specs.Image.{Image, On}
use Rattle.as4_disk.specs.declared.part.Part.{Part}
use Rattle.msh_recovery.specs.Opens.{IsAt, IsAtWith}
use Rattle.exchange_model.specs.End.{End}

-- The record is put behind the closed gate at this place, on a disk of which a crash leaves these outcomes: first all of it
-- but its gate, and then the gate.
pub record Puts (outcomes : Image → Type 0) (part : Part) (gate : ℕ) (tail : List ℕ) (end next : End) : Type 0 where
  -- until the gate is written the disk is at the end before, whatever came of the bytes behind the gate
  pub before : (c d : Image) → outcomes c → On part (Torn (gate + 1) (length tail)) c d → IsAt d end
  -- with the gate open it is at the one behind
  pub opened : (c d e : Image) → outcomes c → On part (IsOverwritten (gate + 1) tail) c d → On part (IsOverwritten gate (1 ∷ [])) d e → IsAt e next
  -- with any other byte there it opens to the end before, and the record is pending at most
  pub closed : (byte : ℕ) (c d e : Image) → byte ≢ 1 → outcomes c → On part (IsOverwritten (gate + 1) tail) c d → On part (IsOverwritten gate (byte ∷ [])) d e
      → IsAtWith e end (λ n. n ≡ next)
