-- The identifiers of submissions by number.
use Rattle.std.specs.Prelude.{◌≡◌, ℕ, ◌+◌, ◌≤◌, List, true, Some, length, map, take}
use Rattle.std.specs.List.{list_any}
use Rattle.std.specs.Str.{bytes_eq}
use Rattle.exchange_model.specs.declared.sent.Sent.{Sent}
use Rattle.outbox.specs.declared.numbers.Numbers.{Numbers}

abbrev pub id_of : Sent → List ℕ
id_of s = s.submission.header.id

-- each identifier is at the place of its submission's number; the reserved one follows them, unless it is one of them
pub record AreNumbers (numbers : Numbers) (sent : List Sent) : Type 0 where
  pub ids : take (length sent) numbers.ids.keys ≡ map id_of sent
  pub few : length numbers.ids.keys ≤ length sent + 1
  pub place : (id : List ℕ) → numbers.room ≡ Some id → list_any (bytes_eq id) numbers.ids.keys ≡ true
