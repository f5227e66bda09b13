-- The identifiers of an inbox, in a map that also has the reserved one.
use Rattle.std.specs.Prelude.{◌≡◌, ℕ, List, Bool, true, false, Option, Some, IsSome}
use Rattle.std.specs.BTreeMap.{get}
use Rattle.std.specs.Ordering.{nat_cmp}
use Rattle.std.specs.Cmp.Lexicographic.{slice_cmp}
use Rattle.exchange_model.specs.Questions.{is_known}
use Rattle.exchange_model.specs.declared.inbox_entry.InboxEntry.{InboxEntry}
use Rattle.inbox.specs.declared.identifiers.Hold.{Hold}
use Rattle.inbox.specs.declared.identifiers.Hold.TheVariants as hold
use Rattle.inbox.specs.declared.identifiers.Identifiers.{Identifiers}

-- why an identifier is in the map, if it is
abbrev pub hold_of : List ℕ → Identifiers → Option Hold
hold_of id ids = get (slice_cmp nat_cmp) ids.holds id

abbrev pub has_come : Option Hold → Bool
has_come (Some hold.Came) = true
has_come other = false

-- a message with this identifier was received
abbrev pub is_held : List ℕ → Identifiers → Bool
is_held id ids = has_come (hold_of id ids)

-- the reserved identifier is in the map
abbrev pub HasPlace : Identifiers → Type 0
HasPlace ids = (id : List ℕ) → ids.room ≡ Some id → IsSome (hold_of id ids)

-- the identifiers are those of these messages
pub record AreOf (ids : Identifiers) (entries : List InboxEntry) : Type 0 where
  pub held : (id : List ℕ) → is_held id ids ≡ is_known id entries
  pub place : HasPlace ids
