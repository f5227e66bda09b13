-- The result of reading an inbox at a number.
use Rattle.std.specs.Prelude.{◌≡◌, ℕ, ◌<◌, ◌≤◌, Some, length, option_map, slice_get}
use Rattle.inbox.specs.declared.held.Held.{Held}
use Rattle.inbox.specs.declared.held.Held.TheVariants as held
use Rattle.msh_state.specs.Rooms.{TablesState}

-- Confirmed entries are gone, and past the last there is none. Of the others the header is read, and where the payloads
-- are.
abbrev pub IsRead : TablesState → ℕ → Held → Type 0
IsRead tables n held.Gone = n < tables.end.confirmed
IsRead tables n held.NoEntry = (tables.end.confirmed ≤ n) × (length tables.end.inbox ≤ n)
IsRead tables n (held.Entry header gate len) =
    (tables.end.confirmed ≤ n)
    × (option_map (λ entry. entry.header) (slice_get tables.end.inbox n) ≡ Some header.now)
    × (slice_get tables.places n ≡ Some (record { gate = gate; length = len }))
