-- What an inbox has for a number.
use Rattle.std.specs.Prelude.{◌≡◌, ℕ, ◌<◌, ◌≤◌, Some, length, option_map, slice_get}
use Rattle.inbox.specs.Deliveries.{Deliveries}
use Rattle.inbox.specs.declared.held.Held.{Held}
use Rattle.inbox.specs.declared.held.Held.TheVariants as held

-- The first `confirmed` ones are confirmed, and nothing was received past the last. Of the others the header is read,
-- and where the payloads are.
abbrev pub IsHeld : Deliveries → ℕ → Held → Type 0
IsHeld deliveries n held.Gone = n < deliveries.confirmed
IsHeld deliveries n held.NoEntry = length deliveries.entries ≤ n
IsHeld deliveries n (held.Entry header gate len) =
    (deliveries.confirmed ≤ n)
    × (option_map (λ entry. entry.header) (slice_get deliveries.entries n) ≡ Some header.now)
    × (slice_get deliveries.places n ≡ Some (record { gate = gate; length = len }))
