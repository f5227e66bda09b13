-- A turn at a door, by how it goes on.
use Rattle.std.proofs.Common.{◌≡◌, ℕ, Bool, true, false, if◌then◌else◌, inl, refl, sym, ap, subst}
use Rattle.as4_disk.specs.declared.disk.Disk.{Ghosts as DiskMeaning}
use Rattle.as4_doors.specs.declared.door.DoorKind.{DoorKind}
use Rattle.as4_flow.specs.declared.clock.Clock.{Ghosts as ClockMeaning}
use Rattle.as4_flow.specs.declared.nonces.Nonces.{Ghosts as NoncesMeaning}
use Rattle.as4_host.specs.declared.door.Door.{Ghosts as DoorMeaning}
use Rattle.sessions.specs.declared.naming.Opening.{Ghosts as OpeningMeaning}
use Rattle.workers.specs.Endings.{session_starves}
use Rattle.workers.specs.Guests.{Caller}
use Rattle.workers.specs.declared.turn.Turn.{Turn}
use Rattle.workers.specs.declared.turn.Turn.TheVariants.{Starved, Worked}
use Rattle.as4_keep.specs.KeptGuests.{KeepsGuest, MeetsKeptGuest, after_connection}
use Rattle.as4_keep.specs.declared.keep_end.KeepEnd.{KeepEnd}
use Rattle.as4_keep.specs.declared.keep_end.KeepEnd.TheVariants.{Broken, Closed}

module _ {D J W In Out C N : Type 0} (M : DiskMeaning D) (O : OpeningMeaning J) (G : DoorMeaning W In Out) (T : ClockMeaning C) (R : NoncesMeaning N) (limit : ℕ) where
  -- a turn whose guest was served goes on as the connection ended
  pub meets : (kind : DoorKind) (door later : W) (old new : Caller C N) (end : KeepEnd) (so : Turn) → KeepsGuest M O G T R limit kind door later old new end
      → so ≡ after_connection end → MeetsKeptGuest M O G T R limit kind door later old new so
  meets kind door later old new (Closed served) so keeps is =
      subst (λ (t : Turn). MeetsKeptGuest M O G T R limit kind door later old new t) (sym is) (Closed served, keeps, refl)
  meets kind door later old new (Broken served end) so keeps is =
      subst (λ (t : Turn). MeetsKeptGuest M O G T R limit kind door later old new t) (sym is) (by_starving (session_starves end) refl)
    where
      by_starving : (b : Bool) → session_starves end ≡ b → MeetsKeptGuest M O G T R limit kind door later old new (if b then Starved else Worked)
      by_starving true starves = inl (Broken served end, keeps, ap (λ (b : Bool). if b then Starved else Worked) starves)
      by_starving false starves = (Broken served end, keeps, ap (λ (b : Bool). if b then Starved else Worked) starves)
