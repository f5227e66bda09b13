-- A handler, from its modes file to its end.
use Rattle.std.specs.Prelude.{◌≡◌, ◌⊎◌, ℕ, List, [], ◌∷◌, Option, filter, map, take}
use Rattle.as4_disk.specs.declared.disk.Disk.{Ghosts as DiskMeaning}
use Rattle.as4_flow.specs.declared.clock.Clock.{Ghosts as ClockMeaning}
use Rattle.as4_flow.specs.declared.nonces.Nonces.{Ghosts as NoncesMeaning}
use Rattle.as4_host.specs.declared.door.Door.{Ghosts as DoorMeaning}
use Rattle.as4_host.specs.declared.host.Host.{Ghosts as HostMeaning}
use Rattle.as4_host.specs.declared.link.Link.{Ghosts as LinkMeaning}
use Rattle.handler.specs.Endings.{IsReadingCause}
use Rattle.handler.specs.Hosts.{Asks, CountsOn}
use Rattle.handler.specs.Opening.{FailsToOpen, OpensAll}
use Rattle.handler.specs.Stores.{AreModesOf}
use Rattle.handler.specs.Working.{Works}
use Rattle.handler.specs.declared.ending.HandlerEnd.{HandlerEnd}
use Rattle.handler.specs.declared.ending.HandlerEnd.TheVariants.{NoMemory, Served}
use Rattle.handler.specs.declared.setup.Setup.{Setup}
use Rattle.mode_values.specs.declared.mode.Mode.{Mode}
use Rattle.office.specs.State.{OfficeState}
use Rattle.office.specs.declared.call.Call.{Call}
use Rattle.pass_book.specs.States.{PassState}

-- the names of the modes by which a handler pulls: the first two with `collect`
abbrev pub pulled : List Mode → List (List ℕ)
pulled modes = take 2 (map (λ (m : Mode). m.name) (filter (λ (m : Mode). m.collect) modes))

module _ {H Store Door Dialer Time Dice DoorIn DoorOut DialerIn DialerOut : Type 0} (M : HostMeaning H Store Door Dialer Time Dice DoorIn DoorOut DialerIn DialerOut) where
  -- the host was asked to read a file
  pub record Reads (path : List ℕ) (old new : H) : Type 0 where
    pub asks : Asks M (path ∷ []) old new
    pub counts : CountsOn M old new
    pub files : (p : List ℕ) → M.file new p ≡ M.file old p
    pub guests : (a : List ℕ) → M.guests new a ≡ M.guests old a

  module _ (G : DoorMeaning Door DoorIn DoorOut) (K : LinkMeaning Dialer DialerIn DialerOut) (S : DiskMeaning Store) (T : ClockMeaning Time) (R : NoncesMeaning Dice) where
    -- everything was opened, and then the workers worked
    pub record OpensAndWorks (setup : Setup) (modes : List Mode) (told later : Option (List ℕ)) (old new : H) (end : HandlerEnd) : Type 0 where
      pub opened : H
      pub peer : Door
      pub local : Door
      pub office : OfficeState Store
      pub pass : PassState Call
      pub opens : OpensAll M S G setup modes old opened peer local office pass
      pub works : Works M G K S T R setup told later (pulled modes) peer local office opened new end

    -- what a handler with these modes does, to its host and to the sink of its line: it lacks memory, it fails to open something, or it works
    abbrev pub Handles : Setup → List Mode → Option (List ℕ) → Option (List ℕ) → H → H → HandlerEnd → Type 0
    Handles setup modes told later old new end =
        ((end ≡ NoMemory) × (new ≡ old) × (later ≡ told)) ⊎ (FailsToOpen M setup old new end × (later ≡ told))
        ⊎ OpensAndWorks setup modes told later old new end

    -- what a handler does: it reads no modes, for a cause; or it goes on with those that it read
    abbrev pub Ends : Setup → Option (List ℕ) → Option (List ℕ) → H → H → HandlerEnd → Type 0
    Ends setup told later old new end =
        (Reads setup.modes.now old new × IsReadingCause (M.file old setup.modes.now) (M.fault_count old) (M.fault_count new) end × (later ≡ told))
        ⊎ ((modes : List Mode) × (read : H) × AreModesOf (M.file old setup.modes.now) modes × Reads setup.modes.now old read
        × Handles setup modes told later read new end)

    -- the modes were read, the doors and the store were opened, and the workers made their turns
    pub record Serves (setup : Setup) (told later : Option (List ℕ)) (old new : H) : Type 0 where
      pub modes : List Mode
      pub modes_are : AreModesOf (M.file old setup.modes.now) modes
      pub read : H
      pub reads : Reads setup.modes.now old read
      pub works : OpensAndWorks setup modes told later read new Served
