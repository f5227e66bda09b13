-- What a door says by its answer.
use Rattle.std.specs.Prelude.{◌≡◌, ℕ}
use Rattle.as4_disk.specs.Faults.{Rises}
use Rattle.as4_host.specs.declared.door.Arrival.{Arrival}
use Rattle.as4_host.specs.declared.door.Arrival.TheVariants.{Open, Closed, Failed, NoMemory}

-- P holds of the pair that came
abbrev pub IfOpen : {I O : Type 0} → Arrival I O → (I → O → Type 0) → Type 0
IfOpen (Open source sink) P = P source sink
IfOpen Closed P = Unit {0}
IfOpen Failed P = Unit {0}
IfOpen NoMemory P = Unit {0}

-- no pair came
abbrev pub OnRefused : {I O : Type 0} → Arrival I O → Type 0 → Type 0
OnRefused (Open source sink) P = Unit {0}
OnRefused Closed P = P
OnRefused Failed P = P
OnRefused NoMemory P = P

-- no more will come
abbrev pub OnClosed : {I O : Type 0} → Arrival I O → Type 0 → Type 0
OnClosed (Open source sink) P = Unit {0}
OnClosed Closed P = P
OnClosed Failed P = Unit {0}
OnClosed NoMemory P = Unit {0}

-- the count of faults rises where the door failed, and else it stays
abbrev pub HasDoorCause : {I O : Type 0} → ℕ → ℕ → Arrival I O → Type 0
HasDoorCause before now (Open source sink) = now ≡ before
HasDoorCause before now Closed = now ≡ before
HasDoorCause before now Failed = Rises before now
HasDoorCause before now NoMemory = now ≡ before
