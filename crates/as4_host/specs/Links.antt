-- What a call that opens a pair of streams says by its answer.
use Rattle.std.specs.Prelude.{◌≡◌, ℕ, List, Option, Some, Result, Ok, Err}
use Rattle.as4_disk.specs.Faults.{Rises}
use Rattle.as4_host.specs.Lists.{and_one}
use Rattle.as4_host.specs.declared.link.LinkRefusal.{LinkRefusal}
use Rattle.as4_host.specs.declared.link.LinkRefusal.TheVariants.{LinkFailed, NoMemory}

-- the addresses asked for: this one too, unless there was no memory
abbrev pub dialed : {T : Type 0} → Result T LinkRefusal → List ℕ → Option (List (List ℕ)) → Option (List (List ℕ))
dialed (Ok _) address all = and_one all (Some address)
dialed (Err LinkFailed) address all = and_one all (Some address)
dialed (Err NoMemory) address all = all

-- the count of faults rises where the open failed, and else it stays
abbrev pub HasLinkCause : {T : Type 0} → ℕ → ℕ → Result T LinkRefusal → Type 0
HasLinkCause before now (Ok _) = now ≡ before
HasLinkCause before now (Err LinkFailed) = Rises before now
HasLinkCause before now (Err NoMemory) = now ≡ before
