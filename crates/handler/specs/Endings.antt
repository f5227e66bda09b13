-- How a handler ends, and why.
use Rattle.std.specs.Prelude.{◌≡◌, ◌⊎◌, ℕ, ◌<◌, List, Option, Some, None, Ok, Err, Result, length}
use Rattle.as4_disk.specs.Image.{Image}
use Rattle.as4_flow.specs.Flow.{Rose, Told}
use Rattle.as4_host.specs.Counts.{HasNotRisen}
use Rattle.as4_host.specs.declared.host.HostRefusal.{HostRefusal}
use Rattle.as4_host.specs.declared.host.HostRefusal.TheVariants as refusal
use Rattle.handler.specs.declared.ending.HandlerEnd.{HandlerEnd}
use Rattle.handler.specs.declared.ending.HandlerEnd.TheVariants.{Served, NoMemory, HostFault, ModesRefused, NotJournal}
use Rattle.journal.specs.Store.{picked_leaf}
use Rattle.journal.specs.declared.fault.JournalFault.{JournalFault}
use Rattle.journal.specs.declared.fault.JournalFault.TheVariants as fault
use Rattle.mode_values.specs.declared.mode.Mode.{Mode}
use Rattle.msh_recovery.specs.Unfit.{IsNoJournal}
use Rattle.pmodes.specs.ModeFile.{modes_of_file}
use Rattle.pmodes.specs.declared.refusal.ModeRefusal.{ModeRefusal}
use Rattle.pmodes.specs.declared.refusal.ModeRefusal.TheVariants as modes

-- the end by a call that the host refused
abbrev pub end_by : HostRefusal → HandlerEnd
end_by refusal.HostFailed = HostFault
end_by refusal.NoMemory = NoMemory

-- the end by a journal that wasn't opened
abbrev pub end_unopened : JournalFault → HandlerEnd
end_unopened (fault.NotJournal at) = NotJournal at
end_unopened fault.NoMemory = NoMemory
end_unopened (fault.Disk before after) = HostFault
end_unopened (fault.Full size need) = HostFault

-- the modes file is missing, has more than 1,048,576 bytes, or isn't one
abbrev pub HasNoModes : Option (List ℕ) → Type 0
HasNoModes file =
    (file ≡ None) ⊎ ((bytes : List ℕ) × (file ≡ Some bytes)
    × ((1_048_576 < length bytes) ⊎ ((refusal : ModeRefusal) × (modes_of_file bytes ≡ Err refusal))))

-- the modes that were read; or how a handler ends without
abbrev pub EndsUnread : Result (List Mode) ModeRefusal → Result (List Mode) HandlerEnd → Type 0
EndsUnread (Ok modes) result = result ≡ Ok modes
EndsUnread (Err modes.NoMemory) result = result ≡ Err NoMemory
EndsUnread (Err refusal) result = result ≡ Err ModesRefused

-- the end if the machine failed in the meantime; `NoMemory` stays
abbrev pub if_failed : HandlerEnd → HandlerEnd
if_failed NoMemory = NoMemory
if_failed other = HostFault

-- the end, judged by the host's count of faults
abbrev pub IsJudged : HandlerEnd → ℕ → ℕ → HandlerEnd → Type 0
IsJudged end before after result =
    (HasNotRisen before after × (result ≡ end)) ⊎ (Rose before after × (result ≡ if_failed end))

-- an end before any worker began
abbrev pub IsUnserved : HandlerEnd → Type 0
IsUnserved Served = ⊥
IsUnserved NoMemory = ⊥
IsUnserved HostFault = ⊥
IsUnserved ModesRefused = Unit {0}
IsUnserved (NotJournal at) = Unit {0}

-- why a handler ended without modes
abbrev pub IsReadingCause : Option (Option (List ℕ)) → ℕ → ℕ → HandlerEnd → Type 0
IsReadingCause file before after Served = ⊥
IsReadingCause file before after NoMemory = Unit {0}
IsReadingCause file before after HostFault = Rose before after
IsReadingCause file before after ModesRefused = Told file HasNoModes
IsReadingCause file before after (NotJournal at) = ⊥

-- why a handler ended since something wasn't opened
abbrev pub IsOpeningCause : (Image → Type 0) → ℕ → ℕ → HandlerEnd → Type 0
IsOpeningCause Stored before after Served = ⊥
IsOpeningCause Stored before after NoMemory = Unit {0}
IsOpeningCause Stored before after HostFault = Rose before after
IsOpeningCause Stored before after ModesRefused = ⊥
IsOpeningCause Stored before after (NotJournal at) = (image : Image) → Stored image → IsNoJournal at (picked_leaf image)

-- why a handler ended so, by its modes file, by what its store holds, and by the host's count of faults
abbrev pub IsCause : Option (Option (List ℕ)) → (Image → Type 0) → ℕ → ℕ → HandlerEnd → Type 0
IsCause file Stored before after Served = Unit {0}
IsCause file Stored before after NoMemory = Unit {0}
IsCause file Stored before after HostFault = Rose before after
IsCause file Stored before after ModesRefused = Told file HasNoModes
IsCause file Stored before after (NotJournal at) = (image : Image) → Stored image → IsNoJournal at (picked_leaf image)
