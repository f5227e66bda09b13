-- How the relaying of a journal's messages ends.
use Rattle.std.specs.Prelude.{◌≡◌, ◌⊎◌, ℕ}
use Rattle.as4_flow.specs.Flow.{Rose}
use Rattle.as4_host.specs.Counts.{HasNotRisen}
use Rattle.as4_host.specs.declared.host.HostRefusal.{HostRefusal}
use Rattle.as4_host.specs.declared.host.HostRefusal.TheVariants as host
use Rattle.as4_hub.specs.declared.ended.RelayEnd.{RelayEnd}
use Rattle.as4_hub.specs.declared.ended.RelayEnd.TheVariants as relay
use Rattle.handler.specs.declared.ending.HandlerEnd.{HandlerEnd}
use Rattle.handler.specs.declared.ending.HandlerEnd.TheVariants as handler
use Rattle.journal.specs.declared.fault.JournalFault.{JournalFault}
use Rattle.journal.specs.declared.fault.JournalFault.TheVariants as fault
use Rattle.relayer.specs.declared.ending.RelayRefusal.TheVariants.{NoMode, Gone, OutboxFull, TooLarge, JournalFull}
use Rattle.relayer.specs.declared.ending.RelayerEnd.{RelayerEnd}
use Rattle.relayer.specs.declared.ending.RelayerEnd.TheVariants.{Done, Refused, NoMemory, WriteFault, ModesRefused, HostFault, NotJournal}

-- the end without modes; a handler that reads its modes has no other ends
abbrev pub end_unread : HandlerEnd → RelayerEnd
end_unread handler.NoMemory = NoMemory
end_unread handler.ModesRefused = ModesRefused
end_unread other = HostFault

-- the end by a call that the host refused
abbrev pub end_by : HostRefusal → RelayerEnd
end_by host.HostFailed = HostFault
end_by host.NoMemory = NoMemory

-- the end by a journal that wasn't opened
abbrev pub end_unopened : JournalFault → RelayerEnd
end_unopened (fault.NotJournal at) = NotJournal at
end_unopened fault.NoMemory = NoMemory
end_unopened (fault.Disk before after) = HostFault
end_unopened (fault.Full size need) = HostFault

-- the end by a relaying that relayed nothing
abbrev pub end_of : RelayEnd → RelayerEnd
end_of (relay.Relayed number id) = Done
end_of relay.Nothing = Done
end_of relay.Gone = Refused Gone
end_of relay.NoMode = Refused NoMode
end_of relay.OutboxFull = Refused OutboxFull
end_of relay.TooLarge = Refused TooLarge
end_of (relay.Full size need) = Refused JournalFull
end_of (relay.DiskFault before after) = HostFault
end_of (relay.Stopped before after) = HostFault
end_of relay.Worn = NoMemory
end_of relay.NoMemory = NoMemory

-- the end if the machine failed in the meantime; `NoMemory` and `WriteFault` stay
abbrev pub if_failed : RelayerEnd → RelayerEnd
if_failed NoMemory = NoMemory
if_failed WriteFault = WriteFault
if_failed other = HostFault

-- the end, judged by the host's count of faults
abbrev pub IsJudged : RelayerEnd → ℕ → ℕ → RelayerEnd → Type 0
IsJudged end before after result =
    (HasNotRisen before after × (result ≡ end)) ⊎ (Rose before after × (result ≡ if_failed end))
