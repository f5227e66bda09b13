-- The exit statuses of the program, and the line on the errors for each: its own choice.
use Rattle.std.specs.Prelude.{◌≡◌, ℕ, ◌⊎◌, List, [], ◌∷◌, ◌++◌, Option, codes}
use Rattle.std.specs.Fmt.{decimal}
use Rattle.as4_flow.specs.Flow.{Rose, appended, TakesFront}
use Rattle.drill.specs.declared.script.DrillEnd.{DrillEnd}
use Rattle.drill.specs.declared.script.DrillEnd.TheVariants as ends
use Rattle.auditor.specs.declared.ending.AuditEnd.{AuditEnd}
use Rattle.auditor.specs.declared.ending.AuditEnd.TheVariants as audit
use Rattle.clients.specs.declared.ending.CollectEnd.{CollectEnd}
use Rattle.clients.specs.declared.ending.CollectEnd.TheVariants as collect
use Rattle.clients.specs.declared.ending.SubmitEnd.{SubmitEnd}
use Rattle.clients.specs.declared.ending.SubmitEnd.TheVariants as submit
use Rattle.conformance.specs.declared.suite.SuiteEnd.{SuiteEnd}
use Rattle.conformance.specs.declared.suite.SuiteEnd.TheVariants as suite
use Rattle.handler.specs.declared.ending.HandlerEnd.{HandlerEnd}
use Rattle.handler.specs.declared.ending.HandlerEnd.TheVariants as handler
use Rattle.relayer.specs.declared.ending.RelayRefusal.{RelayRefusal}
use Rattle.relayer.specs.declared.ending.RelayRefusal.TheVariants as relay
use Rattle.relayer.specs.declared.ending.RelayerEnd.{RelayerEnd}
use Rattle.relayer.specs.declared.ending.RelayerEnd.TheVariants as relaying
use Rattle.as4_tool.specs.declared.command.WordsRefusal.{WordsRefusal}
use Rattle.as4_tool.specs.declared.command.WordsRefusal.TheVariants as refusal
use Rattle.as4_tool.specs.declared.status.Status.{Status}
use Rattle.as4_tool.specs.declared.status.Status.TheVariants.{Done, Refused, WrongLine, ReadFault, WriteFault, NoMemory, TooManyEvents, NotUser, ModesRefused, HostFault, NotJournal, TooLong, BadResponse, NotRelayed, BadWords}

-- the exit status of an end
abbrev pub code_of : Status → ℕ
code_of Done = 0
code_of Refused = 1
code_of (WrongLine number) = 2
code_of ReadFault = 3
code_of WriteFault = 4
code_of NoMemory = 5
code_of TooManyEvents = 6
code_of NotUser = 7
code_of ModesRefused = 8
code_of HostFault = 9
code_of (NotJournal at) = 10
code_of TooLong = 11
code_of BadResponse = 12
code_of (NotRelayed refusal) = 14
code_of BadWords = 64

-- it is one of these ends
abbrev pub IsOneOf : List Status → Status → Type 0
IsOneOf [] status = ⊥
IsOneOf (one ∷ others) status = (status ≡ one) ⊎ IsOneOf others status

-- the line of a message that isn't relayed
abbrev pub text_of_refusal : RelayRefusal → List ℕ
text_of_refusal relay.NoMode = codes "no mode\n"
text_of_refusal relay.Gone = codes "gone\n"
text_of_refusal relay.OutboxFull = codes "outbox full\n"
text_of_refusal relay.TooLarge = codes "too large\n"
text_of_refusal relay.JournalFull = codes "journal full\n"

-- its line on the errors; empty for success, and for a refusal, which the output reports
abbrev pub line_of : Status → List ℕ
line_of Done = []
line_of Refused = []
line_of (WrongLine number) = codes "line " ++ decimal number ++ codes "\n"
line_of ReadFault = codes "read fault\n"
line_of WriteFault = codes "write fault\n"
line_of NoMemory = codes "no memory\n"
line_of TooManyEvents = codes "more than 100000 events\n"
line_of NotUser = codes "not a user message\n"
line_of ModesRefused = codes "modes refused\n"
line_of HostFault = codes "host fault\n"
line_of (NotJournal at) = codes "not a journal at " ++ decimal at ++ codes "\n"
line_of TooLong = codes "input too long\n"
line_of BadResponse = codes "bad response\n"
line_of (NotRelayed refusal) = text_of_refusal refusal
line_of BadWords = codes "bad words\n"

-- the whole text was sent, or a prefix of it before the errors failed
abbrev pub Tells : List ℕ → Option (List ℕ) → Option (List ℕ) → ℕ → ℕ → Type 0
Tells text taken later faults later_faults =
    (later ≡ appended taken text) ⊎ (TakesFront text taken later × Rose faults later_faults)

-- the status for a drill's end
abbrev pub status_of : DrillEnd → Status
status_of ends.Read = Done
status_of (ends.Line number) = WrongLine number
status_of ends.TooMany = TooManyEvents
status_of ends.ReadFault = ReadFault
status_of ends.WriteFault = WriteFault
status_of ends.NoMemory = NoMemory

-- the status for a submission's end
abbrev pub status_of_submission : SubmitEnd → Status
status_of_submission (submit.Accepted text) = Done
status_of_submission (submit.Refused status text) = Refused
status_of_submission submit.BadResponse = BadResponse
status_of_submission submit.LinkFault = HostFault
status_of_submission submit.WriteFault = WriteFault
status_of_submission submit.ReadFault = ReadFault
status_of_submission submit.NoMemory = NoMemory

-- the status for a collection's end
abbrev pub status_of_collection : CollectEnd → Status
status_of_collection collect.Done = Done
status_of_collection collect.NoEntry = Done
status_of_collection (collect.Refused status) = Refused
status_of_collection collect.BadResponse = BadResponse
status_of_collection collect.LinkFault = HostFault
status_of_collection collect.FileFault = HostFault
status_of_collection collect.WriteFault = WriteFault
status_of_collection collect.OutputFault = WriteFault
status_of_collection collect.ReadFault = ReadFault
status_of_collection collect.NoMemory = NoMemory

-- the status for a handler's end
abbrev pub status_of_handler : HandlerEnd → Status
status_of_handler handler.Served = Done
status_of_handler handler.NoMemory = NoMemory
status_of_handler handler.HostFault = HostFault
status_of_handler handler.ModesRefused = ModesRefused
status_of_handler (handler.NotJournal at) = NotJournal at

-- the status for an audit's end
abbrev pub status_of_audit : AuditEnd → Status
status_of_audit audit.Yes = Done
status_of_audit audit.No = Refused
status_of_audit audit.NoMemory = NoMemory
status_of_audit audit.WriteFault = WriteFault
status_of_audit audit.ModesRefused = ModesRefused
status_of_audit audit.HostFault = HostFault
status_of_audit (audit.NotJournal at) = NotJournal at
status_of_audit audit.TooLong = TooLong

-- the status for a relaying's end
abbrev pub status_of_relaying : RelayerEnd → Status
status_of_relaying relaying.Done = Done
status_of_relaying (relaying.Refused refusal) = NotRelayed refusal
status_of_relaying relaying.NoMemory = NoMemory
status_of_relaying relaying.WriteFault = WriteFault
status_of_relaying relaying.ModesRefused = ModesRefused
status_of_relaying relaying.HostFault = HostFault
status_of_relaying (relaying.NotJournal at) = NotJournal at

-- the status for the end of a suite
abbrev pub status_of_suite : SuiteEnd → Status
status_of_suite suite.Done = Done
status_of_suite suite.WriteFault = WriteFault
status_of_suite suite.NoMemory = NoMemory

-- the status for words that no command was read from
abbrev pub status_of_words : WordsRefusal → Status
status_of_words refusal.BadWords = BadWords
status_of_words refusal.NoMemory = NoMemory
