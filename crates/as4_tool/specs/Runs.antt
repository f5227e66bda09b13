-- What a run does to its input, its output and its host: its status, and the cause of each status.
use Rattle.std.specs.Prelude.{◌≡◌, ◌≢◌, ℕ, ◌+◌, ◌≤◌, ◌<◌, ◌⊎◌, List, [], ◌∷◌, All, Bool, false, true, if◌then◌else◌, Option, length}
use Rattle.as4_flow.specs.Flow.{LosesFront, Rose, Streams, Told, between, flow}
use Rattle.as4_flow.specs.declared.clock.Clock.{Ghosts as ClockMeaning}
use Rattle.as4_flow.specs.declared.nonces.Nonces.{Ghosts as NoncesMeaning}
use Rattle.as4_flow.specs.declared.source.Source.{Ghosts as SourceMeaning}
use Rattle.as4_flow.specs.declared.sink.Sink.{Ghosts as SinkMeaning}
use Rattle.as4_disk.specs.declared.disk.Disk.{Ghosts as DiskMeaning}
use Rattle.as4_host.specs.Lists.{first_of}
use Rattle.as4_host.specs.declared.host.Host.{Ghosts as HostMeaning}
use Rattle.as4_host.specs.declared.link.Link.{Ghosts as LinkMeaning}
use Rattle.auditor.specs.Auditing.{AuditsBy, ReadsAmong}
use Rattle.auditor.specs.declared.ending.AuditEnd.{AuditEnd}
use Rattle.auditor.specs.declared.form.Form.TheVariants as form
use Rattle.clients.specs.Answered.{IsAnswerTo, IsLastAnswer}
use Rattle.clients.specs.Lines.{KeepsOthers, WritesLines, answer_of}
use Rattle.clients.specs.Requests.{submit_request}
use Rattle.clients.specs.Runs.{Collects, Submits}
use Rattle.clients.specs.Sent.{SendsOnce, SendsRequests}
use Rattle.clients.specs.declared.ending.CollectEnd.{CollectEnd}
use Rattle.clients.specs.declared.ending.SubmitEnd.{SubmitEnd}
use Rattle.clients.specs.declared.ending.SubmitEnd.TheVariants as submit_end
use Rattle.handler.specs.Hosts.{files_of}
use Rattle.handler.specs.Stores.{AreModesOf, LeavesStore}
use Rattle.relayer.specs.Ends.{IsJudged}
use Rattle.relayer.specs.Running.{RelaysBy, Touches}
use Rattle.relayer.specs.declared.ending.RelayerEnd.{RelayerEnd}
use Rattle.as4_tool.specs.Answer.{IsSignalFile}
use Rattle.as4_tool.specs.Command.{IsAlone, Spells, Task, answer, check, audit, collect, drill, generate, handler, help, relay, submit, suite, version}
use Rattle.as4_tool.specs.Ends.{Ends, TellsFaults, WritesAs}
use Rattle.as4_tool.specs.Status.{IsOneOf, code_of, status_of_audit, status_of_collection, status_of_relaying, status_of_submission}
use Rattle.as4_tool.specs.declared.command.DrillKind.TheVariants as kind
use Rattle.as4_tool.specs.declared.limit.TheConstants.{LIMIT}
use Rattle.as4_tool.specs.declared.status.Status.{Status}
use Rattle.as4_tool.specs.declared.status.Status.TheVariants.{BadWords, Done, HostFault, NoMemory, NotUser, ReadFault, Refused, TooLong, WriteFault}

-- the input and the output, before and after
abbrev pub ran : {I O : Type 0} → SourceMeaning I → SinkMeaning O → I → I → O → O → Streams
ran S K input input_later output output_later = between
    (flow (S.left input) (K.taken output) (S.faults input) (K.faults output))
    (flow (S.left input_later) (K.taken output_later) (S.faults input_later) (K.faults output_later))

-- the same where the input is as it was: this is left of it, and it has failed this number of times
abbrev pub wrote : {O : Type 0} → SinkMeaning O → Option (List ℕ) → ℕ → O → O → Streams
wrote K left reads output later = between (flow left (K.taken output) reads (K.faults output)) (flow left (K.taken later) reads (K.faults later))

-- the tasks that read the whole input, within the limit
abbrev pub ReadsFile : Task → Type 0
ReadsFile (answer stamp nonce) = Unit {0}
ReadsFile check = Unit {0}
ReadsFile (drill kind.Drawing) = Unit {0}
ReadsFile (submit local mode conversation media) = Unit {0}
ReadsFile other = ⊥

-- the tasks that write line by line
abbrev pub WritesLinewise : Task → Type 0
WritesLinewise (drill kind.Pair) = Unit {0}
WritesLinewise (drill kind.Hub) = Unit {0}
WritesLinewise (collect local first count folder) = Unit {0}
WritesLinewise (suite what) = Unit {0}
WritesLinewise other = ⊥

-- what holds of a run of any task: the input's and the output's part
pub record Streamed (task : Task) (status : Status) (streams : Streams) : Type 0 where
  pub too_long : code_of status ≡ code_of TooLong → Told streams.left (λ file. LIMIT < length file)
  pub not_user : code_of status ≡ code_of NotUser
      → Told streams.left (λ file. (length file ≤ LIMIT) × IsSignalFile file) × Told streams.rest (λ rest. rest ≡ [])
  pub reads : ReadsFile task → LosesFront (LIMIT + 1) streams.left streams.rest
  pub silent : ¬ WritesLinewise task → code_of status ≢ code_of Done → code_of status ≢ code_of Refused
      → code_of status ≢ code_of WriteFault → streams.later ≡ streams.taken
  pub right : code_of status ≢ code_of BadWords
  pub counted : (streams.read_faults ≤ streams.later_read_faults) × (streams.write_faults ≤ streams.later_write_faults)

-- a run of a task without the host: how it ended, and which stream has failed
pub record RunsOver (task : Task) (status : Status) (streams : Streams) : Type 0 where
  pub ends : Ends task status streams
  pub read_faults : TellsFaults ReadFault (code_of status) streams.read_faults streams.later_read_faults
  pub write_faults : TellsFaults WriteFault (code_of status) streams.write_faults streams.later_write_faults
  pub streamed : Streamed task status streams

-- the status means that one of two counts of faults has risen; with any other status both are unchanged
abbrev pub TellsEither : Status → ℕ → ℕ → ℕ → ℕ → ℕ → Type 0
TellsEither fault code one later other after =
    (code ≡ code_of fault → Rose one later ⊎ Rose other after) × (code ≢ code_of fault → (later ≡ one) × (after ≡ other))

-- the text of the response was written, and its status is the run's; or there is none
abbrev pub Shows : SubmitEnd → Status → Option (List ℕ) → Option (List ℕ) → Type 0
Shows (submit_end.Accepted text) status taken later = WritesAs Done text status taken later
Shows (submit_end.Refused number text) status taken later = WritesAs Refused text status taken later
Shows other status taken later = (status ≡ status_of_submission other) × (later ≡ taken)

-- whether the output has failed while the text was written
abbrev pub ShowsFaults : SubmitEnd → Status → ℕ → ℕ → Type 0
ShowsFaults (submit_end.Accepted text) status faults later = TellsFaults WriteFault (code_of status) faults later
ShowsFaults (submit_end.Refused number text) status faults later = TellsFaults WriteFault (code_of status) faults later
ShowsFaults other status faults later = later ≡ faults

module _ {H Store Door Dialer Time Dice DoorIn DoorOut DialerIn DialerOut : Type 0} (M : HostMeaning H Store Door Dialer Time Dice DoorIn DoorOut DialerIn DialerOut)
    {L In Out : Type 0} (K : LinkMeaning L In Out) where
  -- the input is within the limit and was read to its end, and was submitted once
  pub record SubmitsInput (local mode conversation media : List ℕ) (status : Status) (streams : Streams) (old new : H) : Type 0 where
    pub document : List ℕ
    pub end : SubmitEnd
    pub came : Told streams.left (λ file. (length file ≤ LIMIT) × (file ≡ document))
    pub whole : Told streams.rest (λ rest. rest ≡ [])
    pub submits : Submits M K local (submit_request local mode conversation media document) old new end
    pub answered : Told (first_of (M.answers old)) (IsAnswerTo end)
    pub sent : SendsOnce (submit_request local mode conversation media document) (M.sent new) end
    pub addresses : Told (M.addresses new) (All (λ a. a ≡ local))
    pub shows : Shows end status streams.taken streams.later

  -- the host wasn't asked, for one of these causes
  abbrev pub IsUnsubmitted : Status → H → H → Type 0
  IsUnsubmitted status old new = IsOneOf (ReadFault ∷ NoMemory ∷ TooLong ∷ []) status × (new ≡ old)

  pub record RunsSubmit (local mode conversation media : List ℕ) (status : Status) (streams : Streams) (old new : H) : Type 0 where
    pub ends : SubmitsInput local mode conversation media status streams old new ⊎ IsUnsubmitted status old new
    pub read_faults : TellsEither ReadFault (code_of status) streams.read_faults streams.later_read_faults (M.reads old) (M.reads new)
    pub write_faults : TellsEither WriteFault (code_of status) streams.write_faults streams.later_write_faults (M.writes old) (M.writes new)
    pub host_faults : TellsFaults HostFault (code_of status) (M.fault_count old) (M.fault_count new)
    pub streamed : Streamed (submit local mode conversation media) status streams

  module _ {O : Type 0} (S : SinkMeaning O) where
    pub record RunsCollect (local : List ℕ) (first count : ℕ) (folder : List ℕ) (status : Status) (old new : H) (before after : O) : Type 0 where
      pub end : CollectEnd
      pub status_is : status ≡ status_of_collection end
      pub collects : Collects M K S local folder first count old new before after end
      pub lines : WritesLines M folder (M.answers old) first count new (S.taken before) (S.taken after) end
      pub sent : SendsRequests M local folder (M.answers old) first count new (M.sent new) end
      pub addresses : Told (M.addresses new) (All (λ a. a ≡ local))
      pub ended : (j : ℕ) × Told (answer_of j (M.answers old)) (IsLastAnswer end)
      pub others : KeepsOthers M folder first count old new
      pub read_faults : TellsFaults ReadFault (code_of status) (M.reads old) (M.reads new)
      pub write_faults : TellsEither WriteFault (code_of status) (S.faults before) (S.faults after) (M.writes old) (M.writes new)
      pub host_faults : TellsFaults HostFault (code_of status) (M.fault_count old) (M.fault_count new)

module _ {H Store Door Dialer Time Dice DoorIn DoorOut DialerIn DialerOut : Type 0} (M : HostMeaning H Store Door Dialer Time Dice DoorIn DoorOut DialerIn DialerOut)
    {O : Type 0} (S : SinkMeaning O) where
  pub record RunsAudit (modes journal : List ℕ) (draws : Bool) (status : Status) (old new : H) (before after : O) : Type 0 where
    pub end : AuditEnd
    pub status_is : status ≡ status_of_audit end
    pub audits : AuditsBy M modes journal (if draws then form.Drawing else form.Lines) old new (S.taken before) (S.taken after) end
    pub reads : ReadsAmong M (modes ∷ files_of journal) old new
    pub write_faults : TellsFaults WriteFault (code_of status) (S.faults before) (S.faults after)
    pub host_faults : TellsFaults HostFault (code_of status) (M.fault_count old) (M.fault_count new)

  pub record RunsRelay (D : DiskMeaning Store) (T : ClockMeaning Time) (R : NoncesMeaning Dice) (modes journal mode : List ℕ) (count : ℕ) (status : Status) (old new : H) (before after : O) : Type 0 where
    pub end : RelayerEnd
    pub status_is : status ≡ status_of_relaying end
    pub relays : (found : RelayerEnd) × RelaysBy M D T R modes journal mode count old new (S.taken before) (S.taken after) found
        × IsJudged found (M.fault_count old) (M.fault_count new) end
    pub touches : Touches M (modes ∷ files_of journal) journal old new
    pub store : LeavesStore M (AreModesOf (M.file old modes)) journal old new
    pub write_faults : TellsFaults WriteFault (code_of status) (S.faults before) (S.faults after)

-- the input of a task that reads none is as it was
abbrev pub LeavesInput : {I : Type 0} → Task → I → I → Type 0
LeavesInput help input later = later ≡ input
LeavesInput version input later = later ≡ input
LeavesInput (generate seed count) input later = later ≡ input
LeavesInput (collect local first count folder) input later = later ≡ input
LeavesInput (audit modes journal draws) input later = later ≡ input
LeavesInput (relay modes journal mode count) input later = later ≡ input
LeavesInput (suite what) input later = later ≡ input
LeavesInput (handler modes journal peer local workers turns keep) input later = later ≡ input
LeavesInput other input later = Unit {0}

module _ {I O : Type 0} (S : SourceMeaning I) (W : SinkMeaning O)
    {H Store Door Dialer Time Dice DoorIn DoorOut DialerIn DialerOut : Type 0} (M : HostMeaning H Store Door Dialer Time Dice DoorIn DoorOut DialerIn DialerOut)
    {L In Out : Type 0} (K : LinkMeaning L In Out) (D : DiskMeaning Store) (T : ClockMeaning Time) (R : NoncesMeaning Dice) where
  -- what a run of each task does
  abbrev pub Does : Task → Status → I → I → O → O → H → H → Type 0
  Does (submit local mode conversation media) status input later output after old new =
      RunsSubmit M K local mode conversation media status (ran S W input later output after) old new
  Does (collect local first count folder) status input later output after old new =
      RunsCollect M K W local first count folder status old new output after
  Does (audit modes journal draws) status input later output after old new = RunsAudit M W modes journal draws status old new output after
  Does (relay modes journal mode count) status input later output after old new =
      RunsRelay M W D T R modes journal mode count status old new output after
  Does (handler modes journal peer local workers turns keep) status input later output after old new =
      (status ≡ BadWords) × (after ≡ output) × (new ≡ old)
  Does task status input later output after old new = RunsOver task status (ran S W input later output after) × (new ≡ old)

  -- a run of a task
  pub record Runs (task : Task) (status : Status) (input later : I) (output after : O) (old new : H) : Type 0 where
    pub does : Does task status input later output after old new
    pub untouched : LeavesInput task input later

  -- nothing was done
  abbrev pub IsIdle : I → I → O → O → H → H → Type 0
  IsIdle input later output after old new = (later ≡ input) × (after ≡ output) × (new ≡ old)

  -- the words were read and their task was done; or they spell none, or there was no memory to read them
  abbrev pub Obeys : List (List ℕ) → Status → I → I → O → O → H → H → Type 0
  Obeys words status input later output after old new =
      ((task : Task) × Spells words task × IsAlone task × Runs task status input later output after old new)
      ⊎ (IsOneOf (NoMemory ∷ BadWords ∷ []) status × IsIdle input later output after old new)
