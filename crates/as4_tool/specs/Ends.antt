-- How a run ends: its status, and what it has written.
use Rattle.std.specs.Prelude.{◌≡◌, ◌≢◌, ℕ, ◌≤◌, ◌⊎◌, List, [], ◌∷◌, Bool, false, true, if◌then◌else◌, Option, None, Some, length}
use Rattle.as4_flow.specs.Flow.{Streams, Told, Rose, appended, TakesFront}
use Rattle.drill.specs.Ends.{Ends as DrillEnds}
use Rattle.drill.specs.Generated.{GeneratedEnds}
use Rattle.drill.specs.Playing.{chain_meaning, pair_meaning}
use Rattle.drill.specs.declared.script.DrillEnd.{DrillEnd}
use Rattle.drill.specs.declared.script.DrillEnd.TheVariants as drill_end
use Rattle.as4_tool.specs.Answer.{IsAnswer, IsFileLine}
use Rattle.as4_tool.specs.Status.{IsOneOf, code_of, status_of}
use Rattle.as4_tool.specs.Suites.{RunsSuite, output}
use Rattle.as4_tool.specs.declared.command.DrillKind.TheVariants as kind
use Rattle.as4_tool.specs.declared.texts.TheConstants.{HELP, VERSION}
use Rattle.as4_tool.specs.declared.limit.TheConstants.{LIMIT}
use Rattle.as4_tool.specs.Command.{Task, answer, check, drill, generate, help, suite, version}
use Rattle.as4_tool.specs.declared.status.Status.{Status}
use Rattle.as4_tool.specs.declared.status.Status.TheVariants.{Done, Refused, WrongLine, ReadFault, WriteFault, NoMemory, TooManyEvents, NotUser, TooLong}

-- the whole text was appended and the run ends with `end`, or a prefix of it was written before the output failed
abbrev pub WritesAs : Status → List ℕ → Status → Option (List ℕ) → Option (List ℕ) → Type 0
WritesAs end text status taken later =
    ((status ≡ end) × (later ≡ appended taken text))
    ⊎ ((status ≡ WriteFault) × TakesFront text taken later)

abbrev pub Writes : List ℕ → Status → Option (List ℕ) → Option (List ℕ) → Type 0
Writes text status taken later = WritesAs Done text status taken later

-- the status of this fault means that the stream has failed; with any other status its fault count is unchanged
abbrev pub TellsFaults : Status → ℕ → ℕ → ℕ → Type 0
TellsFaults fault code faults later =
    (code ≡ code_of fault → Rose faults later) × (code ≢ code_of fault → later ≡ faults)

-- the input is within the limit and was read to its end, and its answer was written
abbrev pub Answers : ℕ → ℕ → Status → Streams → Type 0
Answers stamp nonce status streams =
    (reply : List ℕ) × Told streams.left (λ file. (length file ≤ LIMIT) × IsAnswer stamp nonce file reply)
    × Told streams.rest (λ rest. rest ≡ []) × Writes reply status streams.taken streams.later

-- the input is within the limit and was read to its end, and its check line was written; the status says whether it is
-- refused
abbrev pub Checks : Status → Streams → Type 0
Checks status streams =
    (line : List ℕ) × (refused : Bool) × Told streams.left (λ file. (length file ≤ LIMIT) × IsFileLine file line refused)
    × Told streams.rest (λ rest. rest ≡ []) × WritesAs (if refused then Refused else Done) line status streams.taken streams.later

-- the drill of this script ends so
abbrev pub IsDrillOf : List ℕ → DrillEnd → Type 0
IsDrillOf script end = (streams : Streams) × (streams.left ≡ Some script) × DrillEnds pair_meaning end streams

-- the input is within the limit and was read to its end, its script was played to its end, and a drawing was written, of which
-- nothing is said
abbrev pub Draws : Status → Streams → Type 0
Draws status streams =
    (drawing : List ℕ) × Told streams.left (λ script. (length script ≤ LIMIT) × IsDrillOf script drill_end.Read)
    × Told streams.rest (λ rest. rest ≡ []) × Writes drawing status streams.taken streams.later

-- why a script isn't drawn
abbrev pub IsUndrawn : List ℕ → Status → Type 0
IsUndrawn script (WrongLine number) = IsDrillOf script (drill_end.Line number)
IsUndrawn script TooManyEvents = IsDrillOf script drill_end.TooMany
IsUndrawn script NoMemory = Unit {0}
IsUndrawn script other = ⊥

-- the input is within the limit and was read to its end, and its script isn't drawn
abbrev pub DrawsNone : Status → Streams → Type 0
DrawsNone status streams =
    Told streams.left (λ script. (length script ≤ LIMIT) × IsUndrawn script status) × Told streams.rest (λ rest. rest ≡ [])
    × (streams.later ≡ streams.taken)

-- the streams of a command that reads no input
abbrev pub no_input : Streams → Streams
no_input streams = record streams { left = None; rest = None; read_faults = 0; later_read_faults = 0 }

-- the possible ends of each task without the host, given the input and the output before and after
abbrev pub Ends : Task → Status → Streams → Type 0
Ends help status streams = Writes HELP.now status streams.taken streams.later
Ends version status streams = Writes VERSION.now status streams.taken streams.later
Ends (answer stamp nonce) status streams =
    Answers stamp nonce status streams
    ⊎ IsOneOf (ReadFault ∷ NoMemory ∷ NotUser ∷ TooLong ∷ []) status
Ends check status streams = Checks status streams ⊎ IsOneOf (ReadFault ∷ NoMemory ∷ TooLong ∷ []) status
Ends (drill kind.Pair) status streams = (end : DrillEnd) × (status ≡ status_of end) × DrillEnds pair_meaning end streams
Ends (drill kind.Hub) status streams = (end : DrillEnd) × (status ≡ status_of end) × DrillEnds chain_meaning end streams
Ends (drill kind.Drawing) status streams =
    Draws status streams ⊎ DrawsNone status streams ⊎ IsOneOf (ReadFault ∷ NoMemory ∷ TooLong ∷ []) status
Ends (generate seed count) status streams =
    (end : DrillEnd) × (status ≡ status_of end) × GeneratedEnds seed count end (no_input streams)
Ends (suite what) status streams = RunsSuite what status (output streams.taken streams.write_faults) (output streams.later streams.later_write_faults)
Ends other status streams = ⊥
