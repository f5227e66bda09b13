-- The commands of the program, and the words that spell them: its own choice.
use Rattle.std.specs.Prelude.{◌≡◌, ℕ, ◌^◌, ◌<◌, ◌≤◌, ◌⊎◌, List, [], ◌∷◌, All, Bool, false, true, if◌then◌else◌, IsTrue, Option, None, Some, codes, decimal, length}
use Rattle.std.specs.Str.{IsUtf8}
use Rattle.clap.specs.Walk.{Row, first_of, all_of}
use Rattle.clap.specs.Faults.{fault_of}
use Rattle.clap.specs.declared.error.kind.ErrorKind.{ErrorKind}
use Rattle.clap.specs.declared.error.kind.ErrorKind.TheVariants.{DisplayHelp, DisplayVersion}
use Rattle.as4_values.specs.Address.{is_address}
use Rattle.as4_values.specs.Payload.{is_media_text}
use Rattle.as4_values.specs.declared.moment.TheConstants.{MAX_MOMENT}
use Rattle.as4_http.specs.Written.{target}
use Rattle.as4_tool.specs.Words.{Names, as4}
use Rattle.as4_tool.specs.declared.command.Command.{Command}
use Rattle.as4_tool.specs.declared.command.Command.TheVariants as command
use Rattle.as4_tool.specs.declared.command.DrillKind.{DrillKind}
use Rattle.as4_tool.specs.declared.command.DrillKind.TheVariants as kind
use Rattle.as4_tool.specs.declared.command.Suite.{Suite}
use Rattle.as4_tool.specs.declared.command.Suite.TheVariants as what

-- what the program is asked to do
pub data Task : Type 0 where
  help : Task
  version : Task
  answer : ℕ → ℕ → Task
  check : Task
  drill : DrillKind → Task
  generate : ℕ → ℕ → Task
  handler : List ℕ → List ℕ → List ℕ → List ℕ → ℕ → ℕ → ℕ → Task
  submit : List ℕ → List ℕ → List ℕ → List ℕ → Task
  collect : List ℕ → ℕ → ℕ → List ℕ → Task
  audit : List ℕ → List ℕ → Bool → Task
  relay : List ℕ → List ℕ → List ℕ → ℕ → Task
  suite : Suite → Task

-- a command, whose texts are borrowed, as a task
abbrev pub task_of : Command → Task
task_of command.Help = help
task_of command.Version = version
task_of (command.Answer stamp nonce) = answer stamp nonce
task_of command.Check = check
task_of (command.Drill script) = drill script
task_of (command.Generate seed count) = generate seed count
task_of (command.Handler s) = handler s.modes.now s.journal.now s.peer.now s.local.now s.workers s.turns s.keep
task_of (command.Submit s) = submit s.local.now s.mode.now s.conversation.now s.media.now
task_of (command.Collect c) = collect c.local.now c.first c.count c.folder.now
task_of (command.Audit j draws) = audit j.modes.now j.journal.now draws
task_of (command.Relay r) = relay r.from.modes.now r.from.journal.now r.mode.now r.count
task_of (command.Suite what) = suite what

-- an address of a service: its target is `/`
abbrev pub IsService : List ℕ → Type 0
IsService address = IsTrue (is_address address) × (target address ≡ codes "/")

-- a number of at most 2^63
abbrev pub IsCount : ℕ → Type 0
IsCount n = n ≤ 2 ^ 63

-- the bytes of a mode's name
abbrev pub IsMode : List ℕ → Type 0
IsMode mode = (1 ≤ length mode) × (length mode ≤ 255)

-- the number of workers, 4 if none is given
abbrev pub IsWorkers : Option (List ℕ) → ℕ → Type 0
IsWorkers None n = n ≡ 4
IsWorkers (Some text) n = (text ≡ decimal n) × (1 ≤ n) × (n ≤ 11)

-- the number of turns, 2^63 if none is given
abbrev pub IsTurns : Option (List ℕ) → ℕ → Type 0
IsTurns None n = n ≡ 2 ^ 63
IsTurns (Some text) n = (text ≡ decimal n) × IsCount n

-- the number of requests of a connection, 1 if none is given
abbrev pub IsKeep : Option (List ℕ) → ℕ → Type 0
IsKeep None n = n ≡ 1
IsKeep (Some text) n = (text ≡ decimal n) × (1 ≤ n) × (n ≤ 1000)

-- the value of this name is this text
abbrev pub Has : List Row → List ℕ → List ℕ → Type 0
Has rows name text = first_of name rows ≡ Some text

-- the flag of this name is given or not
abbrev pub IsFlag : List Row → List ℕ → Bool → Type 0
IsFlag rows name given = Has rows name (if given then codes "true" else codes "false")

-- the flags of a drill of a script
abbrev pub is_drawn : DrillKind → Bool
is_drawn kind.Drawing = true
is_drawn other = false

abbrev pub has_hub : DrillKind → Bool
has_hub kind.Hub = true
has_hub other = false

-- the flags of a suite
abbrev pub verifies : Suite → Bool
verifies what.Verify = true
verifies other = false

abbrev pub lists : Suite → Bool
lists what.List = true
lists other = false

-- these values are those of a task
abbrev pub Gives : List Row → Task → Type 0
Gives rows help = ⊥
Gives rows version = ⊥
Gives rows (answer stamp nonce) =
    Has rows (codes "STAMP") (decimal stamp) × Has rows (codes "NONCE") (decimal nonce) × (stamp ≤ MAX_MOMENT) × (nonce < 2 ^ 128)
Gives rows check = Unit {0}
Gives rows (drill script) =
    (all_of (codes "generate") rows ≡ None) × IsFlag rows (codes "draw") (is_drawn script) × IsFlag rows (codes "hub") (has_hub script)
Gives rows (generate seed count) =
    ((all_of (codes "generate") rows ≡ Some (decimal seed ∷ decimal count ∷ [])) × IsFlag rows (codes "draw") false
    × IsFlag rows (codes "hub") false)
    × (seed < 2 ^ 64) × (count ≤ 1000)
Gives rows (handler modes journal peer local workers turns keep) =
    (Has rows (codes "MODES") modes × Has rows (codes "JOURNAL") journal)
    × (Has rows (codes "PEER") peer × IsService peer)
    × (Has rows (codes "LOCAL") local × IsService local)
    × IsWorkers (first_of (codes "workers") rows) workers
    × IsTurns (first_of (codes "turns") rows) turns
    × IsKeep (first_of (codes "keep") rows) keep
Gives rows (submit local mode conversation media) =
    (Has rows (codes "LOCAL") local × IsService local)
    × (Has rows (codes "MODE") mode × IsMode mode)
    × (Has rows (codes "CONVERSATION") conversation × (length conversation ≤ 255))
    × (Has rows (codes "MEDIA") media × IsTrue (is_media_text media))
Gives rows (collect local first count folder) =
    (Has rows (codes "LOCAL") local × IsService local)
    × (Has rows (codes "FIRST") (decimal first) × IsCount first)
    × (Has rows (codes "COUNT") (decimal count) × IsCount count)
    × Has rows (codes "FOLDER") folder
Gives rows (audit modes journal draws) =
    (Has rows (codes "MODES") modes × Has rows (codes "JOURNAL") journal) × IsFlag rows (codes "draw") draws
Gives rows (relay modes journal mode count) =
    (Has rows (codes "MODES") modes × Has rows (codes "JOURNAL") journal)
    × (Has rows (codes "MODE") mode × IsMode mode)
    × (Has rows (codes "COUNT") (decimal count) × (count ≤ 1_048_576))
Gives rows (suite what) = IsFlag rows (codes "verify") (verifies what) × IsFlag rows (codes "list") (lists what)

-- the name of the command that does a task
abbrev pub name_of : Task → List ℕ
name_of help = codes "--help"
name_of version = codes "--version"
name_of (answer stamp nonce) = codes "answer"
name_of check = codes "check"
name_of (drill script) = codes "drill"
name_of (generate seed count) = codes "drill"
name_of (handler modes journal peer local workers turns keep) = codes "handler"
name_of (submit local mode conversation media) = codes "submit"
name_of (collect local first count folder) = codes "collect"
name_of (audit modes journal draws) = codes "audit"
name_of (relay modes journal mode count) = codes "relay"
name_of (suite what) = codes "suite"

-- an error of this kind asks for a task
abbrev pub Asks : ErrorKind → Task → Type 0
Asks kind task = ((task ≡ help) × (kind ≡ DisplayHelp)) ⊎ ((task ≡ version) × (kind ≡ DisplayVersion))

-- these words, each a list of bytes, ask for a task
abbrev pub Spells : List (List ℕ) → Task → Type 0
Spells words help = fault_of as4 words ≡ DisplayHelp ∷ []
Spells words version = fault_of as4 words ≡ DisplayVersion ∷ []
Spells words task = (rows : List Row) × Names words (name_of task) rows × Gives rows task

-- the bounds of a task's numbers
abbrev pub IsWithin : Task → Type 0
IsWithin (answer stamp nonce) = stamp ≤ MAX_MOMENT
IsWithin (generate seed count) = count ≤ 1000
IsWithin (handler modes journal peer local workers turns keep) = ((1 ≤ workers) × (workers ≤ 11)) × ((1 ≤ keep) × (keep ≤ 1000))
IsWithin (collect local first count folder) = IsCount first × IsCount count
IsWithin other = Unit {0}

-- a run that takes one thread alone does each task but that of a handler
abbrev pub IsAlone : Task → Type 0
IsAlone (handler modes journal peer local workers turns keep) = ⊥
IsAlone other = Unit {0}

-- these words are texts and spell a task that is done alone
abbrev pub SpellAlone : List (List ℕ) → Type 0
SpellAlone words = All IsUtf8 words × ((task : Task) × Spells words task × IsAlone task)

-- the one word that asks for the help or the version
abbrev pub AsksForText : List (List ℕ) → Type 0
AsksForText words = (words ≡ codes "--help" ∷ []) ⊎ (words ≡ codes "--version" ∷ [])
