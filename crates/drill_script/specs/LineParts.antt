-- A line as its first word and the rest.
use Rattle.std.specs.Prelude.{◌≡◌, ℕ, ◌≤◌, List, [], ◌∷◌, IsTrue, codes, drop, Option, Some, None}
use Rattle.std.specs.List.{Contains, join_with_byte}
use Rattle.std.specs.Fmt.{decimal}
use Rattle.drill_script.specs.Lacking.{spaced}
use Rattle.drill_script.specs.LineText.{are_bytes, is_line, is_stoppable, line_words, stoppable_words, way_text, hex_text, end_text, link_text}
use Rattle.drill_script.specs.declared.line.EndName.{EndName}
use Rattle.drill_script.specs.declared.line.Line.{Line}
use Rattle.drill_script.specs.declared.line.Line.TheVariants as line
use Rattle.drill_script.specs.declared.line.LinkName.{LinkName}
use Rattle.drill_script.specs.declared.line.ScriptLoad.{ScriptLoad}
use Rattle.drill_script.specs.declared.line.ScriptLoad.TheVariants.{Nothing, Hex, Size}
use Rattle.drill_script.specs.declared.line.Stoppable.{Stoppable}
use Rattle.drill_script.specs.declared.line.Stoppable.TheVariants as stoppable
use Rattle.drill_script.specs.declared.line.Way.{Way}
use Rattle.drill_script.specs.declared.verb.Counted.{Counted}
use Rattle.drill_script.specs.declared.verb.Counted.TheVariants.{Read, Status}
use Rattle.drill_script.specs.declared.verb.RunVerb.{RunVerb}
use Rattle.drill_script.specs.declared.verb.RunVerb.TheVariants.{Submit, Tick, Take, Came, Confirm}
use Rattle.drill_script.specs.declared.verb.Verb.{Verb}
use Rattle.drill_script.specs.declared.verb.Verb.TheVariants.{Mode, Run, Ask, Relay, Pair, Lost, Count, Crash, Stop, Fold}

-- the first word of a line that can be stopped
abbrev pub run_verb_text : RunVerb → List ℕ
run_verb_text Submit = codes "submit"
run_verb_text Tick = codes "tick"
run_verb_text Take = codes "take"
run_verb_text Came = codes "came"
run_verb_text Confirm = codes "confirm"

-- the first word of a line that names an endpoint and a number, and can't be stopped
abbrev pub counted_text : Counted → List ℕ
counted_text Read = codes "read"
counted_text Status = codes "status"

-- the first word
abbrev pub verb_text : Verb → List ℕ
verb_text Mode = codes "mode"
verb_text (Run verb) = run_verb_text verb
verb_text Ask = codes "ask"
verb_text Relay = codes "relay"
verb_text Pair = codes "pair"
verb_text Lost = codes "lost"
verb_text (Count counted) = counted_text counted
verb_text Crash = codes "crash"
verb_text Stop = codes "stop"
verb_text Fold = codes "fold"

-- the first words of lines whose reading may allocate memory
abbrev pub kept_words : List (List ℕ)
kept_words = codes "mode" ∷ codes "submit" ∷ codes "ask" ∷ codes "relay" ∷ codes "pair" ∷ codes "stop" ∷ []

-- bytes that begin with such a word and a space
abbrev pub BeginsKept : List ℕ → Type 0
BeginsKept bytes = (word : List ℕ) × (tail : List ℕ) × Contains kept_words word × (bytes ≡ spaced word tail)

-- reading a line with this first word may allocate memory
abbrev pub IsKept : Verb → Type 0
IsKept Mode = Unit {0}
IsKept (Run Submit) = Unit {0}
IsKept (Run verb) = ⊥
IsKept Ask = Unit {0}
IsKept Relay = Unit {0}
IsKept Pair = Unit {0}
IsKept Lost = ⊥
IsKept (Count counted) = ⊥
IsKept Crash = ⊥
IsKept Stop = Unit {0}
IsKept Fold = ⊥

-- the line that names an endpoint and a number
abbrev pub counted_line : Counted → EndName → ℕ → Line
counted_line Read end number = line.Read end number
counted_line Status end number = line.Status end number

-- a load, from the bytes before and after a `=`
abbrev pub IsKeyed : List ℕ → List ℕ → ScriptLoad → Type 0
IsKeyed key value Nothing = ⊥
IsKeyed key value (Hex bytes) = (key ≡ codes "hex") × (value ≡ hex_text bytes) × IsTrue (are_bytes bytes)
IsKeyed key value (Size size) = (key ≡ codes "size") × (value ≡ decimal size) × (size ≤ 16777216)

-- the verb of a line that can be stopped
abbrev pub run_verb_of : Stoppable → RunVerb
run_verb_of (stoppable.Submit end mode load) = Submit
run_verb_of (stoppable.Tick end moment) = Tick
run_verb_of (stoppable.Take end) = Take
run_verb_of (stoppable.Came end from number) = Came
run_verb_of (stoppable.Confirm end number) = Confirm

-- the verb of a line
abbrev pub verb_of : Line → Verb
verb_of (line.Mode name link way retries period) = Mode
verb_of (line.Run l) = Run (run_verb_of l)
verb_of (line.Ask end mode) = Ask
verb_of (line.Relay end mode) = Relay
verb_of (line.Pair end mode number) = Pair
verb_of (line.Lost end from number) = Lost
verb_of (line.Read end number) = Count Read
verb_of (line.Status end number) = Count Status
verb_of (line.Crash end) = Crash
verb_of (line.Stop call pick l) = Stop
verb_of (line.Fold end) = Fold

-- a mode's way and its two numbers
abbrev pub settings_text : Way → ℕ → ℕ → List ℕ
settings_text way retries period = spaced (way_text way) (spaced (decimal retries) (decimal period))

-- a link, where it is named, and the rest
abbrev pub linked_text : Option LinkName → List ℕ → List ℕ
linked_text None rest = rest
linked_text (Some link) rest = spaced (link_text link) rest

-- an endpoint, the endpoint that a package comes from, where it is named, and a number
abbrev pub arrival_text : EndName → Option EndName → ℕ → List ℕ
arrival_text end None number = spaced (end_text end) (decimal number)
arrival_text end (Some from) number = spaced (end_text end) (spaced (end_text from) (decimal number))

-- the words after the first, in one text
abbrev pub tail_of : List (List ℕ) → List ℕ
tail_of words = join_with_byte 32 (drop 1 words)

-- the stoppable line has this verb and this tail, and its values are in range
pub record SpellsRun (verb : RunVerb) (tail : List ℕ) (l : Stoppable) : Type 0 where
  pub verb_is : run_verb_of l ≡ verb
  pub tail_is : tail ≡ tail_of (stoppable_words l)
  pub in_range : IsTrue (is_stoppable l)

-- the line has this verb and this tail, and its values are in range
pub record Spells (verb : Verb) (tail : List ℕ) (line : Line) : Type 0 where
  pub verb_is : verb_of line ≡ verb
  pub tail_is : tail ≡ tail_of (line_words line)
  pub in_range : IsTrue (is_line line)
