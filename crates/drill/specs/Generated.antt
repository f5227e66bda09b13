-- The world that a seed and a count generate, by this program's own rules: a script that writes itself, by what the
-- ends have sent so far.
--
-- Both ends have the mode `invoice`, which pushes with 10 retries and a period of 3,000 milliseconds. End a submits so
-- many messages. In each of eleven rounds its clock is set to 3,000 times the round, from 0, and it takes until nothing
-- is pushed. A counter begins at 0, and each package that is carried takes its number c and raises it by one:
-- the package is lost where c mod 3 is 2; else it comes, and where c mod 5 is 4 it comes once more, with the reply lost.
-- The first answer to a message that came is carried next, by the same rule. Last, a's clock is set to 33,000.
use Rattle.std.specs.Prelude.{◌≡◌, ℕ, zero, suc, ◌+◌, ◌*◌, ◌/◌, ◌%◌, ◌^◌, ◌==◌, ◌⊎◌, List, [], ◌∷◌, ◌++◌, true, false, if◌then◌else◌, None, Some, length, codes}
use Rattle.as4_flow.specs.Flow.{Streams, appended, TakesFront}
use Rattle.as4_effects.specs.declared.effect.Effect.TheVariants as effect
use Rattle.as4_effects.specs.declared.queue.Queue.TheVariants as queue
use Rattle.drill.specs.Ends.{CountsAt}
use Rattle.drill_world.specs.Transcript.{DrillState, PlaysAll, new_state, end_lines}
use Rattle.drill.specs.declared.script.DrillEnd.{DrillEnd}
use Rattle.drill.specs.declared.script.DrillEnd.TheVariants as ends
use Rattle.drill_script.specs.declared.line.EndName.{EndName}
use Rattle.drill_script.specs.declared.line.EndName.TheVariants as name
use Rattle.drill_script.specs.declared.line.Line.{Line}
use Rattle.drill_script.specs.declared.line.Line.TheVariants as line
use Rattle.drill_script.specs.declared.line.ScriptLoad.TheVariants.{Size}
use Rattle.drill_script.specs.declared.line.Stoppable.TheVariants as run
use Rattle.drill_script.specs.declared.line.Way.TheVariants.{Push}
use Rattle.exchange_model.specs.DeliveredOnce.{HasDeliveredOnce}
use Rattle.exchange_model.specs.End.{End}
use Rattle.exchange_model.specs.Questions.{head_of}
use Rattle.exchange_model.specs.Table.{has_room}
use Rattle.exchange_model.specs.declared.sent.Sent.{Sent}

abbrev pub invoice : List ℕ
invoice = codes "invoice"

-- the numbers that follow a seed (a linear congruential sequence)
unfoldable pub next_number : ℕ → ℕ
next_number x = (x * 6364136223846793005 + 1442695040888963407) % 2 ^ 64

-- how many bytes a message has
abbrev pub size_by : ℕ → ℕ → ℕ
size_by seed x = if seed == 0 then 40960 else (x / 2 ^ 33) % 40961

-- so many submissions, where the last number was x
abbrev pub submissions : ℕ → ℕ → ℕ → List Line
submissions seed x zero = []
submissions seed x (suc count) =
    line.Run (run.Submit name.A invoice (Size (size_by seed (next_number x)))) ∷ submissions seed (next_number x) count

-- the other end's package of this place is carried to an end, with this number of the counter
abbrev pub carried : ℕ → EndName → ℕ → List Line
carried c end place =
    if c % 3 == 2 then [] else line.Run (run.Came end None place) ∷ (if c % 5 == 4 then line.Lost end None place ∷ [] else [])

-- a's package of the first place is carried to end b, and what b answers to it, b's of the second place, to end a
abbrev pub carried_both : ℕ → ℕ → ℕ → List Line
carried_both c place answer = if c % 3 == 2 then [] else carried c name.B place ++ carried (c + 1) name.A answer

-- end a takes a package, which gets the first place among a's, and it is carried; what end b answers to it gets the
-- second place, among b's
abbrev pub transmission : ℕ → ℕ → ℕ → List Line
transmission c place answer = line.Run (run.Take name.A) ∷ carried_both c place answer

-- the counter behind such a transmission
abbrev pub counted : ℕ → ℕ
counted c = if c % 3 == 2 then c + 1 else c + 2

-- the lines are played, whatever they write
abbrev pub Leads : List Line → DrillState → DrillState → Type 0
Leads lines old new = (text : List ℕ) × PlaysAll lines old text new

-- end a pushes a message where it takes: one is to be pushed, and its journal has room for one more try
abbrev pub Pushes : End → Type 0
Pushes end =
    (s : Sent) × (head_of queue.Push end ≡ Some s) × (has_room end (effect.Tried s.submission.number ∷ []) ≡ true)

-- it pushes none: none is to be pushed, or its journal has no room
abbrev pub PushesNone : End → Type 0
PushesNone end =
    (head_of queue.Push end ≡ None)
    ⊎ ((s : Sent) × (head_of queue.Push end ≡ Some s) × (has_room end (effect.Tried s.submission.number ∷ []) ≡ false))

-- end a takes so many packages
abbrev pub Taken : ℕ → ℕ → DrillState → ℕ → DrillState → Type 0
Taken zero c old later new = (later ≡ c) × (new ≡ old)
Taken (suc takes) c old later new =
    (mid : DrillState) × Pushes old.world.left.end
    × Leads (transmission c (length old.world.left.said) (length old.world.right.said)) old mid
    × Taken takes (counted c) mid later new

-- and then pushes none
abbrev pub TakesAll : ℕ → ℕ → DrillState → ℕ → DrillState → Type 0
TakesAll takes c old later new =
    (mid : DrillState) × Taken takes c old later mid × PushesNone mid.world.left.end
    × Leads (line.Run (run.Take name.A) ∷ []) mid new

abbrev pub ticks_a : ℕ → List Line
ticks_a moment = line.Run (run.Tick name.A moment) ∷ []

-- one round
abbrev pub PlaysRound : ℕ → ℕ → DrillState → ℕ → DrillState → Type 0
PlaysRound round c old later new =
    (begun : DrillState) × (takes : ℕ) × Leads (ticks_a (3000 * round)) old begun × TakesAll takes c begun later new

-- so many rounds from this one on
abbrev pub Rounds : ℕ → ℕ → ℕ → DrillState → DrillState → Type 0
Rounds zero round c old new = new ≡ old
Rounds (suc rounds) round c old new =
    (later : ℕ) × (done : DrillState) × PlaysRound round c old later done × Rounds rounds (suc round) later done new

-- what the seed and the count lead to
unfoldable pub IsGenerated : ℕ → ℕ → DrillState → Type 0
IsGenerated seed count state =
    (begun : DrillState) × (done : DrillState)
    × Leads (line.Mode invoice None Push 10 3000 ∷ submissions seed seed count) new_state begun
    × Rounds 11 0 0 begun done × Leads (ticks_a 33000) done state

-- by what the seed and the count lead to: the numbers of both ends are written, and each message was delivered once
abbrev pub GeneratedAt : ℕ → ℕ → DrillEnd → Streams → Type 0
GeneratedAt seed count ends.Read streams =
    (state : DrillState) × IsGenerated seed count state × HasDeliveredOnce state.world
    × (streams.later ≡ appended streams.taken (end_lines state.world))
GeneratedAt seed count ends.WriteFault streams =
    (state : DrillState) × IsGenerated seed count state × HasDeliveredOnce state.world
    × TakesFront (end_lines state.world) streams.taken streams.later
GeneratedAt seed count ends.NoMemory streams = streams.later ≡ streams.taken
GeneratedAt seed count other streams = ⊥

-- how the generated world ends
abbrev pub GeneratedEnds : ℕ → ℕ → DrillEnd → Streams → Type 0
GeneratedEnds seed count end streams = GeneratedAt seed count end streams × CountsAt end streams
