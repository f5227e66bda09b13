-- How a drill ends: what it has read, and what it has written then.
use Rattle.std.specs.Prelude.{◌≡◌, ℕ, ◌+◌, ◌<◌, ◌≤◌, ◌⊎◌, List, [], ◌∷◌, ◌++◌, true, false, length}
use Rattle.as4_flow.specs.Flow.{Rose, Streams, Told, appended, LosesFront, TakesFront}
use Rattle.drill_world.specs.Transcript.{lines_limit, script_text}
use Rattle.drill.specs.declared.play.Play.{Ghosts as PlayMeaning}
use Rattle.drill.specs.declared.script.DrillEnd.{DrillEnd}
use Rattle.drill.specs.declared.script.DrillEnd.TheVariants as ends
use Rattle.drill_script.specs.LineText.{line_text}
use Rattle.drill_script.specs.Lines.{ahead_limit}
use Rattle.drill_script.specs.declared.line.Line.{Line}

-- the script is these lines, and this behind them
abbrev pub Reads : List Line → List ℕ → Streams → Type 0
Reads lines rest streams = Told streams.left (λ script. script ≡ script_text lines ++ rest)

-- a count of faults has risen where the drill ended by it, and the others are as they were
abbrev pub CountsAt : DrillEnd → Streams → Type 0
CountsAt ends.ReadFault streams =
    Rose streams.read_faults streams.later_read_faults × (streams.later_write_faults ≡ streams.write_faults)
CountsAt ends.WriteFault streams =
    (streams.later_read_faults ≡ streams.read_faults) × Rose streams.write_faults streams.later_write_faults
CountsAt other streams =
    (streams.later_read_faults ≡ streams.read_faults) × (streams.later_write_faults ≡ streams.write_faults)

-- the source was read to its end, or has lost the lines that were played and at most what is read ahead
abbrev pub LeavesAt : DrillEnd → List Line → Streams → Type 0
LeavesAt ends.Read lines streams = Told streams.rest (λ rest. rest ≡ [])
LeavesAt other lines streams = LosesFront (length (script_text lines) + ahead_limit) streams.left streams.rest

module _ {P : Type 0} (M : PlayMeaning P) where
  -- these lines were played from the start, this is what they wrote, and each message was delivered once
  pub record Played (lines : List Line) (text : List ℕ) (state : P) : Type 0 where
    pub plays : M.plays_all lines M.first text state
    pub few : length lines ≤ lines_limit
    pub once : M.delivers state

  -- no line of the grammar stands here in its place
  abbrev pub IsOutside : List Line → P → List ℕ → Type 0
  IsOutside lines state rest =
      (0 < length rest)
      × ((length lines ≡ lines_limit)
      ⊎ ((l : Line) (more : List ℕ) → rest ≡ line_text l ++ 10 ∷ more → M.right l state ≡ false))

  -- a line stands here that makes one event too many
  abbrev pub IsTooMuch : List Line → P → List ℕ → Type 0
  IsTooMuch lines state rest =
      (l : Line) × (more : List ℕ) × (rest ≡ line_text l ++ 10 ∷ more) × (M.right l state ≡ true)
      × (M.too_many l state ≡ true) × (length lines < lines_limit)

  -- by what was played: its text was written, and what comes behind it is as said
  abbrev pub EndsAt : DrillEnd → List Line → List ℕ → P → Streams → Type 0
  EndsAt ends.Read lines text state streams =
      Reads lines [] streams × (streams.later ≡ appended streams.taken (text ++ M.end_lines state))
  EndsAt (ends.Line number) lines text state streams =
      (number ≡ length lines + 1) × (streams.later ≡ appended streams.taken text)
      × Told streams.left (λ script. (rest : List ℕ) × (script ≡ script_text lines ++ rest) × IsOutside lines state rest)
  EndsAt ends.TooMany lines text state streams =
      (streams.later ≡ appended streams.taken text)
      × Told streams.left (λ script. (rest : List ℕ) × (script ≡ script_text lines ++ rest) × IsTooMuch lines state rest)
  EndsAt ends.ReadFault lines text state streams =
      (streams.later ≡ appended streams.taken text)
      × Told streams.left (λ script. (rest : List ℕ) × (script ≡ script_text lines ++ rest))
  EndsAt ends.WriteFault lines text state streams =
      (TakesFront text streams.taken streams.later
      × Told streams.left (λ script. (rest : List ℕ) × (script ≡ script_text lines ++ rest)))
      ⊎ (TakesFront (text ++ M.end_lines state) streams.taken streams.later × Reads lines [] streams)
  EndsAt ends.NoMemory lines text state streams =
      (streams.later ≡ appended streams.taken text)
      × Told streams.left (λ script. (rest : List ℕ) × (script ≡ script_text lines ++ rest))

  -- how a drill ends
  abbrev pub Ends : DrillEnd → Streams → Type 0
  Ends end streams =
      (lines : List Line) × (text : List ℕ) × (state : P) × Played lines text state × EndsAt end lines text state streams
      × CountsAt end streams × LeavesAt end lines streams
