-- How far a drill has come.
use Rattle.std.specs.Prelude.{◌≡◌, ℕ, ◌≤◌, List, length}
use Rattle.as4_flow.specs.Flow.{Flow, before, appended}
use Rattle.drill.specs.declared.play.Play.{Ghosts as PlayMeaning}
use Rattle.drill_world.specs.Transcript.{lines_limit, script_text}
use Rattle.drill_script.specs.Lines.{ahead_limit}
use Rattle.drill_script.specs.declared.line.Line.{Line}

-- since the start so many lines were played and their text was written, what is held stands before what is left, and
-- nothing failed
pub record SoFar {P : Type 0} (M : PlayMeaning P) (state : P) (held : List ℕ) (count : ℕ) (start now : Flow) : Type 0 where
  pub lines : List Line
  pub text : List ℕ
  pub plays : M.plays_all lines M.first text state
  pub counted : length lines ≡ count
  pub few : count ≤ lines_limit
  pub came : start.left ≡ before (script_text lines) (before held now.left)
  pub ahead : length held ≤ ahead_limit
  pub wrote : now.taken ≡ appended start.taken text
  pub read : now.reads ≡ start.reads
  pub written : now.writes ≡ start.writes
