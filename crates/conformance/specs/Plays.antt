-- Scripts of a drill, and their transcripts.
use Rattle.std.specs.Prelude.{◌≡◌, ◌⊎◌, ◌≤◌, ℕ, List, ◌++◌, Bool, length}
use Rattle.drill.specs.Ends.{IsOutside}
use Rattle.drill.specs.Playing.{pair_meaning}
use Rattle.drill_world.specs.Transcript.{DrillState, PlaysAll, end_lines, lines_limit, new_state, script_text}
use Rattle.drill_script.specs.declared.line.Line.{Line}
use Rattle.conformance.specs.Ran.{IsVerdict}
use Rattle.conformance.specs.declared.play.Play.{Play}

-- these lines were played, and this follows them: nothing, and then the numbers of both ends are written; or no line of
-- the grammar in its place, and then nothing more is
abbrev pub Closes : List Line → DrillState → List ℕ → List ℕ → List ℕ → Type 0
Closes lines state words script text =
    ((script ≡ script_text lines) × (text ≡ words ++ end_lines state.world))
    ⊎ ((rest : List ℕ) × (script ≡ script_text lines ++ rest) × IsOutside pair_meaning lines state rest × (text ≡ words))

-- the transcript of a script that makes at most 100,000 events
abbrev pub IsTranscript : List ℕ → List ℕ → Type 0
IsTranscript script text =
    (lines : List Line) × (words : List ℕ) × (state : DrillState) × PlaysAll lines new_state words state
    × (length lines ≤ lines_limit) × Closes lines state words script text

-- the line of a play: whether its script has the transcript that is wanted
abbrev pub IsPlayLine : Play → List ℕ → Bool → Type 0
IsPlayLine play line differs = IsVerdict (IsTranscript play.script.now play.want.now) play.name.now line differs
