-- Lemmas on the text of a line: its first word, a space, and its tail.
use Rattle.std.proofs.Common.{◌≡◌, ℕ, ◌==◌, if◌then◌else◌, List, get_or, refl, sym, ◌∙◌, ap, arith}
use Rattle.std.specs.List.{Contains}
use Rattle.std.specs.Fmt.{decimal}
use Rattle.as4_disk.specs.declared.change.Pick.{Pick}
use Rattle.drill_script.specs.Lacking.{spaced}
use Rattle.byte_forms.specs.Parted.{Lacks, parted}
use Rattle.drill_script.specs.LineText.{line_text, line_words, pick_text, stoppable_text, stoppable_words}
use Rattle.drill_script.specs.LineParts.{IsKept, Spells, SpellsRun, kept_words, run_verb_of, run_verb_text, tail_of, verb_of, verb_text}
use Rattle.drill_script.specs.declared.line.Line.{Line}
use Rattle.drill_script.specs.declared.line.Line.TheVariants as line
use Rattle.drill_script.specs.declared.line.Stoppable.{Stoppable}
use Rattle.drill_script.specs.declared.line.Stoppable.TheVariants as stoppable
use Rattle.drill_script.specs.declared.verb.Counted.TheVariants.{Read, Status}
use Rattle.drill_script.specs.declared.verb.RunVerb.{RunVerb}
use Rattle.drill_script.specs.declared.verb.RunVerb.TheVariants.{Submit, Tick, Take, Came, Confirm}
use Rattle.drill_script.specs.declared.verb.Verb.{Verb}
use Rattle.drill_script.specs.declared.verb.Verb.TheVariants.{Mode, Run, Ask, Relay, Pair, Lost, Count, Crash, Stop, Fold}
use Rattle.byte_forms.proofs.PartedLemmas.{Lacks_tested}

-- a first word that needs memory is one of those
pub kept_word : (verb : Verb) → IsKept verb → Contains kept_words (verb_text verb)
kept_word Mode kept = (0, omega arith, refl)
kept_word (Run Submit) kept = (1, omega arith, refl)
kept_word (Run verb) kept = absurd kept
kept_word Ask kept = (2, omega arith, refl)
kept_word Relay kept = (3, omega arith, refl)
kept_word Pair kept = (4, omega arith, refl)
kept_word Lost kept = absurd kept
kept_word (Count counted) kept = absurd kept
kept_word Crash kept = absurd kept
kept_word Stop kept = (5, omega arith, refl)
kept_word Fold kept = absurd kept

pub verb_unspaced : (verb : Verb) → Lacks 32 (verb_text verb)
verb_unspaced Mode = Lacks_tested 32 _ refl
verb_unspaced (Run Submit) = Lacks_tested 32 _ refl
verb_unspaced (Run Tick) = Lacks_tested 32 _ refl
verb_unspaced (Run Take) = Lacks_tested 32 _ refl
verb_unspaced (Run Came) = Lacks_tested 32 _ refl
verb_unspaced (Run Confirm) = Lacks_tested 32 _ refl
verb_unspaced Ask = Lacks_tested 32 _ refl
verb_unspaced Relay = Lacks_tested 32 _ refl
verb_unspaced Pair = Lacks_tested 32 _ refl
verb_unspaced Lost = Lacks_tested 32 _ refl
verb_unspaced (Count Read) = Lacks_tested 32 _ refl
verb_unspaced (Count Status) = Lacks_tested 32 _ refl
verb_unspaced Crash = Lacks_tested 32 _ refl
verb_unspaced Stop = Lacks_tested 32 _ refl
verb_unspaced Fold = Lacks_tested 32 _ refl

-- the first word of a line that can be stopped, a space and the rest
pub run_parts : (said : Stoppable) → stoppable_text said ≡ parted 32 (run_verb_text (run_verb_of said)) (tail_of (stoppable_words said))
run_parts (stoppable.Submit end mode load) = refl
run_parts (stoppable.Tick end moment) = refl
run_parts (stoppable.Take end) = refl
run_parts (stoppable.Came end from number) = refl
run_parts (stoppable.Confirm end number) = refl

-- the first word, a space and the rest
pub line_parts : (said : Line) → line_text said ≡ parted 32 (verb_text (verb_of said)) (tail_of (line_words said))
unfolding line_text
line_parts (line.Mode name link way retries period) = refl
line_parts (line.Run l) = run_parts l
line_parts (line.Ask end mode) = refl
line_parts (line.Relay end mode) = refl
line_parts (line.Pair end mode number) = refl
line_parts (line.Lost end from number) = refl
line_parts (line.Read end number) = refl
line_parts (line.Status end number) = refl
line_parts (line.Crash end) = refl
line_parts (line.Stop call pick l) = refl
line_parts (line.Fold end) = refl

-- `stop` is followed by the call, the pick and the line
pub stop_tail : (call : ℕ) (pick : Pick) (l : Stoppable) → tail_of (line_words (line.Stop call pick l)) ≡ spaced (decimal call) (spaced (pick_text pick) (stoppable_text l))
stop_tail call pick (stoppable.Submit end mode load) = refl
stop_tail call pick (stoppable.Tick end moment) = refl
stop_tail call pick (stoppable.Take end) = refl
stop_tail call pick (stoppable.Came end from number) = refl
stop_tail call pick (stoppable.Confirm end number) = refl

-- bytes cut at a space are a line's text if the line has this verb and this tail

pub spelled_text : (bytes word tail : List ℕ) (verb : Verb) (said : Line) → bytes ≡ parted 32 word tail → word ≡ verb_text verb → Spells verb tail said → bytes ≡ line_text said
spelled_text bytes word tail verb said parts is spells =
    let verbs : verb_of said ≡ verb = spells.verb_is in
    cc (parts, is, verbs, spells.tail_is, line_parts said)

pub spelled_run : (bytes word tail : List ℕ) (verb : RunVerb) (said : Stoppable) → bytes ≡ parted 32 word tail → word ≡ run_verb_text verb → SpellsRun verb tail said → bytes ≡ stoppable_text said
spelled_run bytes word tail verb said parts is spells =
    let verbs : run_verb_of said ≡ verb = spells.verb_is in
    cc (parts, is, verbs, spells.tail_is, run_parts said)

pub text_cut : (bytes : List ℕ) (said : Line) → bytes ≡ line_text said → bytes ≡ parted 32 (verb_text (verb_of said)) (tail_of (line_words said))
text_cut bytes said is = is ∙ line_parts said

pub run_cut : (bytes : List ℕ) (said : Stoppable) → bytes ≡ stoppable_text said → bytes ≡ parted 32 (run_verb_text (run_verb_of said)) (tail_of (stoppable_words said))
run_cut bytes said is = is ∙ run_parts said

-- a word has one verb

verb_from : List ℕ → Verb
verb_from word =
    let first = get_or word 0 0 in
    let second = get_or word 1 0 in
    if first == 109 then Mode
    else (if first == 115 then (if second == 117 then Run Submit else (if get_or word 2 0 == 97 then Count Status else Stop))
    else (if first == 116 then (if second == 97 then Run Take else Run Tick)
    else (if first == 97 then Ask
    else (if first == 99 then (if second == 97 then Run Came else (if second == 111 then Run Confirm else Crash))
    else (if first == 108 then Lost else (if first == 112 then Pair else (if first == 102 then Fold
    else (if get_or word 2 0 == 97 then Count Read else Relay))))))))

verb_from_text : (verb : Verb) → verb_from (verb_text verb) ≡ verb
unfolding verb_from
verb_from_text Mode = refl
verb_from_text (Run Submit) = refl
verb_from_text (Run Tick) = refl
verb_from_text (Run Take) = refl
verb_from_text (Run Came) = refl
verb_from_text (Run Confirm) = refl
verb_from_text Ask = refl
verb_from_text Relay = refl
verb_from_text Pair = refl
verb_from_text Lost = refl
verb_from_text (Count Read) = refl
verb_from_text (Count Status) = refl
verb_from_text Crash = refl
verb_from_text Stop = refl
verb_from_text Fold = refl

pub one_verb : (verb other : Verb) → verb_text verb ≡ verb_text other → verb ≡ other
one_verb verb other same = sym (verb_from_text verb) ∙ ap verb_from same ∙ verb_from_text other

pub one_run_verb : (verb other : RunVerb) → run_verb_text verb ≡ run_verb_text other → verb ≡ other
one_run_verb verb other same = let runs : Run verb ≡ Run other = one_verb (Run verb) (Run other) same in cc
