use Rattle.std.proofs.Common.{◌≡◌, IsTrue, IfSome}
use Rattle.std.proofs.lemmas.Result.{IfOk-weaker}
use Rattle.std.proofs.lemmas.Option.{IfSome_then}
use Rattle.drill_script.specs.LineText.{stoppable_text, stoppable_words, is_stoppable}
use Rattle.drill_script.specs.LineParts.{SpellsRun, run_verb_of, run_verb_text, tail_of}
use Rattle.drill_script.specs.declared.line.Stoppable.{Stoppable}
use Rattle.drill_script.specs.declared.verb.Verb.TheVariants.{Run}
use Rattle.drill_script.proofs.LineLemmas.{verb_unspaced, spelled_run, run_cut}
use Rattle.drill_script.proofs.stoppable.stoppable_of.Goals as goal

pub returns-in_default-clause-only : goal.returns-in_default-clause-only
returns-in_default-clause-only c line is small =
    absurd (c.in_default.ensures.only (run_verb_text (run_verb_of line)) (tail_of (stoppable_words line)) (verb_unspaced (Run (run_verb_of line))) (run_cut c.args.bytes.now line is))

pub returns-in_default-read_run_verb-clause-only : goal.returns-in_default-read_run_verb-clause-only
returns-in_default-read_run_verb-clause-only c line is small =
    let cut = c.in-Some.ensures.only (run_verb_text (run_verb_of line)) (tail_of (stoppable_words line)) (verb_unspaced (Run (run_verb_of line))) (run_cut c.args.bytes.now line is) in
    cc (c.in_default-read_run_verb.ensures.only (run_verb_of line) cut.0)

pub returns-clause-found : goal.returns-clause-found
returns-clause-found c =
    let verb = c.in-Some-read_run_verb.verb in
    let tail = c.in-Some.tail.now in
    let text : (line : Stoppable) → SpellsRun verb tail line → (c.args.bytes.now ≡ stoppable_text line) × IsTrue (is_stoppable line) = λ line spells. (spelled_run c.args.bytes.now c.in-Some.word.now tail verb line c.in-Some.ensures.found c.in-Some-read_run_verb.ensures.found spells, spells.in_range) in
    IfOk-weaker c.run_of.result (λ read. IfSome read (SpellsRun verb tail)) (λ read. IfSome read (λ line. (c.args.bytes.now ≡ stoppable_text line) × IsTrue (is_stoppable line)))
    (λ read spelled. IfSome_then read spelled text)
    c.run_of.ensures.found

pub returns-clause-only : goal.returns-clause-only
returns-clause-only c line is small =
    let cut = c.in-Some.ensures.only (run_verb_text (run_verb_of line)) (tail_of (stoppable_words line)) (verb_unspaced (Run (run_verb_of line))) (run_cut c.args.bytes.now line is) in
    let verbs : run_verb_of line ≡ c.in-Some-read_run_verb.verb = cc (c.in-Some-read_run_verb.ensures.only (run_verb_of line) cut.0) in
    c.run_of.ensures.only line (record { verb_is = verbs; tail_is = cut.1; in_range = small })
