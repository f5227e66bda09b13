use Rattle.std.proofs.Common.{◌≡◌, ℕ, List, IsTrue, IfSome, ap, ◌∙◌}
use Rattle.drill_script.specs.Lacking.{spaced}
use Rattle.std.proofs.lemmas.Result.{IfOk-weaker}
use Rattle.std.proofs.lemmas.Option.{IfSome_then}
use Rattle.drill_script.specs.declared.line.Line.{Line}
use Rattle.drill_script.specs.LineText.{line_text, line_words, is_line}
use Rattle.drill_script.specs.LineParts.{Spells, verb_of, verb_text, tail_of}
use Rattle.drill_script.proofs.LineLemmas.{kept_word, verb_unspaced, spelled_text, text_cut}
use Rattle.drill_script.proofs.reading.line_of.Goals as goal

pub returns-in_default-clause-only : goal.returns-in_default-clause-only
returns-in_default-clause-only c line is small =
    absurd (c.in_default.ensures.only (verb_text (verb_of line)) (tail_of (line_words line)) (verb_unspaced (verb_of line)) (text_cut c.args.bytes.now line is))

pub returns-in_default-read_verb-clause-only : goal.returns-in_default-read_verb-clause-only
returns-in_default-read_verb-clause-only c line is small =
    let cut = c.in-Some.ensures.only (verb_text (verb_of line)) (tail_of (line_words line)) (verb_unspaced (verb_of line)) (text_cut c.args.bytes.now line is) in
    cc (c.in_default-read_verb.ensures.only (verb_of line) cut.0)

pub returns-clause-found : goal.returns-clause-found
returns-clause-found c =
    let verb = c.in-Some-read_verb.verb in
    let tail = c.in-Some.tail.now in
    let text : (line : Line) → Spells verb tail line → (c.args.bytes.now ≡ line_text line) × IsTrue (is_line line) = λ line spells. (spelled_text c.args.bytes.now c.in-Some.word.now tail verb line c.in-Some.ensures.found c.in-Some-read_verb.ensures.found spells, spells.in_range) in
    IfOk-weaker c.tail_of.result (λ read. IfSome read (Spells verb tail)) (λ read. IfSome read (λ line. (c.args.bytes.now ≡ line_text line) × IsTrue (is_line line)))
    (λ read spelled. IfSome_then read spelled text)
    c.tail_of.ensures.found

pub returns-clause-only : goal.returns-clause-only
returns-clause-only c line is small =
    let cut = c.in-Some.ensures.only (verb_text (verb_of line)) (tail_of (line_words line)) (verb_unspaced (verb_of line)) (text_cut c.args.bytes.now line is) in
    let verbs : verb_of line ≡ c.in-Some-read_verb.verb = cc (c.in-Some-read_verb.ensures.only (verb_of line) cut.0) in
    c.tail_of.ensures.only line (record { verb_is = verbs; tail_is = cut.1; in_range = small })

pub returns-clause-lean : goal.returns-clause-lean
returns-clause-lean c fails =
    let verb = c.in-Some-read_verb.verb in
    let tail = c.in-Some.tail.now in
    let word : c.in-Some.word.now ≡ verb_text verb = c.in-Some-read_verb.ensures.found in (
      verb_text verb,
      tail,
      kept_word verb (c.tail_of.ensures.lean fails),
      c.in-Some.ensures.found ∙ ap (λ (w : List ℕ). spaced w tail) word,
    )
