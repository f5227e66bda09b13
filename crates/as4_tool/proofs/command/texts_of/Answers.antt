use Rattle.std.proofs.Common.{rules, ◌≡◌, ◌≤◌, take, All, sym, subst, ◌∙◌, get_or, ◌<◌, length}
use Rattle.std.specs.Str.{IsUtf8}
use Rattle.std.proofs.lemmas.List.{take_all}
use Rattle.as4_tool.proofs.TaskLemmas.{texts_more}
use Rattle.as4_tool.proofs.command.texts_of.Goals as goal

pub returns-in_default-clause-bad : goal.returns-in_default-clause-bad
returns-in_default-clause-bad c is all =
    let items = c.items-word-items.result.now in
    let within : c.loop-word.word-index < length c.args.words.now = search rules in
    let word : c.bytes.result.now ≡ get_or c.args.words.now c.loop-word.word-index c.word-item.result = search rules in
    c.in_default.ensures.cases.0 (subst IsUtf8 (sym word) (all c.loop-word.word-index c.word-item.result within))

pub loop-word-preserved : goal.loop-word-preserved
loop-word-preserved c =
    texts_more c.items-word-items.result.now c.loop-word.texts.items c.push.new.self.items c.loop-word.word-index c.word-item.result c.in-Ok.text
    c.loop-word-test.true c.word-item.is (search rules) (search rules) (search rules) c.loop-word.invariant

pub returns-clause-ok : goal.returns-clause-ok
returns-clause-ok c =
    let all : length c.items-word-items.result.now ≤ c.loop-word.word-index = search rules in
    let same : c.items-word-items.result.now ≡ c.args.words.now = search rules in
    let whole : take c.loop-word.word-index c.items-word-items.result.now ≡ c.args.words.now =
    take_all c.loop-word.word-index c.items-word-items.result.now all ∙ same in
    (c.loop-word.invariant.0 ∙ whole, subst (All IsUtf8) whole c.loop-word.invariant.1)
