use Rattle.std.proofs.Common.{rules, ◌≡◌, length, codes}
use Rattle.std.specs.Str.{IsUtf8}
use Rattle.std.proofs.lemmas.Str.{IsUtf8-from_ascii}
use Rattle.as4_tool.specs.Command.{help, version}
use Rattle.as4_tool.proofs.TaskLemmas.{help_is_spelled, text_found, version_is_spelled}
use Rattle.as4_tool.proofs.running.text_asked.Goals as goal

pub returns-then-eq-clause-found : goal.returns-then-eq-clause-found
returns-then-eq-clause-found c =
    let one : length c.args.words.now ≡ 1 = search rules in
    let same : c.word-item.result ≡ codes "--help" = search rules in
    let utf8 : IsUtf8 (codes "--help") = IsUtf8-from_ascii (codes "--help") (search rules) in
    let found = text_found c.args.words.now c.word-item.result (codes "--help") help one (search rules) same utf8 help_is_spelled in
    (found.0, found.1, tt, tt)

pub returns-then-eq-2-clause-found : goal.returns-then-eq-2-clause-found
returns-then-eq-2-clause-found c =
    let one : length c.args.words.now ≡ 1 = search rules in
    let same : c.word-item.result ≡ codes "--version" = search rules in
    let utf8 : IsUtf8 (codes "--version") = IsUtf8-from_ascii (codes "--version") (search rules) in
    let found = text_found c.args.words.now c.word-item.result (codes "--version") version one (search rules) same utf8 version_is_spelled in
    (found.0, found.1, tt, tt)
