use Rattle.std.proofs.Common.{map, ap, unwrap_or, None, Some}
use Rattle.clap.specs.Simple.{app_of}
use Rattle.as4_tool.specs.Command.{task_of}
use Rattle.as4_tool.proofs.TaskLemmas.{asked_task, none_is_some, only_asked, only_task, right_task, spelled_within}
use Rattle.as4_tool.proofs.command.command_of.Goals as goal

pub returns-in-Err-clause-found : goal.returns-in-Err-clause-found
returns-in-Err-clause-found c =
    asked_task (map (λ w. w.now) c.args.words.now) (app_of c.in-Ok.parser) c.kind-kind.result c.asked_by.result c.in-Ok.ensures.form
    (λ simple. rw c.kind-kind.ensures (c.in-Err.ensures.kinds simple)) c.asked_by.ensures.found

pub returns-in-Err-clause-only : goal.returns-in-Err-clause-only
returns-in-Err-clause-only c =
    only_asked (map (λ w. w.now) c.args.words.now) (app_of c.in-Ok.parser) c.kind-kind.result c.asked_by.result c.in-Ok.ensures.form
    (λ simple. rw c.kind-kind.ensures (c.in-Err.ensures.kinds simple)) c.asked_by.ensures.only c.asked_by.ensures.memory

pub returns-in-Some-clause-found : goal.returns-in-Some-clause-found
returns-in-Some-clause-found c =
    right_task (map (λ w. w.now) c.args.words.now) (app_of c.in-Ok.parser) c.in-Ok-try_get_matches_from.matches (task_of c.in-Some.command)
    c.in-Ok.ensures.form c.in-Ok-try_get_matches_from.ensures.kinds c.in-Ok-try_get_matches_from.ensures.matches c.in-Some.ensures.found

pub returns-in-Some-clause-within : goal.returns-in-Some-clause-within
returns-in-Some-clause-within c =
    spelled_within (map (λ w. w.now) c.args.words.now) (task_of c.in-Some.command)
    (right_task (map (λ w. w.now) c.args.words.now) (app_of c.in-Ok.parser) c.in-Ok-try_get_matches_from.matches (task_of c.in-Some.command)
    c.in-Ok.ensures.form c.in-Ok-try_get_matches_from.ensures.kinds c.in-Ok-try_get_matches_from.ensures.matches c.in-Some.ensures.found)

pub returns-in-Some-clause-only : goal.returns-in-Some-clause-only
returns-in-Some-clause-only c task spells =
    ap (λ o. unwrap_or o task) (only_task (map (λ w. w.now) c.args.words.now) (app_of c.in-Ok.parser) c.in-Ok-try_get_matches_from.matches (Some c.in-Some.command)
    c.in-Ok.ensures.form c.in-Ok-try_get_matches_from.ensures.kinds c.in-Ok-try_get_matches_from.ensures.matches c.in-Some.ensures.only task spells)

pub returns-in-None-clause-only : goal.returns-in-None-clause-only
returns-in-None-clause-only c task spells =
    absurd (none_is_some task (only_task (map (λ w. w.now) c.args.words.now) (app_of c.in-Ok.parser) c.in-Ok-try_get_matches_from.matches None
    c.in-Ok.ensures.form c.in-Ok-try_get_matches_from.ensures.kinds c.in-Ok-try_get_matches_from.ensures.matches c.in-None.ensures.only task spells))
