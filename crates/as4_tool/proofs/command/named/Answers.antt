use Rattle.std.proofs.Common.{◌≡◌, codes, option_map, Some}
use Rattle.clap.specs.Matches.{found_of}
use Rattle.clap.specs.Walk.{rows_of}
use Rattle.as4_tool.specs.Command.{name_of, task_of}
use Rattle.as4_tool.proofs.TaskLemmas.{only_audit, only_collect, only_handler, only_relay, only_suite}
use Rattle.as4_tool.proofs.command.named.Goals as goal

pub returns-in-handler-clause-only : goal.returns-in-handler-clause-only
returns-in-handler-clause-only c task named =
    let called : name_of task ≡ codes "handler" = cc in
    only_handler (rows_of (found_of c.args.found.now)) (λ t. option_map task_of c.handler_of.result ≡ Some t) c.handler_of.ensures.only task called

pub returns-in-collect-clause-only : goal.returns-in-collect-clause-only
returns-in-collect-clause-only c task named =
    let called : name_of task ≡ codes "collect" = cc in
    only_collect (rows_of (found_of c.args.found.now)) (λ t. option_map task_of c.collect_of.result ≡ Some t) c.collect_of.ensures.only task called

pub returns-in-audit-clause-only : goal.returns-in-audit-clause-only
returns-in-audit-clause-only c task named =
    let called : name_of task ≡ codes "audit" = cc in
    only_audit (rows_of (found_of c.args.found.now)) (λ t. option_map task_of c.audit_of.result ≡ Some t) c.audit_of.ensures.only task called

pub returns-in-relay-clause-only : goal.returns-in-relay-clause-only
returns-in-relay-clause-only c task named =
    let called : name_of task ≡ codes "relay" = cc in
    only_relay (rows_of (found_of c.args.found.now)) (λ t. option_map task_of c.relay_of.result ≡ Some t) c.relay_of.ensures.only task called

pub returns-in-suite-clause-only : goal.returns-in-suite-clause-only
returns-in-suite-clause-only c task named =
    let called : name_of task ≡ codes "suite" = cc in
    only_suite (rows_of (found_of c.args.found.now)) (λ t. option_map task_of c.suite_of.result ≡ Some t) c.suite_of.ensures.only task called
