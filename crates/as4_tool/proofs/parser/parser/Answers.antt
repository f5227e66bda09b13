use Rattle.std.proofs.Common.{codes}
use Rattle.std.proofs.lemmas.Result.{IfOk-weaker}
use Rattle.clap.specs.Simple.{new_app}
use Rattle.as4_tool.specs.Words.{suite_command, relay_command, audit_command, collect_command, submit_command, handler_command, drill_command, check_command, answer_command}
use Rattle.as4_tool.specs.Adds.{IsApp}
use Rattle.as4_tool.proofs.parser.parser.Goals as goal

pub returns : goal.returns
returns c =
    let check : IsApp (new_app (codes "check")) c.new.result = record { form = c.new.ensures.app; local = c.new.ensures.local } in
    let one = c.in_ok-top.ensures answer_command c.in_ok-answer.ensures _ c.program.ensures in
    let two = c.in_ok-top-2.ensures check_command check _ one in
    let three = c.in_ok-top-3.ensures drill_command c.in_ok-drill.ensures _ two in
    let four = c.in_ok-top-4.ensures handler_command c.in_ok-handler.ensures _ three in
    let five = c.in_ok-top-5.ensures submit_command c.in_ok-submit.ensures _ four in
    let six = c.in_ok-top-6.ensures collect_command c.in_ok-collect.ensures _ five in
    let seven = c.in_ok-top-7.ensures audit_command c.in_ok-audit.ensures _ six in
    let eight = c.in_ok-top-8.ensures relay_command c.in_ok-relay.ensures _ seven in
    IfOk-weaker c.with_command-9.result _ _ (λ r adds. adds _ eight) (c.with_command-9.ensures suite_command c.in_ok-suite.ensures)
