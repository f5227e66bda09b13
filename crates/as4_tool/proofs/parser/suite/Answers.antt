use Rattle.std.proofs.Common.{codes}
use Rattle.std.proofs.lemmas.Result.{IfOk-weaker}
use Rattle.clap.specs.Simple.{new_app}
use Rattle.as4_tool.specs.Adds.{IsApp}
use Rattle.as4_tool.proofs.parser.suite.Goals as goal

pub returns : goal.returns
returns c =
    let new : IsApp (new_app (codes "suite")) c.new.result = record { form = c.new.ensures.app; local = c.new.ensures.local } in
    IfOk-weaker c.with_flag-2.result _ _ (λ r adds. adds _ (c.in_ok-suite.ensures _ new)) c.with_flag-2.ensures
