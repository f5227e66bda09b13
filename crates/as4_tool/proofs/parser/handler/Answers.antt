use Rattle.std.proofs.Common.{codes}
use Rattle.std.proofs.lemmas.Result.{IfOk-weaker}
use Rattle.clap.specs.Simple.{new_app}
use Rattle.as4_tool.specs.Adds.{IsApp}
use Rattle.as4_tool.proofs.parser.handler.Goals as goal

pub returns : goal.returns
returns c =
    let new : IsApp (new_app (codes "handler")) c.new.result = record { form = c.new.ensures.app; local = c.new.ensures.local } in
    IfOk-weaker c.with_option-3.result _ _ (λ r adds. adds _ (c.in_ok-handler-6.ensures _ (c.in_ok-handler-5.ensures _ (c.in_ok-handler-4.ensures _ (c.in_ok-handler-3.ensures _ (c.in_ok-handler-2.ensures _ (c.in_ok-handler.ensures _ new))))))) c.with_option-3.ensures
