use Rattle.std.proofs.Common.{codes}
use Rattle.std.proofs.lemmas.Result.{IfOk-weaker}
use Rattle.clap.specs.Simple.{new_app}
use Rattle.as4_tool.specs.Adds.{IsApp}
use Rattle.as4_tool.proofs.parser.relay.Goals as goal

pub returns : goal.returns
returns c =
    let new : IsApp (new_app (codes "relay")) c.new.result = record { form = c.new.ensures.app; local = c.new.ensures.local } in
    IfOk-weaker c.with_value-4.result _ _ (λ r adds. adds _ (c.in_ok-relay-3.ensures _ (c.in_ok-relay-2.ensures _ (c.in_ok-relay.ensures _ new)))) c.with_value-4.ensures
