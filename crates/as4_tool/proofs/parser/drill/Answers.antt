use Rattle.std.proofs.Common.{codes, rules, ◌∙◌, ap₂}
use Rattle.std.proofs.lemmas.Result.{IfOk-weaker}
use Rattle.clap.specs.Simple.{new_app, with_rule}
use Rattle.as4_tool.specs.Adds.{IsApp}
use Rattle.as4_tool.specs.Words.{option_of_two}
use Rattle.as4_tool.proofs.parser.drill.Goals as goal

pub returns : goal.returns
returns c =
    let generated : IsApp (with_rule (new_app (codes "drill")) (option_of_two (codes "generate"))) c.in_ok-drill.drill = record {
      form = c.in_ok-drill.ensures.shape c.generate.ensures.local ∙ ap₂ with_rule c.new.ensures.app c.generate.ensures.rule;
      local = search rules;
    } in
    IfOk-weaker c.with_flag-2.result _ _ (λ r adds. adds _ (c.in_ok-drill-2.ensures _ generated)) c.with_flag-2.ensures
