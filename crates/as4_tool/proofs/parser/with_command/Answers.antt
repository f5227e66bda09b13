use Rattle.std.proofs.Common.{rules, ◌∙◌, ap, ap₂}
use Rattle.std.proofs.lemmas.Result.{IfOk-weaker}
use Rattle.clap.specs.Simple.{App, with_subcommand}
use Rattle.as4_tool.proofs.parser.with_command.Goals as goal

pub returns : goal.returns
returns c shape is =
    IfOk-weaker c.subcommand.result _ _ (λ r adds app top. record {
      form = adds.shape is.local ∙ ap₂ with_subcommand top.form (ap (λ (a : App). a.top) is.form);
      local = search rules;
    }) c.subcommand.ensures
