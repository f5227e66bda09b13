use Rattle.std.proofs.Common.{sym, ◌∙◌, arith}
use Rattle.mime_package.proofs.ParameterLemmas.{named_here, named_further, named_nowhere}
use Rattle.mime_package.proofs.parameters.value_of.Goals as goal

pub returns-then-is_named : goal.returns-then-is_named
returns-then-is_named c =
    sym (c.loop-parameter.invariant ∙ named_here c.args.name.now c.args.parameters.now c.loop-parameter.parameter-index _ (omega arith) (sym c.is_named.ensures ∙ c.if-is_named.true))

pub loop-parameter-preserved : goal.loop-parameter-preserved
loop-parameter-preserved c =
    c.loop-parameter.invariant ∙ named_further c.args.name.now c.args.parameters.now c.loop-parameter.parameter-index _ (omega arith) (sym c.is_named.ensures ∙ c.if-is_named.false)

pub returns : goal.returns
returns c = sym (c.loop-parameter.invariant ∙ named_nowhere c.args.name.now c.args.parameters.now c.loop-parameter.parameter-index (omega arith))
