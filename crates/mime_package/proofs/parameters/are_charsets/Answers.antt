use Rattle.std.proofs.Common.{sym, ◌∙◌, arith}
use Rattle.mime_package.proofs.ParameterLemmas.{charset_fails}
use Rattle.mime_package.proofs.parameters.are_charsets.Goals as goal

pub returns-then-not-branch : goal.returns-then-not-branch
returns-then-not-branch c =
    sym (charset_fails c.args.parameters.now c.loop-parameter.parameter-index _ (omega arith) (sym c.is_named.ensures ∙ c.if-is_named.true) (sym c.in_ok-is_charset.ensures ∙ c.if-not-branch.true))
