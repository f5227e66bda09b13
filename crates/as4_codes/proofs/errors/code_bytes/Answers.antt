use Rattle.std.proofs.Common.{sym}
use Rattle.as4_codes.proofs.RowLemmas.{code_digits}
use Rattle.as4_codes.proofs.errors.code_bytes.Goals as goal

pub returns : goal.returns
returns c = sym (code_digits c.args.code c.requires)
