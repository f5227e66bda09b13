use Rattle.std.proofs.Common.{rules}
use Rattle.mime_fields.proofs.KnownLemmas.{tells_word}
use Rattle.mime_fields.proofs.known.is_word.Goals as goal

pub returns-clause-value : goal.returns-clause-value
returns-clause-value c = tells_word c.is_none.result c.args.bytes.now (search rules)
