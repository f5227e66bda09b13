use Rattle.pmodes.proofs.TextLemmas.{value_if_ok}
use Rattle.pmodes.proofs.values.text_value.Goals as goal

pub returns : goal.returns
returns c = value_if_ok c.args.bytes.now c.short_text.result c.short_text.ensures.some c.short_text.ensures.none
