use Rattle.byte_forms.proofs.OnceLemmas.{option_once}
use Rattle.event_code.proofs.reading.OptionReadable.once.Goals as goal

pub returns : goal.returns
returns g c = option_once _ _ c.once.ensures
