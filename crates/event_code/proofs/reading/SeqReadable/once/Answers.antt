use Rattle.byte_forms.proofs.OnceLemmas.{list_once}
use Rattle.event_code.proofs.reading.SeqReadable.once.Goals as goal

pub returns : goal.returns
returns g c = list_once _ _ c.once.ensures
