use Rattle.byte_forms.proofs.OnceLemmas.{pair_once}
use Rattle.event_code.proofs.reading.Tuple2Readable.once.Goals as goal

pub returns : goal.returns
returns g c = pair_once _ _ _ _ c.once.ensures c.once-2.ensures
