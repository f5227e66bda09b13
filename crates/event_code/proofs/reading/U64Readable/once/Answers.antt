use Rattle.byte_forms.proofs.NumberLemmas.{number_once}
use Rattle.event_code.proofs.reading.U64Readable.once.Goals as goal

pub returns : goal.returns
returns c = number_once 8
