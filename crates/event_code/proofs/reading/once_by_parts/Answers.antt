use Rattle.byte_forms.proofs.OnceLemmas.{once_by}
use Rattle.event_code.proofs.reading.once_by_parts.Goals as goal

pub returns : goal.returns
returns g c = once_by _ _ _ _ g.T.Parted.parts c.once.ensures g.met.T.Parted.told g.met.T.Parted.kept g.met.T.Parted.same
