use Rattle.office.proofs.HistoryLemmas.{happened_over}
use Rattle.office.proofs.laws.openings_may_happen.Goals as goal

pub returns : goal.returns
returns c = happened_over c.an_image_opens_to_one_end.ensures.read c.an_image_opens_to_one_end.ensures.whole
