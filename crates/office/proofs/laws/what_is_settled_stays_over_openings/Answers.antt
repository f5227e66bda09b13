use Rattle.office.proofs.HistoryLemmas.{settled_over}
use Rattle.office.proofs.laws.what_is_settled_stays_over_openings.Goals as goal

pub returns : goal.returns
returns c = settled_over c.an_image_opens_to_one_end.ensures.read c.an_image_opens_to_one_end.ensures.whole c.what_is_settled_stays.ensures
