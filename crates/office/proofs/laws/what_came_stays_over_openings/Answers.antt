use Rattle.office.proofs.HistoryLemmas.{stays_over}
use Rattle.office.proofs.laws.what_came_stays_over_openings.Goals as goal

pub returns : goal.returns
returns c = stays_over c.an_image_opens_to_one_end.ensures.read c.an_image_opens_to_one_end.ensures.whole c.what_came_stays.ensures
