use Rattle.office.proofs.HistoryLemmas.{goes_on}
use Rattle.office.proofs.laws.reopened_histories_join.Goals as goal

pub returns : goal.returns
returns c = goes_on c.an_image_opens_to_one_end.ensures.read c.an_image_opens_to_one_end.ensures.whole
