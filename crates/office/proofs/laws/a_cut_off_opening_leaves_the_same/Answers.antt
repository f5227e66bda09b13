use Rattle.office.proofs.HistoryLemmas.{left_still}
use Rattle.office.proofs.laws.a_cut_off_opening_leaves_the_same.Goals as goal

pub returns : goal.returns
returns c modes calls end before after left reopens = left_still c.an_image_opens_to_one_end.ensures.leads before after reopens modes calls end left
