use Rattle.office.proofs.HistoryLemmas.{leaves_off, left_young}
use Rattle.office.proofs.laws.a_stop_leaves_what_may_happen.Goals as goal

pub returns-clause-young : goal.returns-clause-young
returns-clause-young c = left_young

pub returns-clause-happened : goal.returns-clause-happened
returns-clause-happened c = leaves_off c.an_image_opens_to_one_end.ensures.read c.an_image_opens_to_one_end.ensures.whole
