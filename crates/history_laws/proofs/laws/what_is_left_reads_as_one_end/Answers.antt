use Rattle.history_laws.proofs.ReadingLemmas.{inside_reads, left_reads}
use Rattle.history_laws.proofs.laws.what_is_left_reads_as_one_end.Goals as goal

pub returns-clause-after : goal.returns-clause-after
returns-clause-after c = left_reads c.an_image_opens_to_one_end.ensures.read c.an_image_opens_to_one_end.ensures.whole

pub returns-clause-inside : goal.returns-clause-inside
returns-clause-inside c = inside_reads c.an_image_opens_to_one_end.ensures.read c.an_image_opens_to_one_end.ensures.whole
