use Rattle.stranger_laws.proofs.SiteLemmas.{part_of_world}
use Rattle.stranger_laws.proofs.laws.an_end_alone_is_part_of_a_world.Goals as goal

pub returns : goal.returns
returns c = part_of_world
