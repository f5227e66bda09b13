use Rattle.mode_values.proofs.MatchLemmas.{parties_tested}
use Rattle.pmodes.proofs.matching.are_same_parties.Goals as goal

pub returns : goal.returns
returns c = parties_tested c.args.parties.now c.args.others.now c.same.result c.same.ensures
