use Rattle.rounds.proofs.pulling.pull_round.Goals as goal

pub returns-clause-pulls : goal.returns-clause-pulls
returns-clause-pulls g c = (c.pull_one.result.received, c.pull_one.ensures.pulls)
