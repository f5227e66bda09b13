use Rattle.std.proofs.Common.{arith}
use Rattle.msh_journal.proofs.ReadingLemmas.{len_of_record}
use Rattle.msh_journal.proofs.reading.replay.Goals as goal

pub replay-requires-clause-limited : goal.replay-requires-clause-limited
replay-requires-clause-limited c =
    omega (arith, c.requires.room, len_of_record c.in-Ok.effects c.args.body.now c.in-Ok.ensures.found.0)
