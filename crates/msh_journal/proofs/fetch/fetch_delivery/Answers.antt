use Rattle.msh_journal.proofs.KeepingLemmas.{stays_read}
use Rattle.msh_journal.proofs.fetch.fetch_delivery.Goals as goal

pub returns-in-Err-clause-stays : goal.returns-in-Err-clause-stays
returns-in-Err-clause-stays g c =
    stays_read g.D.Disk c.args.journal.now c.fetch.new.self c.fetch.ensures.same c.fetch.ensures.quiet c.fetch.ensures.kept

pub returns-in-Ok-read-clause-stays : goal.returns-in-Ok-read-clause-stays
returns-in-Ok-read-clause-stays g c =
    stays_read g.D.Disk c.args.journal.now c.fetch.new.self c.fetch.ensures.same c.fetch.ensures.quiet c.fetch.ensures.kept

pub returns-in-Err-read-clause-stays : goal.returns-in-Err-read-clause-stays
returns-in-Err-read-clause-stays g c =
    stays_read g.D.Disk c.args.journal.now c.fetch.new.self c.fetch.ensures.same c.fetch.ensures.quiet c.fetch.ensures.kept
