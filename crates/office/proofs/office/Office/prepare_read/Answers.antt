use Rattle.std.proofs.Common.{sym, subst}
use Rattle.office.specs.Preparing.{Prepared, Prepares}
use Rattle.office.proofs.PreparingLemmas.{prepares_read}
use Rattle.office.proofs.office.Office.prepare_read.Goals as goal

pub returns-in-Ok-clause-ready : goal.returns-in-Ok-clause-ready
returns-in-Ok-clause-ready g c =
    let old = c.args.self.now in
    let new = c.read_payloads.new.self in
    subst (λ (r : Prepared). Prepares g.D.Disk old new r) (sym c.reading.ensures)
    (prepares_read g.D.Disk old new c.args.event c.args.number c.in-Ok.plan c.in-Ok.failed c.requires.asked c.in-Ok.ensures.read)

pub returns-in-Err-clause-starved : goal.returns-in-Err-clause-starved
returns-in-Err-clause-starved g c pass = c.in-Err.ensures.starved c.args.event pass c.requires.asked
