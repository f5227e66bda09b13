use Rattle.std.proofs.Common.{◌∙◌}
use Rattle.msh_transitions.specs.Given.{bare_read}
use Rattle.office.proofs.ReadingLemmas.{read_rests, unread_payloads}
use Rattle.office.proofs.office.Office.read_payloads.Goals as goal

pub returns-then-not-takes_events-clause-read : goal.returns-then-not-takes_events-clause-read
returns-then-not-takes_events-clause-read g c =
    let old = c.args.self.now in
    unread_payloads g.D.Disk old c.args.number c.unread.result c.unread.ensures.planned
    (c.unread.ensures.rests ∙ read_rests (bare_read old.end c.args.number) c.args.plan.outcome c.requires.rests)
    c.unread.ensures.safe (c.takes_events.ensures.refuses c.if-not-takes_events.true) c.unread.ensures.refused
