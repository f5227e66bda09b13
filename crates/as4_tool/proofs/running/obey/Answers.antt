use Rattle.std.proofs.Common.{refl, None}
use Rattle.as4_tool.proofs.running.obey.Goals as goal

pub returns-in-Help-clause-runs : goal.returns-in-Help-clause-runs
returns-in-Help-clause-runs g c =
    rw c.in-Help.is (record { does = (c.help.ensures (g.I.Source.left c.args.input.now) (g.I.Source.faults c.args.input.now), refl); untouched = refl })

pub returns-in-Help-clause-alone : goal.returns-in-Help-clause-alone
returns-in-Help-clause-alone g c is = absurd ((c.help.ensures None 0).streamed.right is)

pub returns-in-Version-clause-runs : goal.returns-in-Version-clause-runs
returns-in-Version-clause-runs g c =
    rw c.in-Version.is (record { does = (c.version.ensures (g.I.Source.left c.args.input.now) (g.I.Source.faults c.args.input.now), refl); untouched = refl })

pub returns-in-Version-clause-alone : goal.returns-in-Version-clause-alone
returns-in-Version-clause-alone g c is = absurd ((c.version.ensures None 0).streamed.right is)

pub returns-in-Generate-clause-runs : goal.returns-in-Generate-clause-runs
returns-in-Generate-clause-runs g c =
    rw c.in-Generate.is (record { does = (c.generate.ensures (g.I.Source.left c.args.input.now) (g.I.Source.faults c.args.input.now), refl); untouched = refl })

pub returns-in-Generate-clause-alone : goal.returns-in-Generate-clause-alone
returns-in-Generate-clause-alone g c is = absurd ((c.generate.ensures None 0).streamed.right is)

pub returns-in-Collect-clause-runs : goal.returns-in-Collect-clause-runs
returns-in-Collect-clause-runs g c = rw c.in-Collect.is (record { does = c.collect.ensures; untouched = refl })

pub returns-in-Audit-clause-runs : goal.returns-in-Audit-clause-runs
returns-in-Audit-clause-runs g c = rw c.in-Audit.is (record { does = c.audit.ensures; untouched = refl })

pub returns-in-Relay-clause-runs : goal.returns-in-Relay-clause-runs
returns-in-Relay-clause-runs g c = rw c.in-Relay.is (record { does = c.relay.ensures; untouched = refl })

pub returns-in-Suite-clause-runs : goal.returns-in-Suite-clause-runs
returns-in-Suite-clause-runs g c =
    rw c.in-Suite.is (record { does = (c.suite.ensures (g.I.Source.left c.args.input.now) (g.I.Source.faults c.args.input.now), refl); untouched = refl })

pub returns-in-Suite-clause-alone : goal.returns-in-Suite-clause-alone
returns-in-Suite-clause-alone g c is = absurd ((c.suite.ensures None 0).streamed.right is)
