use Rattle.as4_audit.proofs.MadeLemmas.{tick_makes}
use Rattle.as4_audit.proofs.own.tick_of.Goals as goal

pub returns : goal.returns
returns c modes end made = tick_makes modes end c.args.tick.now c.event_at.result c.event_at.ensures.what c.event_at.ensures.stamp made
