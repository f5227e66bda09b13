use Rattle.as4_audit.proofs.WalkLemmas.{counted_right, counted_wrong}
use Rattle.as4_audit.proofs.auditing.check.Goals as goal

pub returns-in-Ok-Right-clause-says : goal.returns-in-Ok-Right-clause-says
returns-in-Ok-Right-clause-says c =
    counted_right c.args.modes.now c.args.leaf.now c.in-Ok-Right.start c.walk_leaf.new.events.count (rw c.in-Ok-Right.field-0-is at c.in-Ok-Right.ensures.says)

pub returns-in-Ok-Wrong-clause-says : goal.returns-in-Ok-Wrong-clause-says
returns-in-Ok-Wrong-clause-says c =
    counted_wrong c.args.modes.now c.args.leaf.now c.in-Ok-Wrong.index _ (rw c.in-Ok-Wrong.field-0-is at c.in-Ok-Wrong.ensures.says)
