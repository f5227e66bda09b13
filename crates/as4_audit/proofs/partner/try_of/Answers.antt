use Rattle.as4_audit.proofs.MadeLemmas.{no_try, numbered_of, pull_makes, take_makes}
use Rattle.as4_audit.proofs.partner.try_of.Goals as goal

pub returns-in_default : goal.returns-in_default
returns-in_default c = no_try c.args.core.now.modes c.args.core.now.end c.args.number c.in_default.ensures

pub returns-in-Push : goal.returns-in-Push
returns-in-Push c =
    take_makes c.args.core.now.modes c.args.core.now.end c.args.number c.in-Some.submission.now c.in-Push.address c.at_first.result
    (numbered_of c.args.core.now.end c.requires.reached) c.in-Some.ensures c.in-Push.is c.at_first.ensures

pub returns-in_ok-signal-in-Pull : goal.returns-in_ok-signal-in-Pull
returns-in_ok-signal-in-Pull c =
    pull_makes c.args.core.now.modes c.args.core.now.end c.args.number c.in-Some.submission.now c.in-Pull.mpc c.in-Pull.address
    c.in_ok-signal-in-Pull.signal c.at_first-in-Pull.result
    (numbered_of c.args.core.now.end c.requires.reached) c.in-Some.ensures c.in-Pull.is c.in_ok-signal-in-Pull.ensures.asks c.at_first-in-Pull.ensures
