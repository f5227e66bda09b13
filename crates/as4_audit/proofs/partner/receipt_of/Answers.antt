use Rattle.as4_audit.proofs.MadeLemmas.{no_receipt, numbered_of, receipt_makes}
use Rattle.as4_audit.proofs.partner.receipt_of.Goals as goal

pub returns-in_default : goal.returns-in_default
returns-in_default c = no_receipt c.args.core.now.modes c.args.core.now.end c.args.number _ c.in_default.ensures

pub returns : goal.returns
returns c =
    receipt_makes c.args.core.now.modes c.args.core.now.end c.args.number c.in-Some.submission.now c.in_ok-signal.signal 0 0 c.at_first.result
    (numbered_of c.args.core.now.end c.requires.reached) c.in-Some.ensures c.in_ok-signal.ensures c.at_first.ensures
