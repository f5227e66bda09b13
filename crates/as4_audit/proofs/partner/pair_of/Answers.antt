use Rattle.as4_audit.proofs.MadeLemmas.{no_channel, no_next, no_receipt, numbered_of, pair_makes}
use Rattle.as4_audit.proofs.partner.pair_of.Goals as goal

pub returns-in_default : goal.returns-in_default
returns-in_default c = no_receipt c.args.core.now.modes c.args.core.now.end c.args.number _ c.in_default.ensures

pub returns-in_default-submission : goal.returns-in_default-submission
returns-in_default-submission c =
    no_next c.args.core.now.modes c.args.core.now.end c.args.number c.args.head (numbered_of c.args.core.now.end c.requires.reached)
    c.in_default-submission.ensures

pub returns-in_default-route : goal.returns-in_default-route
returns-in_default-route c =
    no_channel c.args.core.now.modes c.args.core.now.end c.args.number c.args.head c.in-Some-submission.next.now c.in_default-route.field-0
    (numbered_of c.args.core.now.end c.requires.reached) c.in-Some-submission.ensures c.in_default-route.is

pub returns-in-Ok-Ok : goal.returns-in-Ok-Ok
returns-in-Ok-Ok c =
    pair_makes c.args.core.now.modes c.args.core.now.end c.args.number c.args.head c.in-Some.submission.now c.in-Some-submission.next.now
    c.in-Pull.mpc c.in-Pull.address _ 0 0 c.at_first.result (numbered_of c.args.core.now.end c.requires.reached)
    c.in-Some.ensures c.in-Some-submission.ensures c.in-Pull.is c.in-Ok-Ok.ensures c.in-Ok-Ok.ensures'.asks c.at_first.ensures
