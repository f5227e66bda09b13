use Rattle.as4_audit.proofs.MadeLemmas.{confirm_makes}
use Rattle.as4_audit.proofs.own.confirmation_of.Goals as goal

pub returns : goal.returns
returns c modes end made = confirm_makes modes end c.args.upto c.at_first.result c.at_first.ensures made
