use Rattle.std.proofs.Common.{refl, ◌∙◌}
use Rattle.as4_audit.proofs.MadeLemmas.{deliverable, delivery_makes}
use Rattle.as4_audit.proofs.partner.delivery_of.Goals as goal

pub at_first-requires : goal.at_first-requires
at_first-requires c = rw (c.in_ok-header.ensures.0, c.in_ok-header.ensures.1) (deliverable c.args.delivery.now)

pub returns : goal.returns
returns c modes end made =
    delivery_makes modes end c.args.delivery.now c.at_first.result
    (c.at_first.ensures ∙ rw (c.in_ok-header.ensures.0, c.in_ok-header.ensures.1) refl) made
