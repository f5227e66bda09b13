use Rattle.std.proofs.Common.{subst}
use Rattle.as4_audit.specs.Made.{IsMade}
use Rattle.as4_audit.proofs.KindLemmas.{no_effects, not_empty, opened, opened_as, other_first, refused_candidate}
use Rattle.as4_audit.proofs.made.event_of.Goals as goal

pub returns-in_default : goal.returns-in_default
returns-in_default c = no_effects c.args.modes.now c.args.core.now.end c.args.effects.now c.in_default.len_below

pub returns-in_ok-found-in-Refused : goal.returns-in_ok-found-in-Refused
returns-in_ok-found-in-Refused c =
    let candidate = rw c.requires.same at c.in_ok-found-in-Refused.ensures in
    refused_candidate c.args.modes.now c.args.core.now.end c.args.effects.now _ c.in-Refused.number c.in-Refused.code
    c.in_ok-found-in-Refused.found
    (opened_as _ _ _ _ (opened c.args.effects.now c.first-item.result c.in-len1-up.len_at_least c.first-item.is) c.in-Refused.is) candidate

pub returns-in_default-first : goal.returns-in_default-first
returns-in_default-first c made =
    other_first c.args.modes.now c.args.core.now.end c.first-item.result _ (not_empty _ c.if-is_empty.ensures)
    c.in_default-first.not-Refused c.in_default-first.not-Receipted
    (subst (IsMade c.args.modes.now c.args.core.now.end) (opened c.args.effects.now c.first-item.result c.in-len1-up.len_at_least c.first-item.is) made)
