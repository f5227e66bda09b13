use Rattle.std.proofs.Common.{◌∙◌}
use Rattle.msh_transitions.proofs.FreshLemmas.{new_fits}
use Rattle.msh_transitions.proofs.OwnRows.{takes_in}
use Rattle.msh_transitions.proofs.StandLemmas.{gives_stands}
use Rattle.msh_transitions.proofs.submitting.take_in.Goals as goal

pub returns-clause-row : goal.returns-clause-row
returns-clause-row c =
    takes_in c.args.mode.now c.args.tables.now.end c.args.event.now c.args.conversation.now c.args.loads.now
    c.in_ok-submission.submission _ _ _ _ c.gives.ensures c.submitted-number.ensures.value c.moment.ensures.value
    c.in_ok-id.ensures c.in_ok-submission.ensures

pub returns-clause-stands : goal.returns-clause-stands
returns-clause-stands c =
    gives_stands _ _ _ _ c.gives.ensures
    (new_fits c.in_ok-submission.submission c.args.tables.now.end c.submitted-number.ensures.numbered
    (c.in_ok-submission.ensures.numbered ∙ c.submitted-number.ensures.value))
