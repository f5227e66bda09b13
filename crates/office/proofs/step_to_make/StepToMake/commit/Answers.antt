use Rattle.std.proofs.Common.{◌∙◌, subst}
use Rattle.office.specs.Recording.{HasOutcome}
use Rattle.office.specs.declared.step_to_make.StepToMake.{StepToMake}
use Rattle.office.proofs.SmallLemmas.{small_places}
use Rattle.office.proofs.step_to_make.StepToMake.commit.Goals as goal

pub returns-in-WithoutMemory-clause-places : goal.returns-in-WithoutMemory-clause-places
returns-in-WithoutMemory-clause-places c outcome has =
    let P : StepToMake → Type 0 = λ s. HasOutcome c.args.core.now outcome s in
    let step = subst P c.in-WithoutMemory.is has in
    c.commit_small.ensures.places ∙ small_places c.in-WithoutMemory.plan c.args.core.now.end outcome c.args.gate c.args.core.now.places step.1
