use Rattle.std.proofs.Common.{◌≡◌, None, true, subst}
use Rattle.exchange_model.specs.Apply.{first_unfit}
use Rattle.exchange_model.specs.Table.{has_room}
use Rattle.exchange_model.specs.declared.outcome.Outcome.{Outcome}
use Rattle.office.specs.Recording.{HasOutcome}
use Rattle.office.specs.declared.step_to_make.StepToMake.{StepToMake}
use Rattle.office.proofs.step_to_make.StepToMake.write.Goals as goal

pub write_planned-requires : goal.write_planned-requires
write_planned-requires g c =
    let ready = c.requires.ready in
    let P : StepToMake → Type 0 = λ s. HasOutcome ready.0 ready.1 s in
    let step = subst P c.in-Planned.is ready.2 in
    record { ready = (ready.0.end, ready.0.places, ready.1.effects, ready.3, step.2, subst (λ (o : Outcome). has_room ready.0.end o.effects ≡ true) step.0 step.1.limited) }

pub returns-in-Planned-clause-records : goal.returns-in-Planned-clause-records
returns-in-Planned-clause-records g c machine outcome is_step is =
    let P : StepToMake → Type 0 = λ s. HasOutcome machine outcome s in
    let step = subst P c.in-Planned.is is_step in
    c.write_planned.ensures.records machine.end machine.places outcome is step.2 (subst (λ (o : Outcome). first_unfit o.effects machine.end ≡ None) step.0 step.1.stands.fit)

pub write_small-requires : goal.write_small-requires
write_small-requires g c =
    let ready = c.requires.ready in
    let P : StepToMake → Type 0 = λ s. HasOutcome ready.0 ready.1 s in
    let step = subst P c.in-WithoutMemory.is ready.2 in
    record { ready = (ready.0.end, ready.0.places, ready.3, step.0.goes); frame = c.requires.small }

pub returns-in-WithoutMemory-clause-records : goal.returns-in-WithoutMemory-clause-records
returns-in-WithoutMemory-clause-records g c machine outcome is_step is =
    let P : StepToMake → Type 0 = λ s. HasOutcome machine outcome s in
    let step = subst P c.in-WithoutMemory.is is_step in
    c.write_small.ensures.records machine.end machine.places outcome is step.0.goes step.1
