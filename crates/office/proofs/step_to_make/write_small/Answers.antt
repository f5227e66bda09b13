use Rattle.std.proofs.Common.{◌<◌, ◌^◌, ◌∙◌, subst, ap, arith}
use Rattle.std.proofs.lemmas.Grind.{common_steps}
use Rattle.exchange_model.specs.declared.outcome.Outcome.{Outcome}
use Rattle.msh_core.specs.Small.{CanGo, StandsFor}
use Rattle.msh_core.specs.declared.small.SmallPlan.{SmallPlan}
use Rattle.office.proofs.SmallLemmas.{confirm_fits, confirm_some, tick_fits, tick_some}
use Rattle.office.proofs.WritingLemmas.{records_none, records_some}
use Rattle.office.proofs.step_to_make.write_small.Goals as goal

pub returns-in-Rest-clause-records : goal.returns-in-Rest-clause-records
returns-in-Rest-clause-records g c end places outcome is goes stands =
    let rests = subst (λ (p : SmallPlan). StandsFor end p outcome) c.in-Rest.is stands in
    records_none g.D.Disk g.met.D.Disk.only_now c.args.journal.now end places outcome (ap (λ (o : Outcome). o.effects) rests) is

pub returns-in-Tick-clause-records : goal.returns-in-Tick-clause-records
returns-in-Tick-clause-records g c end places outcome is goes stands =
    let can = subst (λ (p : SmallPlan). CanGo end p) c.in-Tick.is goes in
    let ticks = subst (λ (p : SmallPlan). StandsFor end p outcome) c.in-Tick.is stands in
    let fits = tick_fits c.in-Tick.moment c.fill.new.self end outcome (λ tick same. c.fill.ensures ∙ c.tick_body.ensures tick same) can ticks in
    records_some g.D.Disk c.args.journal.now c.write_frame.new.journal end places outcome c.write_frame.result (tick_some c.in-Tick.moment end outcome ticks)
    (c.write_frame.ensures.appends end places outcome.effects is fits.0 fits.1)

pub returns-in-Confirm-clause-records : goal.returns-in-Confirm-clause-records
returns-in-Confirm-clause-records g c end places outcome is goes stands =
    let can = subst (λ (p : SmallPlan). CanGo end p) c.in-Confirm.is goes in
    let confirms = subst (λ (p : SmallPlan). StandsFor end p outcome) c.in-Confirm.is stands in
    let small : c.in-Confirm.upto < 2 ^ 64 = grind (arith, common_steps) in
    let fits = confirm_fits c.in-Confirm.upto c.fill-in-Confirm.new.self end outcome small (c.fill-in-Confirm.ensures ∙ c.confirm_body.ensures) can confirms in
    records_some g.D.Disk c.args.journal.now c.write_frame-in-Confirm.new.journal end places outcome c.write_frame-in-Confirm.result (confirm_some c.in-Confirm.upto end outcome confirms)
    (c.write_frame-in-Confirm.ensures.appends end places outcome.effects is fits.0 fits.1)
