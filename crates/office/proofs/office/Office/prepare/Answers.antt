use Rattle.std.proofs.Common.{◌≡◌, ◌∙◌, ℕ, [], inl, None, Err, refl, sym, ap, subst}
use Rattle.exchange_model.specs.declared.outcome.Outcome.{Outcome}
use Rattle.msh_core.specs.Machine.{IsReady, Machine}
use Rattle.msh_core.proofs.GivenLemmas.{other_step}
use Rattle.office.specs.Preparing.{Prepared, Prepares}
use Rattle.office.specs.Steps.{Handles}
use Rattle.office.specs.declared.fault.OfficeFault.TheVariants.{NoMemory}
use Rattle.office.proofs.HandlingLemmas.{office}
use Rattle.office.proofs.PreparingLemmas.{machine_is, prepares_step, roomy_handling, roomy_prepares, starves}
use Rattle.office.proofs.ReadingLemmas.{free_read, if_err_all, if_err_map, if_ok_map}
use Rattle.office.proofs.StateLemmas.{order_keeps}
use Rattle.office.proofs.office.Office.prepare.Goals as goal

-- there was no memory for the plan
pub returns-in-Err-clause-free : goal.returns-in-Err-clause-free
returns-in-Err-clause-free g c = rw (← c.self.view_is) c.in-Err.ensures.free

pub returns-in-Err-clause-starved : goal.returns-in-Err-clause-starved
returns-in-Err-clause-starved g c =
    let o = c.self.inside in
    let core = c.prepare.new.self in
    let old = office o.journal o.core.end o.core.places o.core.modes o.core.rooms o.keeper.book o.keeper.list in
    let is = machine_is core o.core.end o.core.places o.core.modes c.prepare.ensures.end c.prepare.ensures.places c.prepare.ensures.modes in
    rw (← c.self.view_is) (λ pass.
    let P : Machine → Type 0 = λ k. Handles g.D.Disk old (office o.journal k.end k.places k.modes k.rooms o.keeper.book o.keeper.list) pass pass c.args.event (Err NoMemory) in
    subst P (sym is) (starves c.self.invariant.0 g.met.D.Disk.only_now o.core.rooms core.rooms o.keeper.book c.args.event o.journal c.self.invariant.0 (inl refl) refl (λ stopped. refl) pass))

-- any other event
pub returns-in-None-clause-ready : goal.returns-in-None-clause-ready
returns-in-None-clause-ready g c =
    let o = c.self.inside in
    let core = c.prepare.new.self in
    let plan = c.in-Ok.plan in
    let old = office o.journal o.core.end o.core.places o.core.modes o.core.rooms o.keeper.book o.keeper.list in
    let is = machine_is core o.core.end o.core.places o.core.modes c.prepare.ensures.end c.prepare.ensures.places c.prepare.ensures.modes in
    let made : Prepared = record { event = c.args.event; plan = plan; failed = None } in
    let P : Machine → Type 0 = λ k. Prepares g.D.Disk old (office o.journal k.end k.places k.modes k.rooms o.keeper.book o.keeper.list) made in
    let other = c.number_read.ensures.other c.in-None.is in
    let step = other_step o.core.modes o.core.end c.args.event plan.outcome other c.in-Ok.ensures.given in
    let ready = subst (λ (k : Machine). IsReady k plan) is c.in-Ok.ensures.ready in
    rw (← c.self.view_is)
    (if_ok_map c.ready_of.result
    (λ r same. subst (λ (x : Prepared). Prepares g.D.Disk old (office o.journal core.end core.places core.modes core.rooms o.keeper.book o.keeper.list) x) (sym same)
    (subst P (sym is) (prepares_step g.D.Disk old core.rooms c.args.event plan other step ready (order_keeps c.self.invariant.0))))
    c.ready_of.ensures.ready)

pub returns-in-None-clause-starved : goal.returns-in-None-clause-starved
returns-in-None-clause-starved g c =
    let o = c.self.inside in
    let core = c.prepare.new.self in
    let old = office o.journal o.core.end o.core.places o.core.modes o.core.rooms o.keeper.book o.keeper.list in
    let is = machine_is core o.core.end o.core.places o.core.modes c.prepare.ensures.end c.prepare.ensures.places c.prepare.ensures.modes in
    rw (← c.self.view_is)
    (if_err_all c.ready_of.result (λ error pass.
    let P : Machine → Type 0 = λ k. Handles g.D.Disk old (office o.journal k.end k.places k.modes k.rooms o.keeper.book o.keeper.list) pass pass c.args.event (Err NoMemory) in
    subst P (sym is) (starves c.self.invariant.0 g.met.D.Disk.only_now o.core.rooms core.rooms o.keeper.book c.args.event o.journal c.self.invariant.0 (inl refl) refl (λ stopped. refl) pass)))

pub returns-in-None-clause-free : goal.returns-in-None-clause-free
returns-in-None-clause-free g c =
    let o = c.self.inside in
    let plan = c.in-Ok.plan in
    let other = c.number_read.ensures.other c.in-None.is in
    let step = other_step o.core.modes o.core.end c.args.event plan.outcome other c.in-Ok.ensures.given in
    rw (← c.self.view_is) (λ outcome taken free.
    let same : outcome ≡ plan.outcome = c.an_event_has_one_outcome.ensures _ _ _ _ _ taken step in
    c.ready_of.ensures.free (sym (ap (λ (out : Outcome). out.effects) same) ∙ free.rests))

-- a `Read`
pub returns-in-Some-clause-ready : goal.returns-in-Some-clause-ready
returns-in-Some-clause-ready g c =
    let o = c.self.inside in
    let core = c.prepare.new.self in
    let new = c.prepare_read.new.self in
    let old = office o.journal o.core.end o.core.places o.core.modes o.core.rooms o.keeper.book o.keeper.list in
    let is = machine_is core o.core.end o.core.places o.core.modes c.prepare.ensures.end c.prepare.ensures.places c.prepare.ensures.modes in
    rw (← c.self.view_is)
    (if_ok_map c.prepare_read.result
    (λ r prepares.
    let P : Machine → Type 0 = λ k. Prepares g.D.Disk (office o.journal k.end k.places k.modes k.rooms o.keeper.book o.keeper.list) new r in
    roomy_prepares g.D.Disk old new core.rooms r (subst P is prepares))
    c.prepare_read.ensures.ready)

pub returns-in-Some-clause-starved : goal.returns-in-Some-clause-starved
returns-in-Some-clause-starved g c =
    let o = c.self.inside in
    let core = c.prepare.new.self in
    let new = c.prepare_read.new.self in
    let old = office o.journal o.core.end o.core.places o.core.modes o.core.rooms o.keeper.book o.keeper.list in
    let is = machine_is core o.core.end o.core.places o.core.modes c.prepare.ensures.end c.prepare.ensures.places c.prepare.ensures.modes in
    rw (← c.self.view_is)
    (if_err_map c.prepare_read.result
    (λ error starved pass.
    let P : Machine → Type 0 = λ k. Handles g.D.Disk (office o.journal k.end k.places k.modes k.rooms o.keeper.book o.keeper.list) new pass pass c.args.event (Err NoMemory) in
    roomy_handling g.D.Disk old new core.rooms pass pass c.args.event (Err NoMemory) (order_keeps c.self.invariant.0) (subst P is (starved pass)))
    c.prepare_read.ensures.starved)

pub returns-in-Some-clause-free : goal.returns-in-Some-clause-free
returns-in-Some-clause-free g c =
    let o = c.self.inside in
    rw (← c.self.view_is) (λ outcome step free.
    c.prepare_read.ensures.free (rw c.prepare.ensures.end (free_read o.core.modes o.core.end c.args.event outcome c.in-Some.number c.in-Some.ensures.asked step free)))
