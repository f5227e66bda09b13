use Rattle.std.proofs.Common.{◌≡◌, ◌∙◌, ◌≤◌, inl, inr, ℕ, Some, Ok, true, Option, List, is_some, refl, sym, subst}
use Rattle.std.specs.List.{slice_get}
use Rattle.as4_values.specs.declared.payload.Payload.{Payload}
use Rattle.exchange_model.specs.Table.{Rests}
use Rattle.exchange_model.specs.declared.inbox_entry.InboxEntry.{InboxEntry}
use Rattle.exchange_model.specs.declared.outcome.Outcome.{Outcome}
use Rattle.msh_core.specs.Machine.{IsReady}
use Rattle.msh_transitions.specs.Given.{bare_read}
use Rattle.office.specs.Observed.{RepliesToRead}
use Rattle.office.specs.State.{OfficeState, TakesEvents, machine_of}
use Rattle.office.proofs.HandlingLemmas.{office}
use Rattle.office.proofs.PreparingLemmas.{starves}
use Rattle.office.proofs.ReadingLemmas.{closed_replies, completed_payloads, entry_of, going_payloads, header_at, if_err_map, if_ok_at, if_ok_map, open_not_bare, read_rests, starved_calm, told_seen}
use Rattle.office.proofs.StateLemmas.{order_keeps, order_stays}
use Rattle.office.proofs.office.Office.read_open.Goals as goal

-- the journal has what it had
pub invariant_of-self : goal.invariant_of-self
invariant_of-self g c =
    let takes = subst (λ (v : OfficeState g.row.D.Denot). TakesEvents v) (sym c.self.view_is) c.requires.going in
    let o = c.self.inside in
    let order = c.self.invariant.0 in
    let going = order.halted ∙ takes.1 in
    (order_stays order c.fetch_payloads-fetched.new.journal going (c.fetch_payloads-fetched.ensures.held o.core.end o.core.places (order.kept going)), c.self.invariant.1)

pub returns-in-Entry-clause-read : goal.returns-in-Entry-clause-read
returns-in-Entry-clause-read g c =
    let takes = subst (λ (v : OfficeState g.row.D.Denot). TakesEvents v) (sym c.self.view_is) c.requires.going in
    let ready = subst (λ (v : OfficeState g.row.D.Denot). IsReady (machine_of v) c.args.plan) (sym c.self.view_is) c.requires.planned in
    let rests = subst (λ (v : OfficeState g.row.D.Denot). Rests (bare_read v.end c.args.number) c.args.plan.outcome) (sym c.self.view_is) c.requires.rests in
    let o = c.self.inside in
    let order = c.self.invariant.0 in
    let going = order.halted ∙ takes.1 in
    let fetched = c.fetch_payloads-fetched in
    let old = office o.journal o.core.end o.core.places o.core.modes o.core.rooms o.keeper.book o.keeper.list in
    let new = office fetched.new.journal o.core.end o.core.places o.core.modes o.core.rooms o.keeper.book o.keeper.list in
    let held = c.in-Entry.ensures.held in
    let entry = entry_of (slice_get o.core.end.inbox c.args.number) c.in-Entry.header.now held.1 in
    let found : (got : Option (List Payload)) → fetched.result ≡ Ok got → is_some (g.D.Disk.seen o.journal.disk) ≡ true → (e : InboxEntry) → o.core.end.confirmed ≤ c.args.number
    → slice_get o.core.end.inbox c.args.number ≡ Some e → got ≡ Some e.payloads =
    λ got is seen e waits there. told_seen (g.D.Disk.seen o.journal.disk) (got ≡ Some e.payloads) seen
    (if_ok_at _ fetched.result got fetched.ensures.found is o.core.end o.core.places c.args.number _ e (order.kept going) waits there
    (header_at (slice_get o.core.end.inbox c.args.number) e c.in-Entry.header.now held.1 there) held.2) in
    rw (← c.self.view_is)
    (if_ok_map c.completed.result
    (λ made completes. completed_payloads g.D.Disk old new c.args.number c.args.plan made.0 made.1 fetched.result completes ready rests (order_keeps order) takes refl fetched.ensures.quiet fetched.ensures.counts.cause found held.0 entry.0 entry.1)
    c.completed.ensures.made)

pub returns-in-Entry-clause-starved : goal.returns-in-Entry-clause-starved
returns-in-Entry-clause-starved g c =
    let takes = subst (λ (v : OfficeState g.row.D.Denot). TakesEvents v) (sym c.self.view_is) c.requires.going in
    let o = c.self.inside in
    let order = c.self.invariant.0 in
    let fetched = c.fetch_payloads-fetched in
    rw (← c.self.view_is)
    (if_err_map c.completed.result
    (λ error starved event pass asked. starves order g.met.D.Disk.only_now o.core.rooms o.core.rooms o.keeper.book event fetched.new.journal (invariant_of-self g c).0
    (inr (c.args.number, asked, fetched.ensures.quiet)) (starved_calm (g.D.Disk.fault_count o.journal.disk) (g.D.Disk.fault_count fetched.new.journal.disk) fetched.result fetched.ensures.counts.cause starved)
    (λ never. absurd (never takes)) pass)
    c.completed.ensures.starved)

pub returns-in-Entry-clause-free : goal.returns-in-Entry-clause-free
returns-in-Entry-clause-free g c =
    let o = c.self.inside in
    let held = c.in-Entry.ensures.held in
    let entry = entry_of (slice_get o.core.end.inbox c.args.number) c.in-Entry.header.now held.1 in
    rw (← c.self.view_is) (λ bare. absurd (open_not_bare o.core.end c.args.number entry.0 held.0 entry.1 bare))

pub returns-in-Gone-clause-read : goal.returns-in-Gone-clause-read
returns-in-Gone-clause-read g c =
    let takes = subst (λ (v : OfficeState g.row.D.Denot). TakesEvents v) (sym c.self.view_is) c.requires.going in
    let ready = subst (λ (v : OfficeState g.row.D.Denot). IsReady (machine_of v) c.args.plan) (sym c.self.view_is) c.requires.planned in
    let rests = subst (λ (v : OfficeState g.row.D.Denot). Rests (bare_read v.end c.args.number) c.args.plan.outcome) (sym c.self.view_is) c.requires.rests in
    let o = c.self.inside in
    let old = office o.journal o.core.end o.core.places o.core.modes o.core.rooms o.keeper.book o.keeper.list in
    let observable = is_some (g.D.Disk.seen o.journal.disk) in
    rw (← c.self.view_is)
    (going_payloads g.D.Disk old c.args.number c.args.plan ready (read_rests (bare_read o.core.end c.args.number) c.args.plan.outcome rests) (order_keeps c.self.invariant.0) old takes refl (inl refl) refl
    (subst (λ (out : Outcome). RepliesToRead observable o.core.end c.args.number out.reply) (sym rests) (closed_replies observable o.core.end c.args.number (inl c.in-Gone.ensures.held))))

pub returns-in-NoEntry-clause-read : goal.returns-in-NoEntry-clause-read
returns-in-NoEntry-clause-read g c =
    let takes = subst (λ (v : OfficeState g.row.D.Denot). TakesEvents v) (sym c.self.view_is) c.requires.going in
    let ready = subst (λ (v : OfficeState g.row.D.Denot). IsReady (machine_of v) c.args.plan) (sym c.self.view_is) c.requires.planned in
    let rests = subst (λ (v : OfficeState g.row.D.Denot). Rests (bare_read v.end c.args.number) c.args.plan.outcome) (sym c.self.view_is) c.requires.rests in
    let o = c.self.inside in
    let old = office o.journal o.core.end o.core.places o.core.modes o.core.rooms o.keeper.book o.keeper.list in
    let observable = is_some (g.D.Disk.seen o.journal.disk) in
    rw (← c.self.view_is)
    (going_payloads g.D.Disk old c.args.number c.args.plan ready (read_rests (bare_read o.core.end c.args.number) c.args.plan.outcome rests) (order_keeps c.self.invariant.0) old takes refl (inl refl) refl
    (subst (λ (out : Outcome). RepliesToRead observable o.core.end c.args.number out.reply) (sym rests) (closed_replies observable o.core.end c.args.number (inr c.in-NoEntry.ensures.held.1))))
