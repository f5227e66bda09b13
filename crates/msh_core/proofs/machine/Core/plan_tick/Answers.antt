use Rattle.std.proofs.Common.{◌≡◌, ◌+◌, ◌<◌, ◌≤◌, ap, sym, ◌∙◌, arith}
use Rattle.std.proofs.lemmas.Bool.{leb-true}
use Rattle.msh_core.specs.Machine.{Machine}
use Rattle.msh_core.proofs.SmallLemmas.{tick_full, tick_late, tick_made, tick_ready}
use Rattle.msh_core.proofs.machine.Core.plan_tick.Goals as goal

pub returns-then-stamp-moment-clause-step : goal.returns-then-stamp-moment-clause-step
returns-then-stamp-moment-clause-step c event is same =
    let moment : c.moment.result ≡ c.args.self.now.end.moment =
    c.moment.ensures.value ∙ ap (λ (m : Machine). m.end.moment) c.self.view_is in
    let late : event.stamp ≤ c.args.self.now.end.moment = omega (arith, same, moment, c.if-stamp-moment.true) in
    tick_late c.args.self.now event is late

pub returns-then-not-has_small_room-clause-step : goal.returns-then-not-has_small_room-clause-step
returns-then-not-has_small_room-clause-step c event is same =
    let moment : c.moment.result ≡ c.args.self.now.end.moment =
    c.moment.ensures.value ∙ ap (λ (m : Machine). m.end.moment) c.self.view_is in
    let later : c.args.self.now.end.moment < event.stamp = omega (arith, same, moment, c.if-stamp-moment.false) in
    rw c.small_full.ensures
    (tick_full c.args.self.now event is later (sym c.has_small_room.ensures ∙ c.if-not-has_small_room.true))

pub returns-clause-step : goal.returns-clause-step
returns-clause-step c event is same =
    let moment : c.moment.result ≡ c.args.self.now.end.moment =
    c.moment.ensures.value ∙ ap (λ (m : Machine). m.end.moment) c.self.view_is in
    let later : c.args.self.now.end.moment < event.stamp = omega (arith, same, moment, c.if-stamp-moment.false) in
    rw (sym same) (tick_made c.args.self.now event is later (sym c.has_small_room.ensures ∙ c.if-not-has_small_room.false))

pub returns-then-stamp-moment-clause-ready : goal.returns-then-stamp-moment-clause-ready
returns-then-stamp-moment-clause-ready c =
    tick_ready c.args.self.now c.args.stamp _ c.requires (returns-then-stamp-moment-clause-step c) tt

pub returns-then-not-has_small_room-clause-ready : goal.returns-then-not-has_small_room-clause-ready
returns-then-not-has_small_room-clause-ready c =
    tick_ready c.args.self.now c.args.stamp _ c.requires (returns-then-not-has_small_room-clause-step c)
    (rw c.small_full.ensures tt)

pub returns-clause-ready : goal.returns-clause-ready
returns-clause-ready c =
    let moment : c.moment.result ≡ c.args.self.now.end.moment =
    c.moment.ensures.value ∙ ap (λ (m : Machine). m.end.moment) c.self.view_is in
    let later : c.args.self.now.end.moment < c.args.stamp = omega (arith, moment, c.if-stamp-moment.false) in
    let room : c.args.self.now.end.size + 20 ≤ 4294967296 =
    leb-true _ _ (sym c.has_small_room.ensures ∙ c.if-not-has_small_room.false) in
    tick_ready c.args.self.now c.args.stamp _ c.requires (returns-clause-step c) (later, c.requires, room)
