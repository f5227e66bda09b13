use Rattle.std.proofs.Common.{◌≡◌, ◌+◌, ◌<◌, ◌≤◌, length, ap, sym, ◌∙◌, arith}
use Rattle.std.proofs.lemmas.Bool.{leb-true}
use Rattle.msh_core.specs.Machine.{Machine}
use Rattle.msh_core.proofs.SmallLemmas.{confirm_full, confirm_gone, confirm_made, confirm_none, confirm_ready}
use Rattle.msh_core.proofs.machine.Core.plan_confirm.Goals as goal

pub returns-then-upto-confirmed-clause-step : goal.returns-then-upto-confirmed-clause-step
returns-then-upto-confirmed-clause-step c event is =
    let confirmed : c.confirmed.result ≡ c.args.self.now.end.confirmed =
    c.confirmed.ensures.value ∙ ap (λ (m : Machine). m.end.confirmed) c.self.view_is in
    let gone : c.args.upto < c.args.self.now.end.confirmed = omega (arith, confirmed, c.if-upto-confirmed.true) in
    confirm_gone c.args.self.now event c.args.upto is gone

pub returns-then-upto-received-clause-step : goal.returns-then-upto-received-clause-step
returns-then-upto-received-clause-step c event is =
    let confirmed : c.confirmed.result ≡ c.args.self.now.end.confirmed =
    c.confirmed.ensures.value ∙ ap (λ (m : Machine). m.end.confirmed) c.self.view_is in
    let received : c.received.result ≡ length c.args.self.now.end.inbox =
    c.received.ensures.value ∙ ap (λ (m : Machine). length m.end.inbox) c.self.view_is in
    let left : c.args.self.now.end.confirmed ≤ c.args.upto = omega (arith, confirmed, c.if-upto-confirmed.false) in
    let none : length c.args.self.now.end.inbox ≤ c.args.upto = omega (arith, received, c.if-upto-received.true) in
    confirm_none c.args.self.now event c.args.upto is left none

pub returns-then-not-has_small_room-clause-step : goal.returns-then-not-has_small_room-clause-step
returns-then-not-has_small_room-clause-step c event is =
    let confirmed : c.confirmed.result ≡ c.args.self.now.end.confirmed =
    c.confirmed.ensures.value ∙ ap (λ (m : Machine). m.end.confirmed) c.self.view_is in
    let received : c.received.result ≡ length c.args.self.now.end.inbox =
    c.received.ensures.value ∙ ap (λ (m : Machine). length m.end.inbox) c.self.view_is in
    let left : c.args.self.now.end.confirmed ≤ c.args.upto = omega (arith, confirmed, c.if-upto-confirmed.false) in
    let within : c.args.upto < length c.args.self.now.end.inbox = omega (arith, received, c.if-upto-received.false) in
    rw c.small_full.ensures
    (confirm_full c.args.self.now event c.args.upto is left within (sym c.has_small_room.ensures ∙ c.if-not-has_small_room.true))

pub returns-clause-step : goal.returns-clause-step
returns-clause-step c event is =
    let confirmed : c.confirmed.result ≡ c.args.self.now.end.confirmed =
    c.confirmed.ensures.value ∙ ap (λ (m : Machine). m.end.confirmed) c.self.view_is in
    let received : c.received.result ≡ length c.args.self.now.end.inbox =
    c.received.ensures.value ∙ ap (λ (m : Machine). length m.end.inbox) c.self.view_is in
    let left : c.args.self.now.end.confirmed ≤ c.args.upto = omega (arith, confirmed, c.if-upto-confirmed.false) in
    let within : c.args.upto < length c.args.self.now.end.inbox = omega (arith, received, c.if-upto-received.false) in
    confirm_made c.args.self.now event c.args.upto is left within (sym c.has_small_room.ensures ∙ c.if-not-has_small_room.false)

pub returns-then-upto-confirmed-clause-ready : goal.returns-then-upto-confirmed-clause-ready
returns-then-upto-confirmed-clause-ready c =
    confirm_ready c.args.self.now c.args.upto _ (returns-then-upto-confirmed-clause-step c) tt

pub returns-then-upto-received-clause-ready : goal.returns-then-upto-received-clause-ready
returns-then-upto-received-clause-ready c =
    confirm_ready c.args.self.now c.args.upto _ (returns-then-upto-received-clause-step c) tt

pub returns-then-not-has_small_room-clause-ready : goal.returns-then-not-has_small_room-clause-ready
returns-then-not-has_small_room-clause-ready c =
    confirm_ready c.args.self.now c.args.upto _ (returns-then-not-has_small_room-clause-step c) (rw c.small_full.ensures tt)

pub returns-clause-ready : goal.returns-clause-ready
returns-clause-ready c =
    let confirmed : c.confirmed.result ≡ c.args.self.now.end.confirmed =
    c.confirmed.ensures.value ∙ ap (λ (m : Machine). m.end.confirmed) c.self.view_is in
    let received : c.received.result ≡ length c.args.self.now.end.inbox =
    c.received.ensures.value ∙ ap (λ (m : Machine). length m.end.inbox) c.self.view_is in
    let left : c.args.self.now.end.confirmed ≤ c.args.upto = omega (arith, confirmed, c.if-upto-confirmed.false) in
    let within : c.args.upto < length c.args.self.now.end.inbox = omega (arith, received, c.if-upto-received.false) in
    let room : c.args.self.now.end.size + 20 ≤ 4294967296 =
    leb-true _ _ (sym c.has_small_room.ensures ∙ c.if-not-has_small_room.false) in
    confirm_ready c.args.self.now c.args.upto _ (returns-clause-step c) (left, within, room)
