use Rattle.std.proofs.Common.{◌≡◌, ◌+◌, ◌-◌, ◌<◌, ◌≤◌, length, option_map, subst, arith}
use Rattle.std.proofs.lemmas.Result.{IfOk-weaker}
use Rattle.fold_laws.proofs.SomeFold.{reached_written}
use Rattle.msh_core.specs.Folding.{IsNotOpen}
use Rattle.msh_core.specs.Machine.{Machine}
use Rattle.msh_core.specs.declared.folding.Folding.TheVariants as folding
use Rattle.msh_core.proofs.FoldLemmas.{IsShownAt, found_carried, found_clock, found_kept, shown_known, shown_open}
use Rattle.msh_core.proofs.machine.Core.folded.Goals as goal

pub returns-then-part-submitted : goal.returns-then-part-submitted
returns-then-part-submitted c =
    let end = c.self.inside.tables.end in
    let value = c.submitted-submitted.ensures.value in
    let within : c.args.part < length end.sent = let less = c.if-part-submitted.true in omega (arith, value, less) in
    let closed : IsNotOpen end c.args.part =
    λ (waits : length end.sent + end.confirmed ≤ c.args.part) (there : c.args.part < length end.sent + length end.inbox). omega (arith, within, waits) in
    rw c.known.ensures
    (subst (λ (m : Machine). IsShownAt m.end m.places c.args.part (option_map folding.Known c.in_ok-carried.carried)) c.self.view_is
    (shown_known end c.self.inside.tables.places c.args.part c.in_ok-carried.carried closed
    (found_carried end c.args.part c.in_ok-carried.carried c.self.invariant.reached c.submitted-submitted.ensures.numbered within
    c.in_ok-carried.ensures)))

pub kept_header-requires-clause-written : goal.kept_header-requires-clause-written
kept_header-requires-clause-written c = reached_written c.self.inside.tables.end c.self.invariant.reached

pub returns-then-place-confirmed : goal.returns-then-place-confirmed
returns-then-place-confirmed c =
    let end = c.self.inside.tables.end in
    let at = c.args.part - c.submitted-submitted.result in
    let value = c.submitted-submitted.ensures.value in
    let confirmed = c.confirmed.ensures.value in
    let is : c.args.part ≡ length end.sent + at = let more = c.if-part-submitted.false in omega (arith, value, more) in
    let within : at < end.confirmed = let less = c.if-place-confirmed.true in omega (arith, confirmed, less) in
    let came : end.confirmed ≤ length end.inbox = let few = c.confirmed.ensures.within in omega (arith, confirmed, few) in
    let closed : IsNotOpen end c.args.part =
    λ (waits : length end.sent + end.confirmed ≤ c.args.part) (there : c.args.part < length end.sent + length end.inbox). omega (arith, is, within, waits) in
    rw c.known-then-place-confirmed.ensures
    (subst (λ (m : Machine). IsShownAt m.end m.places c.args.part (option_map folding.Known c.in_ok-kept.kept)) c.self.view_is
    (shown_known end c.self.inside.tables.places c.args.part c.in_ok-kept.kept closed
    (found_kept end c.args.part at c.in_ok-kept.kept c.self.invariant.reached is within came c.in_ok-kept.ensures)))

pub returns-then-place-received : goal.returns-then-place-received
returns-then-place-received c =
    let end = c.self.inside.tables.end in
    let at = c.args.part - c.submitted-submitted.result in
    let value = c.submitted-submitted.ensures.value in
    let confirmed = c.confirmed.ensures.value in
    let is : c.args.part ≡ length end.sent + at = let more = c.if-part-submitted.false in omega (arith, value, more) in
    let waits : end.confirmed ≤ at = let more = c.if-place-confirmed.false in omega (arith, confirmed, more) in
    IfOk-weaker c.open_entry.result _ _
    (λ found entry. subst (λ (m : Machine). IsShownAt m.end m.places c.args.part found) c.self.view_is
    (shown_open end c.self.inside.tables.places c.self.inside.tables.rooms c.args.part at found c.self.invariant is waits entry))
    c.open_entry.ensures

pub returns : goal.returns
returns c =
    let end = c.self.inside.tables.end in
    let at = c.args.part - c.submitted-submitted.result - c.received-received.result in
    let value = c.submitted-submitted.ensures.value in
    let confirmed = c.confirmed.ensures.value in
    let received = c.received-received.ensures.value in
    let is : c.args.part ≡ length end.sent + (length end.inbox + at) =
    let more = c.if-part-submitted.false in let past = c.if-place-received.false in omega (arith, value, received, more, past) in
    let came : end.confirmed ≤ length end.inbox = let few = c.confirmed.ensures.within in omega (arith, confirmed, few) in
    let closed : IsNotOpen end c.args.part =
    λ (waits : length end.sent + end.confirmed ≤ c.args.part) (there : c.args.part < length end.sent + length end.inbox). omega (arith, is, there) in
    rw c.known-2.ensures
    (subst (λ (m : Machine). IsShownAt m.end m.places c.args.part (option_map folding.Known c.set_clock-clock.result)) c.self.view_is
    (shown_known end c.self.inside.tables.places c.args.part c.set_clock-clock.result closed
    (found_clock end c.args.part at c.set_clock-clock.result c.self.invariant.reached is came c.set_clock-clock.ensures)))
