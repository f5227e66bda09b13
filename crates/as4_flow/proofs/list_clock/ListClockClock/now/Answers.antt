use Rattle.std.proofs.Common.{◌≡◌, ℕ, List, ◌-◌, length, take, drop, ◌∙◌, ap}
use Rattle.std.proofs.lemmas.List.{take_rest}
use Rattle.as4_flow.specs.ClocksInMemory.{moment_at}
use Rattle.as4_flow.proofs.ClockLemmas.{moments_used, draws_moment, is_after_now}
use Rattle.as4_flow.proofs.list_clock.ListClockClock.now.Goals as goal

pub returns-clause-draws : goal.returns-clause-draws
returns-clause-draws c =
    let given = c.self.inside.given in
    let left_is = ap (λ clock. clock.moments) c.self.view_is in
    let same : take (length c.deref.result.now - given) (drop given c.deref.result.now) ≡ c.args.self.now.moments =
    take_rest c.deref.result.now given ∙ ap (λ (moments : List ℕ). drop given moments) c.deref.ensures.value ∙ left_is in
    draws_moment c.args.self.now _ _ (c.first_of-moment.ensures.moment ∙ ap (λ (moments : List ℕ). moment_at moments 0) same)
    (moments_used _ _ _ given c.first_of-moment.result.1 left_is same c.first_of-moment.ensures.others)

pub returns-clause-state : goal.returns-clause-state
returns-clause-state c =
    let given = c.self.inside.given in
    let left_is = ap (λ clock. clock.moments) c.self.view_is in
    let same : take (length c.deref.result.now - given) (drop given c.deref.result.now) ≡ c.args.self.now.moments =
    take_rest c.deref.result.now given ∙ ap (λ (moments : List ℕ). drop given moments) c.deref.ensures.value ∙ left_is in
    is_after_now c.args.self.now _ _ (c.first_of-moment.ensures.moment ∙ ap (λ (moments : List ℕ). moment_at moments 0) same)
    (moments_used _ _ _ given c.first_of-moment.result.1 left_is same c.first_of-moment.ensures.others)
