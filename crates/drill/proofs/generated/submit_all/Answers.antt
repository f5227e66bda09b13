use Rattle.std.proofs.Common.{◌≡◌, ℕ, arith, subst}
use Rattle.drill.proofs.GeneratedLemmas.{SubmitsSoFar, submits_done, submits_more, submits_none}
use Rattle.drill.proofs.generated.submit_all.Goals as goal

pub messages-init : goal.messages-init
messages-init c = record { within = omega arith; so_far = submits_none c.args.seed c.args.state.now }

pub messages-preserved : goal.messages-preserved
messages-preserved c = record {
  within = omega arith;
  so_far = submits_more c.args.seed c.args.state.now c.messages.sent c.messages.number c.number_after-next.result c.size_of-size.result
      c.messages.state c.submit_one.new.state c.number_after-next.ensures c.size_of-size.ensures.value
      c.messages.invariant.so_far c.in_ok-submit_one.ensures;
}

pub returns-clause-leads : goal.returns-clause-leads
returns-clause-leads c =
    let all : c.messages.sent ≡ c.args.count = omega arith in
    submits_done c.args.seed c.args.state.now c.args.count c.messages.number c.messages.state
    (subst (λ (n : ℕ). SubmitsSoFar c.args.seed c.args.state.now n c.messages.number c.messages.state) all c.messages.invariant.so_far)
