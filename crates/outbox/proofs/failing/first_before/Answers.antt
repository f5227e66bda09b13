use Rattle.std.proofs.Common.{◌≤◌, inl, inr, sym, subst, ◌∙◌, arith}
use Rattle.std.specs.Prelude.{IsTrue}
use Rattle.exchange_model.specs.Apply.{is_one}
use Rattle.exchange_model.specs.Questions.{is_spent}
use Rattle.exchange_model.proofs.NumberedLemmas.{place}
use Rattle.outbox.proofs.FailingLemmas.{found_spent, none_spent}
use Rattle.outbox.proofs.failing.first_before.Goals as goal

pub returns-in_err-due-clause-none : goal.returns-in_err-due-clause-none
returns-in_err-due-clause-none c = λ sent are stand.
    rw c.from_residual.ensures
    (none_spent c.args.moment c.args.failing.now sent are stand (λ pair has before small. c.in_err-due.ensures pair has))

pub returns-then-due-lt-NEVER-clause-spent : goal.returns-then-due-lt-NEVER-clause-spent
returns-then-due-lt-NEVER-clause-spent c = λ sent are stand.
    subst (λ o. IsTrue (is_one (is_spent c.args.moment) o)) (sym (place c.in_ok-due.number sent stand.numbered))
    (found_spent c.args.moment c.in_ok-due.due _ (sym (are.each c.in_ok-due.number) ∙ c.in_ok-due.ensures.among)
    c.if-due-moment.true c.if-due-lt-NEVER.true)

pub returns-else-due-moment-clause-none : goal.returns-else-due-moment-clause-none
returns-else-due-moment-clause-none c = λ sent are stand.
    none_spent c.args.moment c.args.failing.now sent are stand (λ pair has before small.
    let first : c.in_ok-due.due ≤ pair.0 = (c.in_ok-due.ensures.least pair has).due in
    elim c.else-due-moment.either [
      | inl past ↦ omega (arith, past.1)
      | inr later ↦ omega arith
    ])
