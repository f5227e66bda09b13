use Rattle.std.proofs.Common.{arith}
use Rattle.as4_audit.proofs.MadeLemmas.{numbered_of}
use Rattle.as4_audit.proofs.RefusalLemmas.{failures_make, few_refusals, no_failures}
use Rattle.as4_audit.proofs.failures.failures_of.Goals as goal

pub returns-then-effects-gt-MAX_ERRORS : goal.returns-then-effects-gt-MAX_ERRORS
returns-then-effects-gt-MAX_ERRORS c are made =
    let few = few_refusals c.args.core.now.modes c.args.core.now.end c.args.effects.now are made in
    absurd (let many = c.if-effects-gt-MAX_ERRORS.true in omega (arith, few, many))

pub returns-in_default : goal.returns-in_default
returns-in_default c are made =
    no_failures c.args.core.now.modes c.args.core.now.end c.args.effects.now are (rw c.in_default.is at c.in_ok-items.ensures.items) made

pub returns : goal.returns
returns c are made =
    failures_make c.args.core.now.modes c.args.core.now.end c.args.effects.now c.in-Some.items c.in_ok-signal.signal c.at_first.result
    (numbered_of c.args.core.now.end c.requires.reached) are (rw c.in-Some.is at c.in_ok-items.ensures.items)
    c.in_ok-signal.ensures.refers c.in_ok-signal.ensures.tells c.at_first.ensures made
