use Rattle.package_writer.proofs.LeastLemmas.{goes_on, rises, stops}
use Rattle.package_writer.proofs.boundary.least_without.Goals as goal
use Rattle.package_writer.proofs.boundary.least_without.Goals.{then-number-least-2, else-number-least-2}
use Rattle.std.proofs.Common.{arith, sym}

pub returns-then-number-least : goal.returns-then-number-least
returns-then-number-least c =
    stops c.args.numbers.now c.loop-number.number-index c.loop-number.least c.requires c.loop-number.invariant c.loop-number-test.true c.if-number-least.true

pub loop-number-preserved : goal.loop-number-preserved
loop-number-preserved c =
    elim c.if-number-least-2.branch [
      | then-number-least-2 w ↦
          rw w.least-is (rises c.args.numbers.now c.loop-number.number-index c.loop-number.least c.loop-number.invariant c.loop-number-test.true (omega (arith, w.if-number-least-2.true)))
      | else-number-least-2 w ↦
          rw w.least-is (goes_on c.args.numbers.now c.loop-number.number-index c.loop-number.least c.loop-number.invariant c.loop-number-test.true (omega (arith, w.if-number-least-2.false, c.if-number-least.false)))
    ]
