use Rattle.std.proofs.Common.{arith}
use Rattle.as4_envelope.proofs.EscapeLemmas.{plain_step, escape_step, escape_start}
use Rattle.as4_envelope.proofs.markup.push_escaped.Goals as goal
use Rattle.as4_envelope.proofs.markup.push_escaped.Goals.{in-Some+in_ok-extend_from_slice+in_ok-extend_from_slice-2, in_default}

pub loop-at-init : goal.loop-at-init
loop-at-init c = (omega arith, escape_start c.args.out.now.items c.args.bytes.now)

pub loop-at-preserved : goal.loop-at-preserved
loop-at-preserved c =
    elim c.match-escape_of.branch [
      | in-Some+in_ok-extend_from_slice+in_ok-extend_from_slice-2 w ↦ (
        omega arith,
        rw (w.done-is, w.out-is, w.in_ok-extend_from_slice-2.ensures.items, w.in_ok-extend_from_slice.ensures.items, w.in-Some.ensures)
            (escape_step _ _ _ _ _ c.loop-at.invariant.0 c.loop-at-test.true c.loop-at.invariant.1),
      )
      | in_default w ↦ (
        omega arith,
        rw (w.done-is, w.out-is) (plain_step _ _ _ _ _ c.loop-at.invariant.0 c.loop-at-test.true w.in_default.ensures c.loop-at.invariant.1),
      )
    ]
