use Rattle.std.proofs.Common.{◌≡◌, ◌<◌, None, arith, refl}
use Rattle.drill_world.specs.Transcript.{lines_limit}
use Rattle.drill.proofs.EndLemmas.{is_none}
use Rattle.drill.proofs.script.play_lines.Goals as goal

pub lines-init : goal.lines-init
lines-init g c = record { within = omega arith; so_far = λ start so_far. so_far; counted = (omega arith, omega arith) }

pub lines-preserved : goal.lines-preserved
lines-preserved g c =
    let none : c.play_next.result ≡ None = is_none c.play_next.result c.in_default.not-Some in
    let more : c.lines.played < lines_limit = c.play_next.ensures.more (rw none refl) in
    record {
      within = omega (arith, more);
      so_far = λ start first. rw none at (c.play_next.ensures.so_far start (c.lines.invariant.so_far start first));
      counted = (
        omega (arith, c.lines.invariant.counted.0, c.play_next.ensures.counted.0),
        omega (arith, c.lines.invariant.counted.1, c.play_next.ensures.counted.1),
      );
    }

pub returns-in-Some-clause-ends : goal.returns-in-Some-clause-ends
returns-in-Some-clause-ends g c start first = c.in-Some.ensures.so_far start (c.lines.invariant.so_far start first)

pub returns-in-Some-clause-counted : goal.returns-in-Some-clause-counted
returns-in-Some-clause-counted g c = (
  omega (arith, c.lines.invariant.counted.0, c.in-Some.ensures.counted.0),
  omega (arith, c.lines.invariant.counted.1, c.in-Some.ensures.counted.1),
)
