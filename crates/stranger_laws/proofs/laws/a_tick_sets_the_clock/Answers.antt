use Rattle.stranger_laws.proofs.ClockLemmas.{sets_clock, tick_shows}
use Rattle.stranger_laws.proofs.laws.a_tick_sets_the_clock.Goals as goal

pub returns-clause-shown : goal.returns-clause-shown
returns-clause-shown c = tick_shows

pub returns-clause-only : goal.returns-clause-only
returns-clause-only c = sets_clock
