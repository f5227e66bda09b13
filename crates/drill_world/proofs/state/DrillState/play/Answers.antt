use Rattle.drill_world.proofs.StateLemmas.{at_end, mode_line, mode_played}
use Rattle.drill_world.proofs.state.DrillState.play.Goals as goal

pub name_mode-requires-clause-named : goal.name_mode-requires-clause-named
name_mode-requires-clause-named c =
    (mode_line c.args.line.now c.in-Mode.name c.in-Mode.link c.in-Mode.way c.in-Mode.retries c.in-Mode.period c.in-Mode.is c.requires.spelled).named

pub name_mode-requires-clause-retries : goal.name_mode-requires-clause-retries
name_mode-requires-clause-retries c =
    (mode_line c.args.line.now c.in-Mode.name c.in-Mode.link c.in-Mode.way c.in-Mode.retries c.in-Mode.period c.in-Mode.is c.requires.spelled).limited

pub name_mode-requires-clause-begun : goal.name_mode-requires-clause-begun
name_mode-requires-clause-begun c =
    (mode_line c.args.line.now c.in-Mode.name c.in-Mode.link c.in-Mode.way c.in-Mode.retries c.in-Mode.period c.in-Mode.is c.requires.spelled).some

pub name_mode-requires-clause-period : goal.name_mode-requires-clause-period
name_mode-requires-clause-period c =
    (mode_line c.args.line.now c.in-Mode.name c.in-Mode.link c.in-Mode.way c.in-Mode.retries c.in-Mode.period c.in-Mode.is c.requires.spelled).timed

pub returns-in-Mode-clause-right : goal.returns-in-Mode-clause-right
returns-in-Mode-clause-right c =
    (mode_played c.args.line.now c.in-Mode.link c.in-Mode.name c.in-Mode.way c.in-Mode.retries c.in-Mode.period c.args.self.now c.name_mode.new.self c.name_mode.result
    c.in-Mode.is (cc (c.is_pair_line.ensures, c.if-not-is_pair_line.false)) c.requires.spelled c.requires.short
    c.name_mode.ensures.placed c.name_mode.ensures.adds c.name_mode.ensures.wrong c.name_mode.ensures.told c.name_mode.ensures.few).right

pub returns-in-Mode-clause-plays : goal.returns-in-Mode-clause-plays
returns-in-Mode-clause-plays c =
    (mode_played c.args.line.now c.in-Mode.link c.in-Mode.name c.in-Mode.way c.in-Mode.retries c.in-Mode.period c.args.self.now c.name_mode.new.self c.name_mode.result
    c.in-Mode.is (cc (c.is_pair_line.ensures, c.if-not-is_pair_line.false)) c.requires.spelled c.requires.short
    c.name_mode.ensures.placed c.name_mode.ensures.adds c.name_mode.ensures.wrong c.name_mode.ensures.told c.name_mode.ensures.few).plays

pub returns-in-Mode-clause-told : goal.returns-in-Mode-clause-told
returns-in-Mode-clause-told c =
    (mode_played c.args.line.now c.in-Mode.link c.in-Mode.name c.in-Mode.way c.in-Mode.retries c.in-Mode.period c.args.self.now c.name_mode.new.self c.name_mode.result
    c.in-Mode.is (cc (c.is_pair_line.ensures, c.if-not-is_pair_line.false)) c.requires.spelled c.requires.short
    c.name_mode.ensures.placed c.name_mode.ensures.adds c.name_mode.ensures.wrong c.name_mode.ensures.told c.name_mode.ensures.few).told

pub returns-in-Mode-clause-full : goal.returns-in-Mode-clause-full
returns-in-Mode-clause-full c =
    (mode_played c.args.line.now c.in-Mode.link c.in-Mode.name c.in-Mode.way c.in-Mode.retries c.in-Mode.period c.args.self.now c.name_mode.new.self c.name_mode.result
    c.in-Mode.is (cc (c.is_pair_line.ensures, c.if-not-is_pair_line.false)) c.requires.spelled c.requires.short
    c.name_mode.ensures.placed c.name_mode.ensures.adds c.name_mode.ensures.wrong c.name_mode.ensures.told c.name_mode.ensures.few).full

pub play_at_end-requires : goal.play_at_end-requires
play_at_end-requires c = record {
  spelled = c.requires.spelled;
  other = at_end c.args.line.now (cc (c.is_pair_line.ensures, c.if-not-is_pair_line.false))
      (λ name link way retries period is. c.in_default.not-Mode name link way retries period is);
}
