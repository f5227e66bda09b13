use Rattle.std.proofs.Common.{sym, ◌∙◌}
use Rattle.hub_world.proofs.state.HubState.make.Goals as goal

-- the event is stopped
pub returns-in_ok-stop-in-Some : goal.returns-in_ok-stop-in-Some
returns-in_ok-stop-in-Some c =
    rw c.in-Some.is (
      c.in_ok-stop-in-Some.ensures c.args.ask.moment c.args.ask.lost c.args.ask.number c.stamp_for.ensures.value,
      sym c.is_full.ensures ∙ c.if-is_full.false,
    )
