use Rattle.hub_world.specs.Transcript.{doing_of}
use Rattle.hub_world.proofs.StateLemmas.{performs_none}
use Rattle.hub_world.proofs.state.HubState.play_in_chain.Goals as goal

pub returns-in_err-begin : goal.returns-in_err-begin
returns-in_err-begin c =
    performs_none (doing_of c.args.self.now c.args.line.now) c.args.self.now c.begin.new.self c.from_residual.result
    c.from_residual.ensures.1 c.in_err-begin.ensures.err
