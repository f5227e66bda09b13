use Rattle.event_code.proofs.KindLemmas.{effect_once}
use Rattle.event_code.proofs.StandingLemmas.{carried_once}
use Rattle.event_code.proofs.read_effect.EffectReadable.once.Goals as goal

pub returns : goal.returns
returns c = effect_once c.once.ensures c.once-2.ensures c.once-3.ensures (carried_once c.once.ensures c.once-2.ensures) c.once-4.ensures
