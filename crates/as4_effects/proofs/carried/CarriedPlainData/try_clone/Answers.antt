use Rattle.std.proofs.Common.{refl}
use Rattle.as4_effects.proofs.PartLemmas.{carried_same}
use Rattle.as4_effects.proofs.carried.CarriedPlainData.try_clone.Goals as goal

pub returns-in-Ok-Ok : goal.returns-in-Ok-Ok
returns-in-Ok-Ok c = carried_same _ c.args.self.now c.in-Ok-Ok.ensures refl refl c.in-Ok-Ok.ensures'
