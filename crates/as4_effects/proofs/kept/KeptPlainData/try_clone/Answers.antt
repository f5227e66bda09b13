use Rattle.as4_effects.proofs.PartLemmas.{kept_told}
use Rattle.as4_effects.proofs.kept.KeptPlainData.try_clone.Goals as goal

pub returns : goal.returns
returns c = kept_told _ c.args.self.now c.in_ok-header.ensures
