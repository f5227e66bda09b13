use Rattle.std.proofs.Common.{◌∷◌, [], All, Contains, sym, subst}
use Rattle.handler.proofs.DismissalLemmas.{knows_address}
use Rattle.handler.proofs.dismissing.retire.Goals as goal

pub settle_door-requires : goal.settle_door-requires
settle_door-requires g c = record {
  names = λ v is. subst (λ a. All (Contains v) (a ∷ [])) (sym c.address_of.ensures) (knows_address c.args.setup c.args.worker.job v (c.requires.names v is));
}
