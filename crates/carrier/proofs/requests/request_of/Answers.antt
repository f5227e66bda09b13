use Rattle.std.proofs.Common.{ℕ, List, subst, sym}
use Rattle.std.specs.Prelude.{IsTrue}
use Rattle.as4_values.specs.Address.{has_address_form}
use Rattle.carrier.proofs.CarriedLemmas.{address_form}
use Rattle.carrier.proofs.requests.request_of.Goals as goal

pub write_request-requires : goal.write_request-requires
write_request-requires c = subst (λ (t : List ℕ). IsTrue (has_address_form t)) (sym c.in_ok-address.ensures) address_form
