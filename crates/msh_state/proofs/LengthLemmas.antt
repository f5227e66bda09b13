-- The length of a record's body that delivers one message.
use Rattle.std.proofs.Common.{◌≡◌, ℕ, List, arith}
use Rattle.std.specs.Prelude.{IsTrue}
use Rattle.std.proofs.lemmas.Bool.Decides.{nat_tests}
use Rattle.as4_effects.specs.Lengths.{grown}
use Rattle.as4_effects.specs.Sound.{delivered_body, fits_an_effect}
use Rattle.as4_values.specs.declared.header.UserHeader.{UserHeader}
use Rattle.as4_values.specs.declared.payload.Payload.{Payload}
use Rattle.msh_state.specs.Places.{delivery_len}

pub measured : (sum : ℕ) (header : UserHeader) (payloads : List Payload) → IsTrue (fits_an_effect (delivered_body header payloads))
    → sum ≡ grown 2 (delivered_body header payloads) → sum ≡ delivery_len header payloads
unfolding grown fits_an_effect delivery_len
measured sum header payloads fits is = grind (arith, nat_tests)
