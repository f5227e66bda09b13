-- When fields make a submission or a delivery: the facts that these types keep.
use Rattle.std.specs.Prelude.{ℕ, ◌<◌, ◌≤◌, List, IsTrue}
use Rattle.mode_values.specs.ModeRanges.{IsRetries, IsPeriod}
use Rattle.as4_values.specs.declared.header.UserHeader.{UserHeader}
use Rattle.as4_values.specs.declared.payload.Payload.{Payload}
use Rattle.as4_values.specs.declared.route.Route.{Route}
use Rattle.as4_values.specs.declared.moment.TheConstants.{MAX_MOMENT}
use Rattle.as4_values.specs.Pairing.{pair}
use Rattle.as4_effects.specs.Sound.{is_id_of, is_route, submitted_body, delivered_body, fits_an_effect}

-- the numbers of a submission
abbrev pub AreNumbers : ℕ → ℕ → ℕ → ℕ → Type 0
AreNumbers number retries period moment =
    (number < 1048576) × IsRetries retries × IsPeriod period × (moment ≤ MAX_MOMENT)

-- its other fields
pub record AreMatched (number : ℕ) (header : UserHeader) (payloads : List Payload) (route : Route) : Type 0 where
  pub identified : IsTrue (is_id_of number header.id)
  pub paired : IsTrue (pair header.parts payloads)
  pub routed : IsTrue (is_route route)

pub record IsSubmission (number : ℕ) (header : UserHeader) (payloads : List Payload) (route : Route) (retries period moment : ℕ) : Type 0 where
  pub numbers : AreNumbers number retries period moment
  pub matched : AreMatched number header payloads route
  pub fits : IsTrue (fits_an_effect (submitted_body number header payloads route retries period moment))

pub record IsDelivery (header : UserHeader) (payloads : List Payload) : Type 0 where
  pub paired : IsTrue (pair header.parts payloads)
  pub fits : IsTrue (fits_an_effect (delivered_body header payloads))
