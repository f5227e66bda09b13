-- Which received messages an endpoint takes as events.
use Rattle.std.specs.Prelude.{List, Bool, true, ◌&&◌}
use Rattle.as4_values.specs.declared.header.UserHeader.{UserHeader}
use Rattle.as4_values.specs.declared.message.Message.TheVariants.{User}
use Rattle.as4_values.specs.declared.payload.Payload.{Payload}
use Rattle.as4_values.specs.Pairing.{pair}
use Rattle.as4_effects.specs.Sound.{delivered_body, fits_an_effect}
use Rattle.exchange_model.specs.declared.what.What.{What}
use Rattle.exchange_model.specs.declared.what.What.TheVariants.{Came}

-- a delivery can hold the message: its references pair with its payloads, and it isn't too long for a record
unfoldable pub is_deliverable : UserHeader → List Payload → Bool
is_deliverable header payloads = pair header.parts payloads && fits_an_effect (delivered_body header payloads)

-- any event except a user message that no delivery can hold
unfoldable pub may_come : What → Bool
may_come (Came (User header payloads)) = is_deliverable header payloads
may_come what = true
