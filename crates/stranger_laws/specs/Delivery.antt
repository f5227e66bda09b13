-- A run of two endpoints in which a message is delivered.
use Rattle.std.specs.Prelude.{◌≡◌, List, map}
use Rattle.as4_values.specs.declared.payload.Load.{Load}
use Rattle.as4_values.specs.declared.payload.Payload.{Payload}
use Rattle.mode_values.specs.ModeMatch.{Matches}
use Rattle.mode_values.specs.declared.mode.Mode.{Mode}
use Rattle.exchange_model.specs.LosslessRound.{IsSettled}
use Rattle.exchange_model.specs.World.{Happening, Left, MayHappen, new_world, world_after}
use Rattle.exchange_model.specs.declared.sent.Sent.{Sent}

-- the run may happen, and at its end the left endpoint has the receipt of a submission by this mode with the contents of
-- these loads, and the right endpoint has the message
pub record Delivers (mode : Mode) (loads : List Load) (all : List Happening) (s : Sent) : Type 0 where
  pub may : MayHappen all new_world
  pub matches : Matches mode s.submission.header
  pub contents : map (λ (payload : Payload). payload.content) s.submission.payloads ≡ map (λ (load : Load). load.content) loads
  pub settled : IsSettled Left s (world_after all new_world)
