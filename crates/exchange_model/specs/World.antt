-- Two endpoints and a network that may lose, repeat and reorder their messages: each message that an endpoint ever sent
-- may arrive at the other never, once or often, at any time. A crash is a step whose reply is lost, or no step. Between
-- two acts an endpoint's journal may be compacted: by a checkpoint where that makes it shorter, by a migration whatever
-- its size is.
use Rattle.std.specs.Prelude.{ℕ, List, [], ◌∷◌, ◌++◌, Bool, true, false, if◌then◌else◌}
use Rattle.std.specs.List.{Contains, filter}
use Rattle.as4_values.specs.declared.message.Message.{Message}
use Rattle.mode_values.specs.declared.mode.Mode.{Mode}
use Rattle.exchange_model.specs.Apply.{applied}
use Rattle.exchange_model.specs.End.{End, empty_end}
use Rattle.exchange_model.specs.Fold.{IsFoldedSize, resized}
use Rattle.exchange_model.specs.Table.{Step}
use Rattle.exchange_model.specs.declared.event.Event.{Event}
use Rattle.exchange_model.specs.declared.outcome.Outcome.{Outcome}
use Rattle.exchange_model.specs.declared.reply.Reply.{Reply}
use Rattle.exchange_model.specs.declared.reply.Reply.TheVariants as reply
use Rattle.exchange_model.specs.declared.what.What.{What}
use Rattle.exchange_model.specs.declared.what.What.TheVariants as what

-- an endpoint, and each message that it ever sent
pub record Speaker : Type 0 where
  pub end : End
  pub said : List Message

pub record World : Type 0 where
  pub left : Speaker
  pub right : Speaker

abbrev pub new_speaker : Speaker
new_speaker = record { end = empty_end; said = [] }

abbrev pub new_world : World
new_world = record { left = new_speaker; right = new_speaker }

pub data Site : Type 0 where
  Left : Site
  Right : Site

abbrev pub is_same_site : Site → Site → Bool
is_same_site Left Left = true
is_same_site Right Right = true
is_same_site a b = false

-- what happens at one endpoint: an event under some modes, its outcome, and whether the reply is lost
pub record Act : Type 0 where
  pub site : Site
  pub modes : List Mode
  pub event : Event
  pub outcome : Outcome
  pub lost : Bool

-- the message that a reply sends to the other endpoint
abbrev pub sends : Reply → List Message
sends (reply.Push address message) = message ∷ []
sends (reply.Request address message) = message ∷ []
sends (reply.Answer message) = message ∷ []
sends other = []

-- a received message is one that the other endpoint sent
abbrev pub IsHeard : List Message → What → Type 0
IsHeard said (what.Came message) = Contains said message
IsHeard said other = Unit {0}

-- what happens in a world: an act, or a compaction of the journal at a site to this size
pub data Happening : Type 0 where
  Does : Act → Happening
  Folds : Site → ℕ → Happening

-- the act may happen at an endpoint that receives from the other
pub record MayAct (act : Act) (speaker other : Speaker) : Type 0 where
  pub heard : IsHeard other.said act.event.what
  pub step : Step act.modes speaker.end act.event act.outcome

-- the endpoint after an outcome whose reply is sent or lost
abbrev pub speaker_after : Outcome → Bool → Speaker → Speaker
speaker_after outcome lost speaker = record {
  end = applied outcome.effects speaker.end;
  said = if lost then speaker.said else speaker.said ++ sends outcome.reply;
}

-- the endpoint after an act
abbrev pub acted : Act → Speaker → Speaker
acted act speaker = speaker_after act.outcome act.lost speaker

abbrev pub MayHappenAt : Site → Act → World → Type 0
MayHappenAt Left act world = MayAct act world.left world.right
MayHappenAt Right act world = MayAct act world.right world.left

abbrev pub world_at : Site → Act → World → World
world_at Left act world = record world { left = acted act world.left }
world_at Right act world = record world { right = acted act world.right }

abbrev pub speaker_at : Site → World → Speaker
speaker_at Left world = world.left
speaker_at Right world = world.right

-- the world where the journal of the endpoint at a site has another size
abbrev pub folded : ℕ → Speaker → Speaker
folded size speaker = record speaker { end = resized size speaker.end }

abbrev pub folded_at : Site → ℕ → World → World
folded_at Left size world = record world { left = folded size world.left }
folded_at Right size world = record world { right = folded size world.right }

-- in this order, each may happen in the world that the earlier ones lead to
abbrev pub MayHappen : List Happening → World → Type 0
MayHappen [] world = Unit {0}
MayHappen (Does act ∷ later) world = MayHappenAt act.site act world × MayHappen later (world_at act.site act world)
MayHappen (Folds site size ∷ later) world =
    IsFoldedSize (speaker_at site world).end size × MayHappen later (folded_at site size world)

abbrev pub world_after : List Happening → World → World
world_after [] world = world
world_after (Does act ∷ later) world = world_after later (world_at act.site act world)
world_after (Folds site size ∷ later) world = world_after later (folded_at site size world)

-- the acts among these
abbrev pub acts_of : List Happening → List Act
acts_of [] = []
acts_of (Does act ∷ later) = act ∷ acts_of later
acts_of (Folds site size ∷ later) = acts_of later

-- the acts at one site
abbrev pub acts_at : Site → List Happening → List Act
acts_at site all = filter (λ (act : Act). is_same_site act.site site) (acts_of all)

abbrev pub across : Site → Site
across Left = Right
across Right = Left
