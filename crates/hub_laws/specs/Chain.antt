-- Three endpoints in a chain. The first submits; the hub submits onwards each message that it receives, in order; the
-- last consumes.
--
--     first  --- Front ---  hub  --- Rear ---  last
--
-- Each link is a world of two endpoints: its network may lose, repeat and reorder messages, and an endpoint may crash.
use Rattle.std.specs.Prelude.{◌≡◌, ℕ, ◌≤◌, List, [], ◌∷◌, Option, Some, length, map, slice_get}
use Rattle.as4_values.specs.declared.message.Message.{Message}
use Rattle.as4_values.specs.declared.payload.Load.{Load}
use Rattle.as4_values.specs.declared.payload.Payload.{Payload}
use Rattle.exchange_model.specs.End.{End, empty_end}
use Rattle.exchange_model.specs.World.{Happening, Does, Folds, MayHappen, Site, Left, Right, Speaker, World, new_speaker, world_after}
use Rattle.exchange_model.specs.declared.inbox_entry.InboxEntry.{InboxEntry}
use Rattle.exchange_model.specs.declared.what.What.{What}
use Rattle.exchange_model.specs.declared.what.What.TheVariants as what

pub record Chain : Type 0 where
  pub first : Speaker
  pub hub : End
  -- each message that the hub ever sent to the first endpoint, and to the last
  pub back : List Message
  pub onwards : List Message
  pub last : Speaker

abbrev pub new_chain : Chain
new_chain = record { first = new_speaker; hub = empty_end; back = []; onwards = []; last = new_speaker }

pub data Link : Type 0 where
  Front : Link
  Rear : Link

-- the world of a link: the endpoint nearer to the first one is on its left
abbrev pub world_on : Link → Chain → World
world_on Front chain = record { left = chain.first; right = record { end = chain.hub; said = chain.back } }
world_on Rear chain = record { left = record { end = chain.hub; said = chain.onwards }; right = chain.last }

-- the chain where the world of a link is this one
abbrev pub with_world : Link → World → Chain → Chain
with_world Front world chain = record chain { first = world.left; hub = world.right.end; back = world.right.said }
with_world Rear world chain = record chain { hub = world.left.end; onwards = world.left.said; last = world.right }

-- what happens on a link: an act, or a compaction of a journal
pub record Passing : Type 0 where
  pub link : Link
  pub happening : Happening

-- the media and the content of each payload
unfoldable pub loads_of : List Payload → List Load
loads_of payloads = map (λ (payload : Payload). record { media = payload.media; content = payload.content }) payloads

-- a submission with this conversation and these loads relays an entry of the hub's inbox: the entry whose place is the
-- number of submissions so far. The entry isn't confirmed yet
pub record Relays (hub : End) (conversation : Option (List ℕ)) (loads : List Load) : Type 0 where
  pub entry : InboxEntry
  pub there : slice_get hub.inbox (length hub.sent) ≡ Some entry
  pub waits : hub.confirmed ≤ length hub.sent
  pub talks : conversation ≡ entry.header.conversation
  pub loaded : loads ≡ loads_of entry.payloads

-- the events of the first endpoint: it submits and doesn't ask
abbrev pub MeetsFirst : What → Type 0
MeetsFirst (what.Submit mode conversation loads) = Unit {0}
MeetsFirst what.Tick = Unit {0}
MeetsFirst what.Take = Unit {0}
MeetsFirst (what.Came m) = Unit {0}
MeetsFirst (what.Status id) = Unit {0}
MeetsFirst other = ⊥

-- the events of the hub on the link to the first endpoint: it only receives and answers
abbrev pub MeetsFront : What → Type 0
MeetsFront (what.Came m) = Unit {0}
MeetsFront other = ⊥

-- all other events of the hub: it doesn't ask, and it submits only by relaying
abbrev pub MeetsRear : End → What → Type 0
MeetsRear hub (what.Submit mode conversation loads) = Relays hub conversation loads
MeetsRear hub (what.Ask mode) = ⊥
MeetsRear hub (what.AskWith mode n) = ⊥
MeetsRear hub other = Unit {0}

-- no message that is received
abbrev pub IsOwn : What → Type 0
IsOwn (what.Came m) = ⊥
IsOwn other = Unit {0}

-- the events of the last endpoint: it consumes and doesn't submit
abbrev pub MeetsLast : What → Type 0
MeetsLast what.Tick = Unit {0}
MeetsLast (what.Ask mode) = Unit {0}
MeetsLast (what.AskWith mode n) = Unit {0}
MeetsLast (what.Came m) = Unit {0}
MeetsLast (what.Read n) = Unit {0}
MeetsLast (what.Confirm upto) = Unit {0}
MeetsLast other = ⊥

abbrev pub MeetsAt : Link → Site → End → What → Type 0
MeetsAt Front Left hub w = MeetsFirst w
MeetsAt Front Right hub w = MeetsFront w
MeetsAt Rear Left hub w = MeetsRear hub w
MeetsAt Rear Right hub w = MeetsLast w

abbrev pub Meets : Link → End → Happening → Type 0
Meets link hub (Does act) = MeetsAt link act.site hub act.event.what
Meets link hub (Folds site size) = Unit {0}

-- it may happen in the world of its link, and its event is one of that endpoint
pub record MayPass (passing : Passing) (chain : Chain) : Type 0 where
  pub happens : MayHappen (passing.happening ∷ []) (world_on passing.link chain)
  pub meets : Meets passing.link chain.hub passing.happening

abbrev pub next_chain : Passing → Chain → Chain
next_chain passing chain = with_world passing.link (world_after (passing.happening ∷ []) (world_on passing.link chain)) chain

-- in this order, each may happen in the chain that the earlier ones lead to
abbrev pub MayAllPass : List Passing → Chain → Type 0
MayAllPass [] chain = Unit {0}
MayAllPass (passing ∷ later) chain = MayPass passing chain × MayAllPass later (next_chain passing chain)

abbrev pub chain_after : List Passing → Chain → Chain
chain_after [] chain = chain
chain_after (passing ∷ later) chain = chain_after later (next_chain passing chain)
