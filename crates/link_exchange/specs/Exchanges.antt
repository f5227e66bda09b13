-- One exchange over a link: a request goes out, and its response comes back.
use Rattle.std.specs.Prelude.{◌≡◌, ℕ, List, [], Some, Result, Ok, Err, is_some}
use Rattle.as4_disk.specs.Faults.{Rises}
use Rattle.as4_flow.specs.Flow.{Rose, Streams, TakesFront, Told, appended, before}
use Rattle.as4_host.specs.Counts.{raised}
use Rattle.as4_host.specs.Lists.{and_one, first_of, none_of, without_first}
use Rattle.as4_host.specs.declared.link.Link.{Ghosts as LinkMeaning}
use Rattle.as4_http.specs.Passed.{PassesResponse, Shows}
use Rattle.as4_http.specs.Refused.{Dooms}
use Rattle.as4_http.specs.Responses.{BeginsResponse, HasNoResponse, IsCutResponse, IsNoResponse}
use Rattle.as4_http.specs.declared.message.Response.{Response}
use Rattle.as4_http.specs.declared.refusal.HttpRefusal.{HttpRefusal}
use Rattle.as4_http.specs.declared.refusal.HttpRefusal.TheVariants as http
use Rattle.link_exchange.specs.declared.exchanging.Lost.{Lost}
use Rattle.link_exchange.specs.declared.exchanging.Lost.TheVariants as lost

-- a response was read from the source, and nothing is said of the bytes that came with it
pub record ReadsResponse (streams : Streams) (response : Response) : Type 0 where
  pub held : List ℕ
  pub begins : Told streams.left (λ stream. Told (before held streams.rest) (BeginsResponse stream response))
  pub tells : is_some streams.rest ≡ is_some streams.left
  pub quiet : streams.later_read_faults ≡ streams.read_faults

-- why no response was read
abbrev pub IsWhyUnread : HttpRefusal → Streams → Type 0
IsWhyUnread http.Cut streams =
    Told streams.left HasNoResponse × Told streams.left IsCutResponse × Told streams.rest (λ bytes. bytes ≡ [])
IsWhyUnread http.Bad streams = Dooms IsNoResponse streams.left streams.rest
IsWhyUnread http.TooLong streams =
    Dooms HasNoResponse streams.left streams.rest × Shows PassesResponse streams.left streams.rest
IsWhyUnread http.ReadFault streams = Rose streams.read_faults streams.later_read_faults
IsWhyUnread http.NoMemory streams = Unit {0}

-- all bytes of the request were written
abbrev pub IsSent : List ℕ → Streams → Type 0
IsSent request streams =
    (streams.later ≡ appended streams.taken request) × (streams.later_write_faults ≡ streams.write_faults)

-- no response was read after the request was written
pub record ReadsNoResponse (streams : Streams) (refusal : HttpRefusal) : Type 0 where
  pub why : IsWhyUnread refusal streams
  pub quiet : ¬ (refusal ≡ http.ReadFault) → streams.later_read_faults ≡ streams.read_faults

-- what a connection gave: a response to the request; or why not
abbrev pub Talks : List ℕ → Result Response Lost → Streams → Type 0
Talks request (Ok response) streams = IsSent request streams × ReadsResponse streams response
Talks request (Err (lost.Unread refusal)) streams = IsSent request streams × ReadsNoResponse streams refusal
Talks request (Err lost.Unsent) streams =
    TakesFront request streams.taken streams.later × Rose streams.write_faults streams.later_write_faults
    × (streams.rest ≡ streams.left) × (streams.later_read_faults ≡ streams.read_faults)
Talks request (Err lost.Unreached) streams = ⊥
Talks request (Err lost.NoMemory) streams = ⊥

module _ {L In Out : Type 0} (M : LinkMeaning L In Out) (old new : L) where
  -- nobody was asked
  pub record IsUnasked : Type 0 where
    pub answers : M.answers new ≡ M.answers old
    pub addresses : M.addresses new ≡ M.addresses old
    pub sent : M.sent new ≡ M.sent old
    pub faults : M.faults new ≡ M.faults old
    pub reads : M.reads new ≡ M.reads old
    pub writes : M.writes new ≡ M.writes old

  -- the address was asked for, and no connection was opened
  pub record IsUnreached (address : List ℕ) : Type 0 where
    pub answers : M.answers new ≡ M.answers old
    pub addresses : M.addresses new ≡ and_one (M.addresses old) (Some address)
    pub sent : M.sent new ≡ M.sent old
    pub faults : Rises (M.faults old) (M.faults new)
    pub reads : M.reads new ≡ M.reads old
    pub writes : M.writes new ≡ M.writes old

  -- a connection to the address was opened, gave this, and was settled
  pub record Connects (address request : List ℕ) (told : Result Response Lost) : Type 0 where
    pub streams : Streams
    pub left : streams.left ≡ first_of (M.answers old)
    pub taken : streams.taken ≡ none_of (M.answers old)
    pub no_reads : streams.read_faults ≡ 0
    pub no_writes : streams.write_faults ≡ 0
    pub talks : Talks request told streams
    pub answers : M.answers new ≡ without_first (M.answers old)
    pub addresses : M.addresses new ≡ and_one (M.addresses old) (Some address)
    pub sent : M.sent new ≡ and_one (M.sent old) streams.later
    pub faults : M.faults new ≡ M.faults old
    pub reads : M.reads new ≡ raised streams.later_read_faults (M.reads old)
    pub writes : M.writes new ≡ raised streams.later_write_faults (M.writes old)

  -- an exchange
  abbrev pub Exchanges : List ℕ → List ℕ → Result Response Lost → Type 0
  Exchanges address request (Err lost.NoMemory) = IsUnasked
  Exchanges address request (Err lost.Unreached) = IsUnreached address
  Exchanges address request told = Connects address request told
