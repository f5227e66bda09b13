-- Exchanges, put together from what their calls ensure.
use Rattle.std.proofs.Common.{◌≡◌, ℕ, List, [], Option, Some, None, Result, Ok, Err, ◌∙◌, refl, ap, subst}
use Rattle.as4_flow.specs.Flow.{Flow, Rose, Streams, Told, before, between, flow}
use Rattle.as4_host.specs.Counts.{raised}
use Rattle.as4_host.specs.Lists.{Opens, and_one}
use Rattle.as4_host.specs.declared.link.Link.{Ghosts as LinkMeaning}
use Rattle.as4_http.specs.Passed.{PassesResponse, Shows}
use Rattle.as4_http.specs.Refused.{Dooms, OnRefusal}
use Rattle.as4_http.specs.Responses.{HasNoResponse, IsCutResponse, IsNoResponse}
use Rattle.as4_http.specs.declared.message.Response.{Response}
use Rattle.as4_http.specs.declared.refusal.HttpRefusal.{HttpRefusal}
use Rattle.as4_http.specs.declared.refusal.HttpRefusal.TheVariants as http
use Rattle.link_exchange.specs.Exchanges.{Connects, Exchanges, IsWhyUnread, Talks}
use Rattle.link_exchange.specs.declared.exchanging.Lost.{Lost}
use Rattle.link_exchange.specs.declared.exchanging.Lost.TheVariants as lost

-- an intake that holds nothing stands before what is left
pub nothing_held : (held : List ℕ) (left : Option (List ℕ)) → held ≡ [] → before held left ≡ left
nothing_held held None none = refl
nothing_held held (Some bytes) none = ap (λ (h : List ℕ). before h (Some bytes)) none

-- why no response was read
pub why_unread : (refusal : HttpRefusal) (left rest taken later : Option (List ℕ)) (reads later_reads writes later_writes : ℕ) (none : List ℕ)
    → none ≡ []
    → OnRefusal refusal (Told (before none left) HasNoResponse)
    → (refusal ≡ http.Cut → Told (before none left) IsCutResponse)
    → (refusal ≡ http.Cut → Told rest (λ bytes. bytes ≡ []))
    → (refusal ≡ http.Bad → Dooms IsNoResponse (before none left) rest)
    → (refusal ≡ http.TooLong → Dooms HasNoResponse (before none left) rest)
    → (refusal ≡ http.TooLong → Shows PassesResponse (before none left) rest)
    → (refusal ≡ http.ReadFault → Rose reads later_reads)
    → IsWhyUnread refusal (between (flow left taken reads writes) (flow rest later later_reads later_writes))
why_unread http.Cut left rest taken later reads later_reads writes later_writes none nothing only begun cut bad long passed fault =
    let same = nothing_held none left nothing in (
      subst (λ (told : Option (List ℕ)). Told told HasNoResponse) same only,
      subst (λ (told : Option (List ℕ)). Told told IsCutResponse) same (begun refl),
      cut refl,
    )
why_unread http.Bad left rest taken later reads later_reads writes later_writes none nothing only begun cut bad long passed fault =
    subst (λ (told : Option (List ℕ)). Dooms IsNoResponse told rest) (nothing_held none left nothing) (bad refl)
why_unread http.TooLong left rest taken later reads later_reads writes later_writes none nothing only begun cut bad long passed fault =
    let same = nothing_held none left nothing in (
      subst (λ (told : Option (List ℕ)). Dooms HasNoResponse told rest) same (long refl),
      subst (λ (told : Option (List ℕ)). Shows PassesResponse told rest) same (passed refl),
    )
why_unread http.ReadFault left rest taken later reads later_reads writes later_writes none nothing only begun cut bad long passed fault = fault refl
why_unread http.NoMemory left rest taken later reads later_reads writes later_writes none nothing only begun cut bad long passed fault = tt

module _ {L In Out : Type 0} (M : LinkMeaning L In Out) (old new : L) (address request : List ℕ) where
  -- a connection that gave this is an exchange
  connects_is : (told : Result Response Lost) (streams : Streams) → Talks request told streams → Connects M old new address request told
      → Exchanges M old new address request told
  connects_is (Ok response) streams talks connects = connects
  connects_is (Err (lost.Unread refusal)) streams talks connects = connects
  connects_is (Err lost.Unsent) streams talks connects = connects
  connects_is (Err lost.Unreached) streams talks connects = absurd talks
  connects_is (Err lost.NoMemory) streams talks connects = absurd talks

  -- a pair was opened, talked over and settled
  pub connected : (told : Result Response Lost) (opened : L) (pair last : Flow)
      → Opens (M.answers old) (M.answers opened) pair
      → M.addresses opened ≡ and_one (M.addresses old) (Some address)
      → M.faults opened ≡ M.faults old
      → (M.sent opened ≡ M.sent old) × (M.reads opened ≡ M.reads old) × (M.writes opened ≡ M.writes old)
      → Talks request told (between pair last)
      → M.sent new ≡ and_one (M.sent opened) last.taken
      → M.reads new ≡ raised last.reads (M.reads opened)
      → M.writes new ≡ raised last.writes (M.writes opened)
      → (M.answers new ≡ M.answers opened) × (M.addresses new ≡ M.addresses opened) × (M.faults new ≡ M.faults opened)
      → Exchanges M old new address request told
  connected told opened pair last opens addressed faults others talks sent reads writes settled =
      connects_is told (between pair last) talks (record {
        streams = between pair last;
        left = opens.gives;
        taken = opens.taken;
        no_reads = opens.reads;
        no_writes = opens.writes;
        talks = talks;
        answers = settled.0 ∙ opens.others;
        addresses = settled.1 ∙ addressed;
        sent = sent ∙ (ap (λ (all : Option (List (List ℕ))). and_one all last.taken) others.0);
        faults = settled.2 ∙ faults;
        reads = reads ∙ (ap (raised last.reads) others.1);
        writes = writes ∙ (ap (raised last.writes) others.2);
      })
