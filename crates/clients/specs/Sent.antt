-- What a collection sends, where its host is observable.
use Rattle.std.specs.Prelude.{◌≡◌, ◌⊎◌, ◌+◌, ◌≤◌, ℕ, zero, suc, Bool, true, false, List, [], ◌∷◌, ◌++◌, take, Option}
use Rattle.as4_flow.specs.Flow.{Told}
use Rattle.as4_host.specs.declared.host.Host.{Ghosts as HostMeaning}
use Rattle.clients.specs.Causes.{collect_writes, submit_writes}
use Rattle.clients.specs.Lines.{IsKept}
use Rattle.clients.specs.Requests.{confirm_request, fetch_request}
use Rattle.clients.specs.declared.ending.CollectEnd.{CollectEnd}
use Rattle.clients.specs.declared.ending.CollectEnd.TheVariants as collect
use Rattle.clients.specs.declared.ending.SubmitEnd.{SubmitEnd}
use Rattle.clients.specs.declared.ending.SubmitEnd.TheVariants as submit

-- only a prefix of the last request was sent
pub record IsCutIn (requests sent : List (List ℕ)) : Type 0 where
  pub whole : List (List ℕ)
  pub last : List ℕ
  pub length : ℕ
  pub requests_are : requests ≡ whole ++ last ∷ []
  pub sent_is : sent ≡ whole ++ take length last ∷ []

-- these requests were sent, each once, one after another; if a write failed, it is the last one's
abbrev pub HasSent : Bool → List (List ℕ) → Option (List (List ℕ)) → Type 0
HasSent true requests sent = Told sent (IsCutIn requests)
HasSent false requests sent = Told sent (λ all. all ≡ requests)

-- the ends by which a request may not have been sent at all
abbrev pub IsUnsent : SubmitEnd → Type 0
IsUnsent submit.LinkFault = Unit {0}
IsUnsent submit.NoMemory = Unit {0}
IsUnsent other = ⊥

-- a submission sent its request, once; or none
pub record SendsOnce (request : List ℕ) (sent : Option (List (List ℕ))) (end : SubmitEnd) : Type 0 where
  pub requests : List (List ℕ)
  pub one : (requests ≡ request ∷ []) ⊎ ((requests ≡ []) × IsUnsent end)
  pub sent_are : HasSent (submit_writes end) requests sent

module _ {H Store Door DoorIn DoorOut Dialer DialerIn DialerOut Time Dice : Type 0} (M : HostMeaning H Store Door DoorIn DoorOut Dialer DialerIn DialerOut Time Dice)
    (address folder : List ℕ) (answers : Option (List (List ℕ))) where
  -- The requests for entry n: it was asked for. If it was also confirmed, its file is there.
  abbrev pub AsksFor : ℕ → H → List (List ℕ) → Type 0
  AsksFor n host own =
      (own ≡ fetch_request address n ∷ [])
      ⊎ ((own ≡ fetch_request address n ∷ confirm_request address n ∷ []) × IsKept M folder answers n host)

  -- the requests for this number of entries, one after another
  abbrev pub AskForAll : ℕ → ℕ → H → List (List ℕ) → Type 0
  AskForAll first zero host requests = requests ≡ []
  AskForAll first (suc k) host requests =
      (before : List (List ℕ)) × (own : List (List ℕ)) × AskForAll first k host before × AsksFor (first + k) host own × (requests ≡ before ++ own)

  -- a collection sent the requests for at most this number of entries; if it is done, for all
  pub record SendsRequests (first count : ℕ) (host : H) (sent : Option (List (List ℕ))) (end : CollectEnd) : Type 0 where
    pub entries : ℕ
    pub few : entries ≤ count
    pub all : end ≡ collect.Done → entries ≡ count
    pub requests : List (List ℕ)
    pub asks : AskForAll first entries host requests
    pub sent_are : HasSent (collect_writes end) requests sent
