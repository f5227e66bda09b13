-- What calls do to a host, a link and an output.
use Rattle.std.specs.Prelude.{◌≡◌, ◌≢◌, ◌⊎◌, ◌+◌, ◌<◌, ℕ, zero, suc, List, [], ◌∷◌, ◌++◌, ⊤, Option, Some, None, Result, Ok, Err, codes, decimal}
use Rattle.as4_flow.specs.Flow.{Rose, TakesFront, appended}
use Rattle.as4_flow.specs.declared.sink.Sink.{Ghosts as SinkMeaning}
use Rattle.as4_host.specs.Calls.{HasHostCause, asked}
use Rattle.as4_host.specs.Counts.{raised}
use Rattle.as4_host.specs.Files.{IsWritten}
use Rattle.as4_host.specs.Lists.{none_of}
use Rattle.as4_host.specs.declared.host.Host.{Ghosts as HostMeaning}
use Rattle.as4_host.specs.declared.host.HostRefusal.{HostRefusal}
use Rattle.as4_host.specs.declared.host.HostRefusal.TheVariants as refusal
use Rattle.as4_host.specs.declared.link.Link.{Ghosts as LinkMeaning}
use Rattle.as4_http.specs.declared.message.Response.{Response}
use Rattle.message_model.specs.Wire.{message_file}
use Rattle.clients.specs.Endings.{collect_lost, submit_end, visit_by, visit_end}
use Rattle.link_exchange.specs.Exchanges.{Exchanges}
use Rattle.clients.specs.Requests.{confirm_request, fetch_request}
use Rattle.clients.specs.declared.ending.CollectEnd.{CollectEnd}
use Rattle.clients.specs.declared.ending.CollectEnd.TheVariants as collect
use Rattle.clients.specs.declared.ending.SubmitEnd.{SubmitEnd}
use Rattle.clients.specs.declared.ending.Visit.{Visit}
use Rattle.clients.specs.declared.ending.Visit.TheVariants as visit
use Rattle.link_exchange.specs.declared.exchanging.Lost.{Lost}

-- the path of the file of entry n
abbrev pub file_path : List ℕ → ℕ → List ℕ
file_path folder n = folder ++ codes "/" ++ decimal n ++ codes ".as4"

-- a response without a media text has an empty one
abbrev pub media_or_none : Option (List ℕ) → List ℕ
media_or_none (Some media) = media
media_or_none None = []

-- the message file of a response
abbrev pub file_of : Response → List ℕ
file_of response = message_file (media_or_none response.media) response.body

-- the message file of a response with status 200; else what its status says
abbrev pub GivesFile : Response → Result (List ℕ) Visit → Type 0
GivesFile response (Ok file) = (response.status ≡ 200) × (file ≡ file_of response)
GivesFile response (Err other) =
    ((response.status ≢ 200) × (other ≡ visit_by response.status))
    ⊎ ((response.status ≡ 200) × (other ≡ visit.Ends collect.NoMemory))

-- the file of the entry that was asked for
abbrev pub FileCame : Result Response Lost → Result (List ℕ) Visit → Type 0
FileCame (Ok response) result = GivesFile response result
FileCame (Err lost) result = result ≡ Err (visit.Ends (collect_lost lost))

-- the line of a number
abbrev pub line_of : ℕ → Visit → List ℕ
line_of n visit.Collected = decimal n ++ codes " collected\n"
line_of n visit.Gone = decimal n ++ codes " gone\n"
line_of n (visit.Ends end) = []

-- a host, a link and an output, at one moment of a collection
pub record Run (H L K : Type 0) : Type 0 where
  pub host : H
  pub link : L
  pub output : K

abbrev pub run : {H L K : Type 0} → H → L → K → Run H L K
run host link output = record { host = host; link = link; output = output }

module _ {K : Type 0} (S : SinkMeaning K) where
  -- these bytes were written; or a prefix of them, and the output failed
  abbrev pub Prints : List ℕ → K → K → Result ⊤ CollectEnd → Type 0
  Prints bytes old new (Ok _) = (S.taken new ≡ appended (S.taken old) bytes) × (S.faults new ≡ S.faults old)
  Prints bytes old new (Err end) =
      (end ≡ collect.OutputFault) × TakesFront bytes (S.taken old) (S.taken new) × Rose (S.faults old) (S.faults new)

  -- the line of a number was written, or the collection ends
  abbrev pub Tells : ℕ → Visit → K → K → Result ⊤ CollectEnd → Type 0
  Tells n (visit.Ends end) old new result = (result ≡ Err end) × (new ≡ old)
  Tells n visit.Collected old new result = Prints (line_of n visit.Collected) old new result
  Tells n visit.Gone old new result = Prints (line_of n visit.Gone) old new result

module _ {L In Out : Type 0} (K : LinkMeaning L In Out) (address : List ℕ) where
  -- entry n was asked for, once
  abbrev pub Fetches : ℕ → L → L → Result (List ℕ) Visit → Type 0
  Fetches n old new result =
      (told : Result Response Lost) × Exchanges K old new address (fetch_request address n) told × FileCame told result

  -- entry n was confirmed, once
  abbrev pub Confirms : ℕ → L → L → Visit → Type 0
  Confirms n old new end =
      (told : Result Response Lost) × Exchanges K old new address (confirm_request address n) told × (end ≡ visit_end told)

  -- after the write of a file: the entry is confirmed only if the host has written it
  abbrev pub ConfirmsIf : ℕ → Result ⊤ HostRefusal → L → L → Visit → Type 0
  ConfirmsIf n (Ok _) old new end = Confirms n old new end
  ConfirmsIf n (Err refusal.HostFailed) old new end = (end ≡ visit.Ends collect.FileFault) × (new ≡ old)
  ConfirmsIf n (Err refusal.NoMemory) old new end = (end ≡ visit.Ends collect.NoMemory) × (new ≡ old)

module _ {H Store Door DoorIn DoorOut Dialer DialerIn DialerOut Time Dice : Type 0} (M : HostMeaning H Store Door DoorIn DoorOut Dialer DialerIn DialerOut Time Dice) where
  -- the host was asked to give a file these bytes
  pub record Writes (path bytes : List ℕ) (old new : H) (result : Result ⊤ HostRefusal) : Type 0 where
    pub file : IsWritten bytes (M.file old path) (M.file new path) result
    pub names : M.names new ≡ asked result (path ∷ []) (M.names old)
    pub cause : HasHostCause (M.fault_count old) (M.fault_count new) result
    pub files : (p : List ℕ) → p ≢ path → M.file new p ≡ M.file old p
    pub guests : (a : List ℕ) → M.guests new a ≡ M.guests old a
    pub reads : M.reads new ≡ M.reads old
    pub writes : M.writes new ≡ M.writes old

  module _ {L In Out : Type 0} (K : LinkMeaning L In Out) (address folder : List ℕ) where
    -- the file of entry n was written, and then the entry was confirmed
    pub record Keeps (n : ℕ) (file : List ℕ) (old new : H) (link later : L) (end : Visit) : Type 0 where
      pub written : Result ⊤ HostRefusal
      pub writes : Writes (file_path folder n) file old new written
      pub confirms : ConfirmsIf K address n written link later end

    abbrev pub KeepsIf : ℕ → Result (List ℕ) Visit → H → H → L → L → Visit → Type 0
    KeepsIf n (Ok file) old new link later end = Keeps n file old new link later end
    KeepsIf n (Err other) old new link later end = (end ≡ other) × (new ≡ old) × (later ≡ link)

    -- entry n was fetched, then its file was written, and then it was confirmed
    pub record Visits (n : ℕ) (old new : H) (link later : L) (end : Visit) : Type 0 where
      pub middle : L
      pub fetched : Result (List ℕ) Visit
      pub fetches : Fetches K address n link middle fetched
      pub keeps : KeepsIf n fetched old new middle later end

    module _ {O : Type 0} (S : SinkMeaning O) where
      -- entry n was visited, and its line was written; or the collection ends
      pub record Takes (n : ℕ) (old new : Run H L O) (result : Result ⊤ CollectEnd) : Type 0 where
        pub end : Visit
        pub visits : Visits n old.host new.host old.link new.link end
        pub tells : Tells S n end old.output new.output result

      -- this number of entries, one after another, after each of which the collection goes on
      abbrev pub TakesAll : ℕ → ℕ → Run H L O → Run H L O → Type 0
      TakesAll first zero old new = new ≡ old
      TakesAll first (suc k) old new =
          (middle : Run H L O) × TakesAll first k old middle × Takes (first + k) middle new (Ok tt)

      -- all entries were taken, or the collection ended at one of them
      abbrev pub CollectsOver : ℕ → ℕ → Run H L O → Run H L O → CollectEnd → Type 0
      CollectsOver first count old new end =
          ((end ≡ collect.Done) × TakesAll first count old new)
          ⊎ ((k : ℕ) × (middle : Run H L O) × (k < count) × TakesAll first k old middle × Takes (first + k) middle new (Err end))

  module _ {L In Out : Type 0} (K : LinkMeaning L In Out) where
    -- a new link was made
    pub record Dials (old new : H) (link : L) : Type 0 where
      pub no_faults : K.faults link ≡ 0
      pub no_reads : K.reads link ≡ 0
      pub no_writes : K.writes link ≡ 0
      pub answers : K.answers link ≡ M.answers old
      pub addresses : K.addresses link ≡ none_of (M.answers old)
      pub sent : K.sent link ≡ none_of (M.answers old)
      pub files : (p : List ℕ) → M.file new p ≡ M.file old p
      pub names : M.names new ≡ M.names old
      pub faults : M.fault_count new ≡ M.fault_count old
      pub reads : M.reads new ≡ M.reads old
      pub writes : M.writes new ≡ M.writes old

    -- a link was settled
    pub record Settles (old new : H) (link : L) : Type 0 where
      pub addresses : M.addresses new ≡ K.addresses link
      pub sent : M.sent new ≡ K.sent link
      pub faults : M.fault_count new ≡ raised (K.faults link) (M.fault_count old)
      pub reads : M.reads new ≡ raised (K.reads link) (M.reads old)
      pub writes : M.writes new ≡ raised (K.writes link) (M.writes old)
      pub files : (p : List ℕ) → M.file new p ≡ M.file old p
      pub names : M.names new ≡ M.names old

    -- a document was submitted by this request, over one link
    pub record Submits (address request : List ℕ) (old new : H) (end : SubmitEnd) : Type 0 where
      pub middle : H
      pub link : L
      pub later : L
      pub told : Result Response Lost
      pub dials : Dials old middle link
      pub exchanges : Exchanges K link later address request told
      pub settles : Settles middle new later
      pub end_is : end ≡ submit_end told

    -- entries were collected, over one link
    pub record Collects {O : Type 0} (S : SinkMeaning O) (address folder : List ℕ) (first count : ℕ) (old new : H) (before after : O) (end : CollectEnd) : Type 0 where
      pub middle : H
      pub last : H
      pub link : L
      pub later : L
      pub dials : Dials old middle link
      pub collects : CollectsOver K address folder S first count (run middle link before) (run last later after) end
      pub settles : Settles last new later
