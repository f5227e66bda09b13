-- What one entry leaves: its file, its line, and the answers that are left.
use Rattle.std.proofs.Common.{◌≡◌, ◌≢◌, ◌==◌, ℕ, suc, Bool, true, false, if◌then◌else◌, List, ◌++◌, Option, Some, None, Result, Ok, Err, inl, inr, ◌∙◌, refl, sym, ap, subst}
use Rattle.std.specs.Prelude.{⊤, is_some}
use Rattle.std.proofs.lemmas.Bool.{eqb-true}
use Rattle.as4_flow.specs.Flow.{Told, before}
use Rattle.as4_host.specs.Files.{IsWritten, holding}
use Rattle.as4_host.specs.Lists.{first_of, without_first}
use Rattle.as4_host.specs.declared.host.Host.{Ghosts as HostMeaning}
use Rattle.as4_host.specs.declared.host.HostRefusal.{HostRefusal}
use Rattle.as4_host.specs.declared.host.HostRefusal.TheVariants as refusal
use Rattle.as4_host.specs.declared.link.Link.{Ghosts as LinkMeaning}
use Rattle.as4_http.specs.Responses.{BeginsResponse}
use Rattle.as4_http.specs.declared.message.Response.{Response}
use Rattle.clients.specs.Endings.{collect_lost}
use Rattle.link_exchange.specs.Exchanges.{Exchanges}
use Rattle.clients.specs.Lines.{IsKept, skip}
use Rattle.clients.specs.Requests.{confirm_request, fetch_request}
use Rattle.clients.specs.Runs.{ConfirmsIf, FileCame, KeepsIf, Visits, file_of, file_path}
use Rattle.clients.specs.declared.ending.CollectEnd.TheVariants as collect
use Rattle.clients.specs.declared.ending.Visit.{Visit}
use Rattle.clients.specs.declared.ending.Visit.TheVariants as visit
use Rattle.link_exchange.specs.declared.exchanging.Lost.{Lost}
use Rattle.link_exchange.specs.declared.exchanging.Lost.TheVariants as lost

-- a link whose answers are those of the beginning, after some of them
abbrev pub IsLater : Option (List (List ℕ)) → Option (List (List ℕ)) → Type 0
IsLater answers left = (j : ℕ) × (left ≡ skip j answers)

later_same : (answers old new : Option (List (List ℕ))) → IsLater answers old → new ≡ old → IsLater answers new
later_same answers old new (j, is) same = (j, same ∙ is)

later_next : (answers old new : Option (List (List ℕ))) → IsLater answers old → new ≡ without_first old → IsLater answers new
later_next answers old new (j, is) next = (suc j, next ∙ ap without_first is)

-- a source that was read is as observable as before
some_rest : (held : List ℕ) (rest : Option (List ℕ)) (stream : List ℕ) → is_some rest ≡ is_some (Some stream)
    → (bytes : List ℕ) × (before held rest ≡ Some bytes)
some_rest held None stream same = absurd cc
some_rest held (Some bytes) stream same = (held ++ bytes, refl)

-- a file that was written has its bytes
holding_told : (bytes : List ℕ) (old new : Option (Option (List ℕ))) → new ≡ holding bytes old → Told new (λ held. held ≡ Some bytes)
holding_told bytes None new is held told = absurd cc
holding_told bytes (Some file) new is held told = cc

-- only status 200 brings a file
status_is : (status : ℕ) (a b c : Bool)
    → (if a then visit.Collected else (if b then visit.Gone else (if c then visit.Ends collect.NoEntry else visit.Ends (collect.Refused status)))) ≡ visit.Collected
    → a ≡ true
status_is status true b c is = refl
status_is status false true c is = absurd cc
status_is status false false true is = absurd cc
status_is status false false false is = absurd cc

module _ {L In Out : Type 0} (K : LinkMeaning L In Out) (answers : Option (List (List ℕ))) where
  pub exchange_later : (old new : L) (address request : List ℕ) (told : Result Response Lost) → Exchanges K old new address request told
      → IsLater answers (K.answers old) → IsLater answers (K.answers new)
  exchange_later old new address request (Ok response) e later = later_next answers _ _ later e.answers
  exchange_later old new address request (Err lost.Unreached) e later = later_same answers _ _ later e.answers
  exchange_later old new address request (Err lost.Unsent) e later = later_next answers _ _ later e.answers
  exchange_later old new address request (Err lost.NoMemory) e later = later_same answers _ _ later e.answers
  exchange_later old new address request (Err (lost.Unread why)) e later = later_next answers _ _ later e.answers

  confirms_later : (address : List ℕ) (n : ℕ) (written : Result ⊤ HostRefusal) (old new : L) (end : Visit) → ConfirmsIf K address n written old new end
      → IsLater answers (K.answers old) → IsLater answers (K.answers new)
  confirms_later address n (Ok _) old new end c later = exchange_later old new address (confirm_request address n) c.0 c.1 later
  confirms_later address n (Err refusal.HostFailed) old new end c later = later_same answers _ _ later (ap (λ l. K.answers l) c.1)
  confirms_later address n (Err refusal.NoMemory) old new end c later = later_same answers _ _ later (ap (λ l. K.answers l) c.1)

  -- a response that was read is one with which an answer begins
  pub response_came : (old new : L) (address request : List ℕ) (response : Response) → Exchanges K old new address request (Ok response)
      → Told (first_of (K.answers old)) (λ stream. (rest : List ℕ) × BeginsResponse stream response rest)
  response_came old new address request response e stream told =
      let reads = e.talks.1 in
      let left : e.streams.left ≡ Some stream = e.left ∙ told in
      let rest = some_rest reads.held e.streams.rest stream (reads.tells ∙ ap is_some left) in
      (rest.0, reads.begins stream left rest.0 rest.1)

  module _ {H Store Door DoorIn DoorOut Dialer DialerIn DialerOut Time Dice : Type 0} (M : HostMeaning H Store Door DoorIn DoorOut Dialer DialerIn DialerOut Time Dice)
      (address folder : List ℕ) where
    -- an entry that was confirmed has a file that was written
    written_is : (n : ℕ) (file : List ℕ) (before after : Option (Option (List ℕ))) (written : Result ⊤ HostRefusal) (old new : L)
        → ConfirmsIf K address n written old new visit.Collected → IsWritten file before after written → after ≡ holding file before
    written_is n file before after (Ok _) old new c is = is
    written_is n file before after (Err refusal.HostFailed) old new c is =
        let ends : visit.Collected ≡ visit.Ends collect.FileFault = c.0 in
        absurd cc
    written_is n file before after (Err refusal.NoMemory) old new c is =
        let ends : visit.Collected ≡ visit.Ends collect.NoMemory = c.0 in
        absurd cc

    -- a file that was written is that of the response
    pub kept_file : (n : ℕ) (response : Response) (file : List ℕ) (old new : H) (link middle : L)
        → Exchanges K link middle address (fetch_request address n) (Ok response) → (response.status ≡ 200) × (file ≡ file_of response)
        → M.file new (file_path folder n) ≡ holding file (M.file old (file_path folder n)) → IsLater answers (K.answers link) → IsKept M folder answers n new
    kept_file n response file old new link middle e came written (j, is) = record {
      number = j;
      response = response;
      came = subst (λ (left : Option (List (List ℕ))). Told (first_of left) (λ stream. (rest : List ℕ) × BeginsResponse stream response rest)) is
          (response_came link middle address (fetch_request address n) response e);
      status = came.0;
      file = subst (λ (bytes : List ℕ). Told (M.file new (file_path folder n)) (λ held. held ≡ Some bytes)) came.1
          (holding_told file (M.file old (file_path folder n)) (M.file new (file_path folder n)) written);
    }

    kept_by : (n : ℕ) (told : Result Response Lost) (fetched : Result (List ℕ) Visit) (old new : H) (link middle later : L)
        → Exchanges K link middle address (fetch_request address n) told → FileCame told fetched
        → KeepsIf M K address folder n fetched old new middle later visit.Collected → IsLater answers (K.answers link) → IsKept M folder answers n new
    kept_by n (Ok response) (Ok file) old new link middle later e came k left =
        kept_file n response file old new link middle e came (written_is n file _ _ k.written middle later k.confirms k.writes.file) left
    kept_by n (Ok response) (Err other) old new link middle later e (inl (status, by)) k left =
        absurd (status (eqb-true response.status 200 (status_is response.status (response.status == 200) (response.status == 410) (response.status == 404) (sym by ∙ sym k.0))))
    kept_by n (Ok response) (Err other) old new link middle later e (inr (status, by)) k left =
        let ends : visit.Collected ≡ visit.Ends collect.NoMemory = k.0 ∙ by in
        absurd cc
    kept_by n (Err why) (Ok file) old new link middle later e came k left = absurd cc
    kept_by n (Err why) (Err other) old new link middle later e came k left =
        let ends : visit.Collected ≡ other = k.0 in
        let same : other ≡ visit.Ends (collect_lost why) = cc in
        absurd cc

    keeps_later : (n : ℕ) (fetched : Result (List ℕ) Visit) (old new : H) (middle later : L) (end : Visit)
        → KeepsIf M K address folder n fetched old new middle later end → IsLater answers (K.answers middle) → IsLater answers (K.answers later)
    keeps_later n (Ok file) old new middle later end k left = confirms_later address n k.written middle later end k.confirms left
    keeps_later n (Err other) old new middle later end k left = later_same answers _ _ left (ap (λ l. K.answers l) k.2)

    keeps_others : (n : ℕ) (fetched : Result (List ℕ) Visit) (old new : H) (middle later : L) (end : Visit)
        → KeepsIf M K address folder n fetched old new middle later end → (path : List ℕ) → path ≢ file_path folder n → M.file new path ≡ M.file old path
    keeps_others n (Ok file) old new middle later end k path other = k.writes.files path other
    keeps_others n (Err end) old new middle later same k path other = ap (λ h. M.file h path) k.1

    -- what a visit leaves
    pub record Left (n : ℕ) (old new : H) (link : L) (end : Visit) : Type 0 where
      pub kept : end ≡ visit.Collected → IsKept M folder answers n new
      pub later : IsLater answers (K.answers link)
      pub others : (path : List ℕ) → path ≢ file_path folder n → M.file new path ≡ M.file old path

    pub visit_left : (n : ℕ) (old new : H) (link later : L) (end : Visit) → Visits M K address folder n old new link later end
        → IsLater answers (K.answers link) → Left n old new later end
    visit_left n old new link later end v left = record {
      kept = λ is. kept_by n v.fetches.0 v.fetched old new link v.middle later v.fetches.1 v.fetches.2
          (subst (λ (e : Visit). KeepsIf M K address folder n v.fetched old new v.middle later e) is v.keeps) left;
      later = keeps_later n v.fetched old new v.middle later end v.keeps
          (exchange_later link v.middle address (fetch_request address n) v.fetches.0 v.fetches.1 left);
      others = keeps_others n v.fetched old new v.middle later end v.keeps;
    }
