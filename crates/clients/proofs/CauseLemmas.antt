-- Which counts of a link rise in a collection, by its end.
use Rattle.std.proofs.Common.{◌≡◌, ◌+◌, ◌==◌, ℕ, zero, suc, Bool, true, false, if◌then◌else◌, List, Result, Ok, Err, inl, inr, ◌∙◌, refl, sym, ap, subst}
use Rattle.std.specs.Prelude.{⊤}
use Rattle.as4_flow.specs.declared.sink.Sink.{Ghosts as SinkMeaning}
use Rattle.as4_host.specs.declared.host.Host.{Ghosts as HostMeaning}
use Rattle.as4_host.specs.declared.host.HostRefusal.{HostRefusal}
use Rattle.as4_host.specs.declared.host.HostRefusal.TheVariants as refusal
use Rattle.as4_host.specs.declared.link.Link.{Ghosts as LinkMeaning}
use Rattle.as4_http.specs.declared.message.Response.{Response}
use Rattle.as4_http.specs.declared.refusal.HttpRefusal.TheVariants as http
use Rattle.clients.specs.Causes.{collect_reads, collect_writes}
use Rattle.clients.specs.Endings.{collect_lost, visit_by, visit_end}
use Rattle.link_exchange.specs.Exchanges.{Exchanges}
use Rattle.clients.specs.Requests.{confirm_request, fetch_request}
use Rattle.clients.specs.Runs.{CollectsOver, ConfirmsIf, FileCame, KeepsIf, Prints, Run, Takes, TakesAll, Tells, Visits}
use Rattle.clients.specs.declared.ending.CollectEnd.{CollectEnd}
use Rattle.clients.specs.declared.ending.CollectEnd.TheVariants as collect
use Rattle.clients.specs.declared.ending.Visit.{Visit}
use Rattle.clients.specs.declared.ending.Visit.TheVariants as visit
use Rattle.link_exchange.specs.declared.exchanging.Lost.{Lost}
use Rattle.link_exchange.specs.declared.exchanging.Lost.TheVariants as lost
use Rattle.clients.proofs.CountLemmas.{Counted, faults_counted, lost_faults, lost_reads, lost_writes, reads_counted, told_at, writes_counted}

-- a count of the link that rises with some ends: it rises in an exchange without a response alone, and by the same reason
pub record Watches {L In Out : Type 0} (K : LinkMeaning L In Out) (count : L → ℕ) (at : CollectEnd → Bool) (lost_at : Lost → Bool) : Type 0 where
  pub exchanges : (old new : L) (address request : List ℕ) (told : Result Response Lost) → Exchanges K old new address request told
      → count old ≡ 0 → Counted (told_at lost_at told) (count new)
  pub same : (why : Lost) → at (collect_lost why) ≡ lost_at why
  pub no_entry : at collect.NoEntry ≡ false
  pub refused : (status : ℕ) → at (collect.Refused status) ≡ false
  pub no_memory : at collect.NoMemory ≡ false
  pub no_file : at collect.FileFault ≡ false
  pub no_output : at collect.OutputFault ≡ false
  pub done : at collect.Done ≡ false

-- what a visit ends by
abbrev pub visit_at : (CollectEnd → Bool) → Visit → Bool
visit_at at visit.Collected = false
visit_at at visit.Gone = false
visit_at at (visit.Ends end) = at end

abbrev pub result_at : (CollectEnd → Bool) → Result ⊤ CollectEnd → Bool
result_at at (Ok _) = false
result_at at (Err end) = at end

-- a status doesn't end a collection by a fault
pub status_quiet : (at : CollectEnd → Bool) (status : ℕ) (a b c : Bool) → at collect.NoEntry ≡ false → at (collect.Refused status) ≡ false
    → visit_at at (if a then visit.Collected else (if b then visit.Gone else (if c then visit.Ends collect.NoEntry else visit.Ends (collect.Refused status)))) ≡ false
status_quiet at status true b c first second = refl
status_quiet at status false true c first second = refl
status_quiet at status false false true first second = first
status_quiet at status false false false first second = second

module _ {L In Out : Type 0} (K : LinkMeaning L In Out) (count : L → ℕ) (at : CollectEnd → Bool) (lost_at : Lost → Bool)
    (watches : Watches K count at lost_at) where
  by_status : (status : ℕ) → visit_at at (visit_by status) ≡ false
  by_status status = status_quiet at status (status == 200) (status == 410) (status == 404) watches.no_entry (watches.refused status)

  pub visit_end_at : (told : Result Response Lost) → visit_at at (visit_end told) ≡ told_at lost_at told
  visit_end_at (Ok response) = by_status response.status
  visit_end_at (Err why) = watches.same why

  -- the count stays 0 where nothing is asked any more
  quiet : (end other : Visit) (link later : L) → end ≡ other → visit_at at other ≡ false → later ≡ link → count link ≡ 0
      → Counted (visit_at at end) (count later)
  quiet end other link later is calm same first =
      subst (λ (b : Bool). Counted b (count later)) (sym (ap (visit_at at) is ∙ calm)) (ap count same ∙ first)

  -- no file came, and the visit ends so
  pub no_file_came : (told : Result Response Lost) (other : Visit) → FileCame told (Err other) → visit_at at other ≡ told_at lost_at told
  no_file_came (Ok response) other (inl (status, is)) = ap (visit_at at) is ∙ by_status response.status
  no_file_came (Ok response) other (inr (status, is)) = ap (visit_at at) is ∙ watches.no_memory
  no_file_came (Err why) other is =
      let same : other ≡ visit.Ends (collect_lost why) = cc in
      ap (visit_at at) same ∙ watches.same why

  pub file_told : (told : Result Response Lost) (file : List ℕ) → FileCame told (Ok file) → told_at lost_at told ≡ false
  file_told (Ok response) file came = refl
  file_told (Err why) file came = absurd cc

  confirms_counted : (address : List ℕ) (n : ℕ) (written : Result ⊤ HostRefusal) (link later : L) (end : Visit)
      → ConfirmsIf K address n written link later end → count link ≡ 0 → Counted (visit_at at end) (count later)
  confirms_counted address n (Ok _) link later end c first =
      subst (λ (b : Bool). Counted b (count later)) (sym (ap (visit_at at) c.2 ∙ visit_end_at c.0))
      (watches.exchanges link later address (confirm_request address n) c.0 c.1 first)
  confirms_counted address n (Err refusal.HostFailed) link later end c first = quiet end _ link later c.0 watches.no_file c.1 first
  confirms_counted address n (Err refusal.NoMemory) link later end c first = quiet end _ link later c.0 watches.no_memory c.1 first

  module _ {H Store Door DoorIn DoorOut Dialer DialerIn DialerOut Time Dice : Type 0} (M : HostMeaning H Store Door DoorIn DoorOut Dialer DialerIn DialerOut Time Dice)
      (address folder : List ℕ) where
    keeps_counted : (n : ℕ) (told : Result Response Lost) (fetched : Result (List ℕ) Visit) (old new : H) (middle later : L) (end : Visit)
        → FileCame told fetched → Counted (told_at lost_at told) (count middle) → KeepsIf M K address folder n fetched old new middle later end
        → Counted (visit_at at end) (count later)
    keeps_counted n told (Ok file) old new middle later end came counted k =
        confirms_counted address n k.written middle later end k.confirms
        (subst (λ (b : Bool). Counted b (count middle)) (file_told told file came) counted)
    keeps_counted n told (Err other) old new middle later end came counted k =
        let same : visit_at at end ≡ told_at lost_at told = ap (visit_at at) k.0 ∙ no_file_came told other came in
        subst (λ (b : Bool). Counted b (count later)) (sym same)
        (subst (λ (link : L). Counted (told_at lost_at told) (count link)) (sym k.2) counted)

    visits_counted : (n : ℕ) (old new : H) (link later : L) (end : Visit) → Visits M K address folder n old new link later end
        → count link ≡ 0 → Counted (visit_at at end) (count later)
    visits_counted n old new link later end v first =
        keeps_counted n v.fetches.0 v.fetched old new v.middle later end v.fetches.2
        (watches.exchanges link v.middle address (fetch_request address n) v.fetches.0 v.fetches.1 first) v.keeps

    module _ {O : Type 0} (S : SinkMeaning O) where
      -- a line that fails ends a collection by the output's fault
      printed_at : (bytes : List ℕ) (old new : O) (result : Result ⊤ CollectEnd) → Prints S bytes old new result → result_at at result ≡ false
      printed_at bytes old new (Ok _) prints = refl
      printed_at bytes old new (Err end) prints = ap at prints.0 ∙ watches.no_output

      told_visit_at : (n : ℕ) (end : Visit) (old new : O) (result : Result ⊤ CollectEnd) → Tells S n end old new result
          → result_at at result ≡ visit_at at end
      told_visit_at n visit.Collected old new result tells = printed_at _ old new result tells
      told_visit_at n visit.Gone old new result tells = printed_at _ old new result tells
      told_visit_at n (visit.Ends end) old new result tells = ap (result_at at) tells.0

      takes_counted : (n : ℕ) (old new : Run H L O) (result : Result ⊤ CollectEnd) → Takes M K address folder S n old new result
          → count old.link ≡ 0 → Counted (result_at at result) (count new.link)
      takes_counted n old new result t first =
          subst (λ (b : Bool). Counted b (count new.link)) (sym (told_visit_at n t.end old.output new.output result t.tells))
          (visits_counted n old.host new.host old.link new.link t.end t.visits first)

      takes_all_counted : (first k : ℕ) (old new : Run H L O) → TakesAll M K address folder S first k old new → count old.link ≡ 0
          → count new.link ≡ 0
      takes_all_counted first zero old new same none = ap (λ (r : Run H L O). count r.link) same ∙ none
      takes_all_counted first (suc k) old new (middle, all, last) none =
          takes_counted (first + k) middle new (Ok tt) last (takes_all_counted first k old middle all none)

      -- the count after a collection
      pub collects_counted : (first n : ℕ) (old new : Run H L O) (end : CollectEnd) → CollectsOver M K address folder S first n old new end
          → count old.link ≡ 0 → Counted (at end) (count new.link)
      collects_counted first n old new end (inl (is, all)) none =
          subst (λ (b : Bool). Counted b (count new.link)) (sym (ap at is ∙ watches.done)) (takes_all_counted first n old new all none)
      collects_counted first n old new end (inr (k, middle, few, all, last)) none =
          takes_counted (first + k) middle new (Err end) last (takes_all_counted first k old middle all none)

-- the link's counts of reads, of writes and of faults
abbrev pub link_faults : CollectEnd → Bool
link_faults collect.LinkFault = true
link_faults other = false

same_reads : (why : Lost) → collect_reads (collect_lost why) ≡ lost_reads why
same_reads lost.Unreached = refl
same_reads lost.Unsent = refl
same_reads lost.NoMemory = refl
same_reads (lost.Unread http.Cut) = refl
same_reads (lost.Unread http.Bad) = refl
same_reads (lost.Unread http.TooLong) = refl
same_reads (lost.Unread http.ReadFault) = refl
same_reads (lost.Unread http.NoMemory) = refl

same_writes : (why : Lost) → collect_writes (collect_lost why) ≡ lost_writes why
same_writes lost.Unreached = refl
same_writes lost.Unsent = refl
same_writes lost.NoMemory = refl
same_writes (lost.Unread http.Cut) = refl
same_writes (lost.Unread http.Bad) = refl
same_writes (lost.Unread http.TooLong) = refl
same_writes (lost.Unread http.ReadFault) = refl
same_writes (lost.Unread http.NoMemory) = refl

same_faults : (why : Lost) → link_faults (collect_lost why) ≡ lost_faults why
same_faults lost.Unreached = refl
same_faults lost.Unsent = refl
same_faults lost.NoMemory = refl
same_faults (lost.Unread http.Cut) = refl
same_faults (lost.Unread http.Bad) = refl
same_faults (lost.Unread http.TooLong) = refl
same_faults (lost.Unread http.ReadFault) = refl
same_faults (lost.Unread http.NoMemory) = refl

module _ {L In Out : Type 0} (K : LinkMeaning L In Out) where
  pub watches_reads : Watches K (λ link. K.reads link) collect_reads lost_reads
  watches_reads = record {
    exchanges = reads_counted K;
    same = same_reads;
    no_entry = refl;
    refused = λ status. refl;
    no_memory = refl;
    no_file = refl;
    no_output = refl;
    done = refl;
  }

  pub watches_writes : Watches K (λ link. K.writes link) collect_writes lost_writes
  watches_writes = record {
    exchanges = writes_counted K;
    same = same_writes;
    no_entry = refl;
    refused = λ status. refl;
    no_memory = refl;
    no_file = refl;
    no_output = refl;
    done = refl;
  }

  pub watches_faults : Watches K (λ link. K.faults link) link_faults lost_faults
  watches_faults = record {
    exchanges = faults_counted K;
    same = same_faults;
    no_entry = refl;
    refused = λ status. refl;
    no_memory = refl;
    no_file = refl;
    no_output = refl;
    done = refl;
  }
