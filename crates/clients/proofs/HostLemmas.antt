-- Which counts of a host and of an output rise in a collection, by its end.
use Rattle.std.proofs.Common.{◌≡◌, ◌+◌, ◌==◌, ℕ, zero, suc, Bool, true, false, ◌||◌, List, Result, Ok, Err, inl, inr, ◌∙◌, refl, sym, ap, subst, arith}
use Rattle.std.specs.Prelude.{⊤}
use Rattle.as4_host.specs.Counts.{raised}
use Rattle.as4_host.specs.declared.host.Host.{Ghosts as HostMeaning}
use Rattle.as4_host.specs.declared.host.HostRefusal.{HostRefusal}
use Rattle.as4_host.specs.declared.host.HostRefusal.TheVariants as refusal
use Rattle.as4_host.specs.declared.link.Link.{Ghosts as LinkMeaning}
use Rattle.as4_flow.specs.declared.sink.Sink.{Ghosts as SinkMeaning}
use Rattle.as4_http.specs.declared.message.Response.{Response}
use Rattle.as4_http.specs.declared.refusal.HttpRefusal.TheVariants as http
use Rattle.clients.specs.Causes.{RisesIf, collect_faults, collect_outputs}
use Rattle.clients.specs.Endings.{collect_lost, visit_by, visit_end}
use Rattle.clients.specs.Runs.{CollectsOver, ConfirmsIf, FileCame, KeepsIf, Prints, Run, Takes, TakesAll, Tells, Writes, file_path}
use Rattle.clients.specs.declared.ending.CollectEnd.{CollectEnd}
use Rattle.clients.specs.declared.ending.CollectEnd.TheVariants as collect
use Rattle.clients.specs.declared.ending.Visit.{Visit}
use Rattle.clients.specs.declared.ending.Visit.TheVariants as visit
use Rattle.link_exchange.specs.declared.exchanging.Lost.{Lost}
use Rattle.link_exchange.specs.declared.exchanging.Lost.TheVariants as lost
use Rattle.clients.proofs.CauseLemmas.{link_faults, result_at, status_quiet, visit_at}
use Rattle.clients.proofs.CountLemmas.{Counted, settled_if}

-- ends that no response brings, nor the want of one
pub record IsOwn (at : CollectEnd → Bool) : Type 0 where
  pub lost : (why : Lost) → at (collect_lost why) ≡ false
  pub no_entry : at collect.NoEntry ≡ false
  pub refused : (status : ℕ) → at (collect.Refused status) ≡ false
  pub no_memory : at collect.NoMemory ≡ false

-- what a file that isn't written ends by
abbrev pub written_at : (CollectEnd → Bool) → Result ⊤ HostRefusal → Bool
written_at at (Ok _) = false
written_at at (Err refusal.HostFailed) = at collect.FileFault
written_at at (Err refusal.NoMemory) = false

abbrev pub file_fault : CollectEnd → Bool
file_fault collect.FileFault = true
file_fault other = false

module _ (at : CollectEnd → Bool) (own : IsOwn at) where
  own_status : (status : ℕ) → visit_at at (visit_by status) ≡ false
  own_status status = status_quiet at status (status == 200) (status == 410) (status == 404) own.no_entry (own.refused status)

  own_end : (told : Result Response Lost) → visit_at at (visit_end told) ≡ false
  own_end (Ok response) = own_status response.status
  own_end (Err why) = own.lost why

  own_file : (told : Result Response Lost) (other : Visit) → FileCame told (Err other) → visit_at at other ≡ false
  own_file (Ok response) other (inl (status, is)) = ap (visit_at at) is ∙ own_status response.status
  own_file (Ok response) other (inr (status, is)) = ap (visit_at at) is ∙ own.no_memory
  own_file (Err why) other is =
      let same : other ≡ visit.Ends (collect_lost why) = cc in
      ap (visit_at at) same ∙ own.lost why

  module _ {L In Out : Type 0} (K : LinkMeaning L In Out) (address : List ℕ) where
    own_confirms : (n : ℕ) (written : Result ⊤ HostRefusal) (link later : L) (end : Visit) → ConfirmsIf K address n written link later end
        → visit_at at end ≡ written_at at written
    own_confirms n (Ok _) link later end c = ap (visit_at at) c.2 ∙ own_end c.0
    own_confirms n (Err refusal.HostFailed) link later end c = ap (visit_at at) c.0
    own_confirms n (Err refusal.NoMemory) link later end c = ap (visit_at at) c.0 ∙ own.no_memory

own_file_fault : IsOwn file_fault
own_file_fault = record {
  lost = no_lost;
  no_entry = refl;
  refused = λ status. refl;
  no_memory = refl;
}
  where
    no_lost : (why : Lost) → file_fault (collect_lost why) ≡ false
    no_lost lost.Unreached = refl
    no_lost lost.Unsent = refl
    no_lost lost.NoMemory = refl
    no_lost (lost.Unread http.Cut) = refl
    no_lost (lost.Unread http.Bad) = refl
    no_lost (lost.Unread http.TooLong) = refl
    no_lost (lost.Unread http.ReadFault) = refl
    no_lost (lost.Unread http.NoMemory) = refl

own_outputs : IsOwn collect_outputs
own_outputs = record {
  lost = no_lost;
  no_entry = refl;
  refused = λ status. refl;
  no_memory = refl;
}
  where
    no_lost : (why : Lost) → collect_outputs (collect_lost why) ≡ false
    no_lost lost.Unreached = refl
    no_lost lost.Unsent = refl
    no_lost lost.NoMemory = refl
    no_lost (lost.Unread http.Cut) = refl
    no_lost (lost.Unread http.Bad) = refl
    no_lost (lost.Unread http.TooLong) = refl
    no_lost (lost.Unread http.ReadFault) = refl
    no_lost (lost.Unread http.NoMemory) = refl

-- the end of a collection that asked for all its numbers
abbrev pub is_done : CollectEnd → Bool
is_done collect.Done = true
is_done other = false

own_done : IsOwn is_done
own_done = record {
  lost = no_lost;
  no_entry = refl;
  refused = λ status. refl;
  no_memory = refl;
}
  where
    no_lost : (why : Lost) → is_done (collect_lost why) ≡ false
    no_lost lost.Unreached = refl
    no_lost lost.Unsent = refl
    no_lost lost.NoMemory = refl
    no_lost (lost.Unread http.Cut) = refl
    no_lost (lost.Unread http.Bad) = refl
    no_lost (lost.Unread http.TooLong) = refl
    no_lost (lost.Unread http.ReadFault) = refl
    no_lost (lost.Unread http.NoMemory) = refl

-- a file doesn't end a collection so
no_written : (at : CollectEnd → Bool) → at collect.FileFault ≡ false → (written : Result ⊤ HostRefusal) → written_at at written ≡ false
no_written at none (Ok _) = refl
no_written at none (Err refusal.HostFailed) = none
no_written at none (Err refusal.NoMemory) = refl

module _ {H Store Door DoorIn DoorOut Dialer DialerIn DialerOut Time Dice : Type 0} (M : HostMeaning H Store Door DoorIn DoorOut Dialer DialerIn DialerOut Time Dice)
    {L In Out : Type 0} (K : LinkMeaning L In Out) (address folder : List ℕ) where
  -- the counts of a host after a part of a collection: only a file can raise its faults
  pub record Leaves (b : Bool) (old new : H) : Type 0 where
    pub reads : M.reads new ≡ M.reads old
    pub writes : M.writes new ≡ M.writes old
    pub faults : RisesIf b (M.fault_count old) (M.fault_count new)

  leaves_same : (old new : H) → new ≡ old → Leaves false old new
  leaves_same old new same = record { reads = ap (λ h. M.reads h) same; writes = ap (λ h. M.writes h) same; faults = ap (λ h. M.fault_count h) same }

  written_leaves : (path bytes : List ℕ) (old new : H) (written : Result ⊤ HostRefusal) → Writes M path bytes old new written
      → Leaves (written_at file_fault written) old new
  written_leaves path bytes old new (Ok _) w = record { reads = w.reads; writes = w.writes; faults = w.cause }
  written_leaves path bytes old new (Err refusal.HostFailed) w = record { reads = w.reads; writes = w.writes; faults = w.cause.1 }
  written_leaves path bytes old new (Err refusal.NoMemory) w = record { reads = w.reads; writes = w.writes; faults = w.cause }

  keeps_leaves : (n : ℕ) (told : Result Response Lost) (fetched : Result (List ℕ) Visit) (old new : H) (middle later : L) (end : Visit)
      → FileCame told fetched → KeepsIf M K address folder n fetched old new middle later end → Leaves (visit_at file_fault end) old new
  keeps_leaves n told (Ok file) old new middle later end came k =
      subst (λ (b : Bool). Leaves b old new) (sym (own_confirms file_fault own_file_fault K address n k.written middle later end k.confirms))
      (written_leaves (file_path folder n) file old new k.written k.writes)
  keeps_leaves n told (Err other) old new middle later end came k =
      subst (λ (b : Bool). Leaves b old new) (sym (ap (visit_at file_fault) k.0 ∙ own_file file_fault own_file_fault told other came))
      (leaves_same old new k.1)

  keeps_silent : (at : CollectEnd → Bool) (own : IsOwn at) → at collect.FileFault ≡ false
      → (n : ℕ) (told : Result Response Lost) (fetched : Result (List ℕ) Visit) (old new : H) (middle later : L) (end : Visit)
      → FileCame told fetched → KeepsIf M K address folder n fetched old new middle later end → visit_at at end ≡ false
  keeps_silent at own none n told (Ok file) old new middle later end came k =
      own_confirms at own K address n k.written middle later end k.confirms ∙ no_written at none k.written
  keeps_silent at own none n told (Err other) old new middle later end came k =
      ap (visit_at at) k.0 ∙ own_file at own told other came

  module _ {O : Type 0} (S : SinkMeaning O) where
    -- a line that fails isn't a file that fails
    printed_file : (bytes : List ℕ) (old new : O) (result : Result ⊤ CollectEnd) → Prints S bytes old new result → result_at file_fault result ≡ false
    printed_file bytes old new (Ok _) prints = refl
    printed_file bytes old new (Err end) prints = ap file_fault prints.0

    told_file : (n : ℕ) (end : Visit) (old new : O) (result : Result ⊤ CollectEnd) → Tells S n end old new result
        → result_at file_fault result ≡ visit_at file_fault end
    told_file n visit.Collected old new result tells = printed_file _ old new result tells
    told_file n visit.Gone old new result tells = printed_file _ old new result tells
    told_file n (visit.Ends end) old new result tells = ap (result_at file_fault) tells.0

    printed_faults : (bytes : List ℕ) (old new : O) (result : Result ⊤ CollectEnd) → Prints S bytes old new result
        → RisesIf (result_at collect_outputs result) (S.faults old) (S.faults new)
    printed_faults bytes old new (Ok _) prints = prints.1
    printed_faults bytes old new (Err end) prints =
        subst (λ (e : CollectEnd). RisesIf (collect_outputs e) (S.faults old) (S.faults new)) (sym prints.0) prints.2

    told_faults : (n : ℕ) (end : Visit) (old new : O) (result : Result ⊤ CollectEnd) → visit_at collect_outputs end ≡ false
        → Tells S n end old new result → RisesIf (result_at collect_outputs result) (S.faults old) (S.faults new)
    told_faults n visit.Collected old new result silent tells = printed_faults _ old new result tells
    told_faults n visit.Gone old new result silent tells = printed_faults _ old new result tells
    told_faults n (visit.Ends end) old new result silent tells =
        subst (λ (b : Bool). RisesIf b (S.faults old) (S.faults new)) (sym (ap (result_at collect_outputs) tells.0 ∙ silent))
        (ap (λ o. S.faults o) tells.1)

    -- what an entry leaves
    pub record LeavesBoth (result : Result ⊤ CollectEnd) (old new : Run H L O) : Type 0 where
      pub host : Leaves (result_at file_fault result) old.host new.host
      pub output : RisesIf (result_at collect_outputs result) (S.faults old.output) (S.faults new.output)

    takes_leave : (n : ℕ) (old new : Run H L O) (result : Result ⊤ CollectEnd) → Takes M K address folder S n old new result → LeavesBoth result old new
    takes_leave n old new result t =
        let v = t.visits in record {
          host = subst (λ (b : Bool). Leaves b old.host new.host) (sym (told_file n t.end old.output new.output result t.tells))
              (keeps_leaves n v.fetches.0 v.fetched old.host new.host v.middle new.link t.end v.fetches.2 v.keeps);
          output = told_faults n t.end old.output new.output result
              (keeps_silent collect_outputs own_outputs refl n v.fetches.0 v.fetched old.host new.host v.middle new.link t.end v.fetches.2 v.keeps) t.tells;
        }

    -- an entry doesn't end a collection as done
    told_done : (n : ℕ) (last : Visit) (old new : O) (end : CollectEnd) → visit_at is_done last ≡ false → Tells S n last old new (Err end) → is_done end ≡ false
    told_done n visit.Collected old new end silent tells = ap is_done tells.0
    told_done n visit.Gone old new end silent tells = ap is_done tells.0
    told_done n (visit.Ends other) old new end silent tells = ap (result_at is_done) tells.0 ∙ silent

    pub not_done : (n : ℕ) (old new : Run H L O) (end : CollectEnd) → Takes M K address folder S n old new (Err end) → end ≡ collect.Done → ⊥
    not_done n old new end t is =
        let v = t.visits in
        let no : is_done end ≡ false = told_done n t.end old.output new.output end
        (keeps_silent is_done own_done refl n v.fetches.0 v.fetched old.host new.host v.middle new.link t.end v.fetches.2 v.keeps) t.tells in
        let yes : is_done end ≡ true = ap is_done is in
        cc

    -- nothing failed in the entries before
    after_all : (result : Result ⊤ CollectEnd) (old middle new : Run H L O) → LeavesBoth (Ok tt) old middle → LeavesBoth result middle new → LeavesBoth result old new
    after_all result old middle new all last = record {
      host = record {
        reads = last.host.reads ∙ all.host.reads;
        writes = last.host.writes ∙ all.host.writes;
        faults = subst (λ (n : ℕ). RisesIf (result_at file_fault result) n (M.fault_count new.host)) all.host.faults last.host.faults;
      };
      output = subst (λ (n : ℕ). RisesIf (result_at collect_outputs result) n (S.faults new.output)) all.output last.output;
    }

    take_all_leave : (first k : ℕ) (old new : Run H L O) → TakesAll M K address folder S first k old new → LeavesBoth (Ok tt) old new
    take_all_leave first zero old new same = record {
      host = leaves_same old.host new.host (ap (λ (r : Run H L O). r.host) same);
      output = ap (λ (r : Run H L O). S.faults r.output) same;
    }
    take_all_leave first (suc k) old new (middle, all, last) =
        after_all (Ok tt) old middle new (take_all_leave first k old middle all) (takes_leave (first + k) middle new (Ok tt) last)

    -- what a collection leaves
    pub collects_leave : (first n : ℕ) (old new : Run H L O) (end : CollectEnd) → CollectsOver M K address folder S first n old new end
        → LeavesBoth (Err end) old new
    collects_leave first n old new end (inl (is, all)) =
        let calm = take_all_leave first n old new all in
        subst (λ (e : CollectEnd). LeavesBoth (Err e) old new) (sym is) (record {
          host = record { reads = calm.host.reads; writes = calm.host.writes; faults = calm.host.faults };
          output = calm.output;
        })
    collects_leave first n old new end (inr (k, middle, few, all, last)) =
        after_all (Err end) old middle new (take_all_leave first k old middle all) (takes_leave (first + k) middle new (Err end) last)

-- a file or an open failed
pub either_if : (a b : Bool) (count old last new : ℕ) → RisesIf a old last → Counted b count → new ≡ raised count last → RisesIf (a || b) old new
either_if true true zero old last new rose some is = absurd (omega (arith, some))
either_if true true (suc count) old last new rose some is = omega (arith, rose, is)
either_if true false count old last new rose none is =
    let same : new ≡ last = settled_if false count last new none is in
    omega (arith, rose, same)
either_if false b count old last new same some is =
    subst (λ (n : ℕ). RisesIf b n new) same (settled_if b count last new some is)

pub collect_faults_are : (end : CollectEnd) → collect_faults end ≡ (file_fault end || link_faults end)
collect_faults_are collect.Done = refl
collect_faults_are collect.NoEntry = refl
collect_faults_are (collect.Refused status) = refl
collect_faults_are collect.BadResponse = refl
collect_faults_are collect.LinkFault = refl
collect_faults_are collect.WriteFault = refl
collect_faults_are collect.ReadFault = refl
collect_faults_are collect.FileFault = refl
collect_faults_are collect.OutputFault = refl
collect_faults_are collect.NoMemory = refl
