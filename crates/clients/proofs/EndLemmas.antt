-- Which counts of a host and of an output rise with a call, by its end.
use Rattle.std.proofs.Common.{◌≡◌, ◌==◌, ℕ, Bool, true, false, if◌then◌else◌, List, Result, Ok, Err, ◌∙◌, refl, sym, subst}
use Rattle.as4_flow.specs.declared.sink.Sink.{Ghosts as SinkMeaning}
use Rattle.as4_host.specs.Counts.{raised}
use Rattle.as4_host.specs.declared.host.Host.{Ghosts as HostMeaning}
use Rattle.as4_host.specs.declared.link.Link.{Ghosts as LinkMeaning}
use Rattle.as4_http.specs.declared.message.Response.{Response}
use Rattle.as4_http.specs.declared.refusal.HttpRefusal.TheVariants as http
use Rattle.clients.specs.Causes.{RisesIf, collect_faults, collect_outputs, collect_reads, collect_writes, submit_faults, submit_reads, submit_writes}
use Rattle.clients.specs.Endings.{submit_end, submit_lost}
use Rattle.clients.specs.Runs.{Collects, Submits, run}
use Rattle.clients.specs.declared.ending.CollectEnd.{CollectEnd}
use Rattle.clients.specs.declared.ending.SubmitEnd.{SubmitEnd}
use Rattle.clients.specs.declared.ending.SubmitEnd.TheVariants as submit
use Rattle.link_exchange.specs.declared.exchanging.Lost.{Lost}
use Rattle.link_exchange.specs.declared.exchanging.Lost.TheVariants as lost
use Rattle.clients.proofs.CauseLemmas.{collects_counted, link_faults, watches_faults, watches_reads, watches_writes}
use Rattle.clients.proofs.CountLemmas.{Counted, faults_counted, lost_faults, lost_reads, lost_writes, reads_counted, settled_if, told_at, writes_counted}
use Rattle.clients.proofs.HostLemmas.{LeavesBoth, collect_faults_are, collects_leave, either_if, file_fault}

-- a submission that got a response ends by none of these
pub submit_told : (at : SubmitEnd → Bool) (lost_at : Lost → Bool) → ((body : List ℕ) → at (submit.Accepted body) ≡ false)
    → ((status : ℕ) (body : List ℕ) → at (submit.Refused status body) ≡ false) → ((why : Lost) → at (submit_lost why) ≡ lost_at why)
    → (told : Result Response Lost) → at (submit_end told) ≡ told_at lost_at told
submit_told at lost_at accepted refused lost (Ok response) =
    either (response.status == 200)
  where
    either : (b : Bool) → at (if b then submit.Accepted response.body else submit.Refused response.status response.body) ≡ false
    either true = accepted response.body
    either false = refused response.status response.body
submit_told at lost_at accepted refused lost (Err why) = lost why

reads_lost : (why : Lost) → submit_reads (submit_lost why) ≡ lost_reads why
reads_lost lost.Unreached = refl
reads_lost lost.Unsent = refl
reads_lost lost.NoMemory = refl
reads_lost (lost.Unread http.Cut) = refl
reads_lost (lost.Unread http.Bad) = refl
reads_lost (lost.Unread http.TooLong) = refl
reads_lost (lost.Unread http.ReadFault) = refl
reads_lost (lost.Unread http.NoMemory) = refl

pub writes_lost : (why : Lost) → submit_writes (submit_lost why) ≡ lost_writes why
writes_lost lost.Unreached = refl
writes_lost lost.Unsent = refl
writes_lost lost.NoMemory = refl
writes_lost (lost.Unread http.Cut) = refl
writes_lost (lost.Unread http.Bad) = refl
writes_lost (lost.Unread http.TooLong) = refl
writes_lost (lost.Unread http.ReadFault) = refl
writes_lost (lost.Unread http.NoMemory) = refl

faults_lost : (why : Lost) → submit_faults (submit_lost why) ≡ lost_faults why
faults_lost lost.Unreached = refl
faults_lost lost.Unsent = refl
faults_lost lost.NoMemory = refl
faults_lost (lost.Unread http.Cut) = refl
faults_lost (lost.Unread http.Bad) = refl
faults_lost (lost.Unread http.TooLong) = refl
faults_lost (lost.Unread http.ReadFault) = refl
faults_lost (lost.Unread http.NoMemory) = refl

module _ {H Store Door DoorIn DoorOut Dialer DialerIn DialerOut Time Dice : Type 0} (M : HostMeaning H Store Door DoorIn DoorOut Dialer DialerIn DialerOut Time Dice)
    {L In Out : Type 0} (K : LinkMeaning L In Out) where
  -- the counts of a host after a submission
  pub record SubmitCounts (old new : H) (end : SubmitEnd) : Type 0 where
    pub reads : RisesIf (submit_reads end) (M.reads old) (M.reads new)
    pub writes : RisesIf (submit_writes end) (M.writes old) (M.writes new)
    pub faults : RisesIf (submit_faults end) (M.fault_count old) (M.fault_count new)

  -- a count that the link had, once it is settled
  settled_as : (b c : Bool) (count old last new : ℕ) → c ≡ b → Counted b count → new ≡ raised count last → last ≡ old → RisesIf c old new
  settled_as b c count old last new same counted is first =
      subst (λ (n : ℕ). RisesIf c n new) first
      (settled_if c count last new (subst (λ (x : Bool). Counted x count) (sym same) counted) is)

  pub submit_counts : (address request : List ℕ) (old new : H) (end : SubmitEnd) → Submits M K address request old new end → SubmitCounts old new end
  submit_counts address request old new end s =
      subst (λ (e : SubmitEnd). SubmitCounts old new e) (sym s.end_is) (record {
        reads = settled_as (told_at lost_reads s.told) _ (K.reads s.later) _ _ _
            (submit_told submit_reads lost_reads (λ body. refl) (λ status body. refl) reads_lost s.told)
            (reads_counted K s.link s.later address request s.told s.exchanges s.dials.no_reads) s.settles.reads s.dials.reads;
        writes = settled_as (told_at lost_writes s.told) _ (K.writes s.later) _ _ _
            (submit_told submit_writes lost_writes (λ body. refl) (λ status body. refl) writes_lost s.told)
            (writes_counted K s.link s.later address request s.told s.exchanges s.dials.no_writes) s.settles.writes s.dials.writes;
        faults = settled_as (told_at lost_faults s.told) _ (K.faults s.later) _ _ _
            (submit_told submit_faults lost_faults (λ body. refl) (λ status body. refl) faults_lost s.told)
            (faults_counted K s.link s.later address request s.told s.exchanges s.dials.no_faults) s.settles.faults s.dials.faults;
      })

  module _ {O : Type 0} (S : SinkMeaning O) where
    -- the counts of a host and of an output after a collection
    pub record CollectCounts (old new : H) (before after : O) (end : CollectEnd) : Type 0 where
      pub reads : RisesIf (collect_reads end) (M.reads old) (M.reads new)
      pub writes : RisesIf (collect_writes end) (M.writes old) (M.writes new)
      pub faults : RisesIf (collect_faults end) (M.fault_count old) (M.fault_count new)
      pub output : RisesIf (collect_outputs end) (S.faults before) (S.faults after)

    pub collect_counts : (address folder : List ℕ) (first count : ℕ) (old new : H) (before after : O) (end : CollectEnd)
        → Collects M K S address folder first count old new before after end → CollectCounts old new before after end
    collect_counts address folder first count old new before after end c =
        let from = run c.middle c.link before in
        let to = run c.last c.later after in
        let leave : LeavesBoth M K address folder S (Err end) from to = collects_leave M K address folder S first count from to end c.collects in record {
          reads = settled_as (collect_reads end) _ (K.reads c.later) _ _ _ refl
              (collects_counted K (λ l. K.reads l) collect_reads lost_reads (watches_reads K) M address folder S first count from to end c.collects c.dials.no_reads)
              c.settles.reads (leave.host.reads ∙ c.dials.reads);
          writes = settled_as (collect_writes end) _ (K.writes c.later) _ _ _ refl
              (collects_counted K (λ l. K.writes l) collect_writes lost_writes (watches_writes K) M address folder S first count from to end c.collects c.dials.no_writes)
              c.settles.writes (leave.host.writes ∙ c.dials.writes);
          faults = subst (λ (b : Bool). RisesIf b (M.fault_count old) (M.fault_count new)) (sym (collect_faults_are end))
              (either_if (file_fault end) (link_faults end) (K.faults c.later) (M.fault_count old) (M.fault_count c.last) (M.fault_count new)
              (subst (λ (n : ℕ). RisesIf (file_fault end) n (M.fault_count c.last)) c.dials.faults leave.host.faults)
              (collects_counted K (λ l. K.faults l) link_faults lost_faults (watches_faults K) M address folder S first count from to end c.collects c.dials.no_faults)
              c.settles.faults);
          output = leave.output;
        }
