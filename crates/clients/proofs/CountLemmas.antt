-- What an exchange does to the counts of its link.
use Rattle.std.proofs.Common.{◌≡◌, ◌≤◌, ℕ, zero, suc, Bool, true, false, List, Result, Ok, Err, ◌∙◌, ap, subst, arith}
use Rattle.as4_flow.specs.Flow.{Rose, one_more}
use Rattle.as4_host.specs.Counts.{raised}
use Rattle.as4_host.specs.declared.link.Link.{Ghosts as LinkMeaning}
use Rattle.as4_http.specs.declared.message.Response.{Response}
use Rattle.as4_http.specs.declared.refusal.HttpRefusal.TheVariants as http
use Rattle.clients.specs.Causes.{RisesIf}
use Rattle.link_exchange.specs.Exchanges.{Exchanges}
use Rattle.link_exchange.specs.declared.exchanging.Lost.{Lost}
use Rattle.link_exchange.specs.declared.exchanging.Lost.TheVariants as lost

-- a count of a link, which is 0 unless something failed
abbrev pub Counted : Bool → ℕ → Type 0
Counted true count = 1 ≤ count
Counted false count = count ≡ 0

raised_none : (later count new : ℕ) → later ≡ 0 → count ≡ 0 → new ≡ raised later count → new ≡ 0
raised_none later count new none first is = is ∙ ap (λ (n : ℕ). raised n count) none ∙ first

raised_some : (later count new : ℕ) → 1 ≤ later → count ≡ 0 → new ≡ raised later count → 1 ≤ new
raised_some zero count new some first is = absurd (omega (arith, some))
raised_some (suc later) count new some first is =
    let one : new ≡ 1 = is ∙ ap one_more first in
    omega (arith, one)

rose_some : (first later : ℕ) → first ≡ 0 → Rose first later → 1 ≤ later
rose_some first later none rose = subst (λ (n : ℕ). Rose n later) none rose

-- a settled link's count
pub settled_if : (b : Bool) (count old new : ℕ) → Counted b count → new ≡ raised count old → RisesIf b old new
settled_if true zero old new some is = absurd (omega (arith, some))
settled_if true (suc count) old new some is = omega (arith, is)
settled_if false count old new none is = is ∙ ap (λ (n : ℕ). raised n old) none

-- which counts rise without a response
abbrev pub lost_reads : Lost → Bool
lost_reads (lost.Unread http.ReadFault) = true
lost_reads other = false

abbrev pub lost_writes : Lost → Bool
lost_writes lost.Unsent = true
lost_writes other = false

abbrev pub lost_faults : Lost → Bool
lost_faults lost.Unreached = true
lost_faults other = false

-- an exchange with a response raises none
abbrev pub told_at : (Lost → Bool) → Result Response Lost → Bool
told_at at (Ok response) = false
told_at at (Err why) = at why

module _ {L In Out : Type 0} (K : LinkMeaning L In Out) (old new : L) (address request : List ℕ) where
  pub reads_counted : (told : Result Response Lost) → Exchanges K old new address request told → K.reads old ≡ 0
      → Counted (told_at lost_reads told) (K.reads new)
  reads_counted (Ok response) e first = raised_none _ _ _ (e.talks.1.quiet ∙ e.no_reads) first e.reads
  reads_counted (Err lost.Unreached) e first = e.reads ∙ first
  reads_counted (Err lost.Unsent) e first = raised_none _ _ _ (e.talks.3 ∙ e.no_reads) first e.reads
  reads_counted (Err lost.NoMemory) e first = e.reads ∙ first
  reads_counted (Err (lost.Unread http.Cut)) e first = raised_none _ _ _ (e.talks.1.quiet (λ is. cc) ∙ e.no_reads) first e.reads
  reads_counted (Err (lost.Unread http.Bad)) e first = raised_none _ _ _ (e.talks.1.quiet (λ is. cc) ∙ e.no_reads) first e.reads
  reads_counted (Err (lost.Unread http.TooLong)) e first = raised_none _ _ _ (e.talks.1.quiet (λ is. cc) ∙ e.no_reads) first e.reads
  reads_counted (Err (lost.Unread http.NoMemory)) e first = raised_none _ _ _ (e.talks.1.quiet (λ is. cc) ∙ e.no_reads) first e.reads
  reads_counted (Err (lost.Unread http.ReadFault)) e first = raised_some _ _ _ (rose_some _ _ e.no_reads e.talks.1.why) first e.reads

  pub writes_counted : (told : Result Response Lost) → Exchanges K old new address request told → K.writes old ≡ 0
      → Counted (told_at lost_writes told) (K.writes new)
  writes_counted (Ok response) e first = raised_none _ _ _ (e.talks.0.1 ∙ e.no_writes) first e.writes
  writes_counted (Err lost.Unreached) e first = e.writes ∙ first
  writes_counted (Err lost.Unsent) e first = raised_some _ _ _ (rose_some _ _ e.no_writes e.talks.1) first e.writes
  writes_counted (Err lost.NoMemory) e first = e.writes ∙ first
  writes_counted (Err (lost.Unread refusal)) e first = raised_none _ _ _ (e.talks.0.1 ∙ e.no_writes) first e.writes

  pub faults_counted : (told : Result Response Lost) → Exchanges K old new address request told → K.faults old ≡ 0
      → Counted (told_at lost_faults told) (K.faults new)
  faults_counted (Ok response) e first = e.faults ∙ first
  faults_counted (Err lost.Unreached) e first = rose_some _ _ first e.faults.1
  faults_counted (Err lost.Unsent) e first = e.faults ∙ first
  faults_counted (Err lost.NoMemory) e first = e.faults ∙ first
  faults_counted (Err (lost.Unread refusal)) e first = e.faults ∙ first
