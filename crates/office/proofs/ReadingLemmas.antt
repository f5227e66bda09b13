-- The reply to a `Read`, and its payloads.
use Rattle.std.proofs.Common.{◌≡◌, ◌≢◌, ◌⊎◌, inl, inr, ℕ, ◌<◌, ◌≤◌, Bool, true, false, List, Option, Some, None, is_some, length, refl, sym, ap, subst, ◌∙◌}
use Rattle.std.specs.Prelude.{option_map}
use Rattle.std.specs.List.{slice_get}
use Rattle.as4_values.specs.declared.header.UserHeader.{UserHeader}
use Rattle.as4_values.specs.declared.payload.Payload.{Payload}
use Rattle.exchange_model.specs.End.{End}
use Rattle.exchange_model.specs.Table.{entry_reply, read_reply}
use Rattle.exchange_model.specs.declared.inbox_entry.InboxEntry.{InboxEntry}
use Rattle.exchange_model.specs.declared.reply.Reply.{Reply}
use Rattle.exchange_model.specs.declared.reply.Reply.TheVariants as reply
use Rattle.msh_core.specs.Machine.{IsReady, Machine, Planned, filled, filled_reply}
use Rattle.msh_core.proofs.GivenLemmas.{closed_bare, read_filled, rests_outcome}
use Rattle.msh_transitions.specs.Given.{bare_read, bare_reply}
use Rattle.std.specs.Prelude.{IfErr, IfOk, IfSome, Result, Ok, Err, if◌then◌else◌, nat_lt}
use Rattle.std.proofs.lemmas.Bool.{le-ltb}
use Rattle.msh_transitions.specs.Free.{IsBare, IsFree}
use Rattle.mode_values.specs.declared.mode.Mode.{Mode}
use Rattle.exchange_model.specs.declared.event.Event.{Event}
use Rattle.exchange_model.specs.declared.what.What.{What}
use Rattle.exchange_model.specs.declared.what.What.TheVariants as what
use Rattle.journal.specs.Faults.{TellsCause}
use Rattle.journal.specs.declared.fault.JournalFault.{JournalFault}
use Rattle.journal.specs.declared.fault.JournalFault.TheVariants.{Disk, Full, NoMemory, NotJournal}
use Rattle.std.proofs.Common.{◌^◌, [], arith}
use Rattle.as4_disk.specs.Leaving.{Quiet}
use Rattle.as4_disk.specs.declared.disk.Disk.{Ghosts as DiskMeaning}
use Rattle.as4_disk.specs.declared.fault_counts.FaultCounts.{FaultCounts}
use Rattle.as4_flow.specs.Flow.{Rose}
use Rattle.exchange_model.specs.Table.{Rests, RowOf, Step}
use Rattle.exchange_model.specs.declared.outcome.Outcome.{Outcome}
use Rattle.msh_recovery.specs.Opens.{KeepsEnd}
use Rattle.office.specs.Calls.{stop_of}
use Rattle.office.specs.Observed.{RepliesToRead}
use Rattle.office.specs.Preparing.{Completes, IsStarved, ReadsPayloads}
use Rattle.office.specs.State.{OfficeState, TakesEvents, machine_of}

-- a plan can be carried out whatever it replies
pub ready_replying : (machine : Machine) (plan : Planned) (r : Reply) → IsReady machine plan → IsReady machine (record plan { outcome = record plan.outcome { reply = r } })
ready_replying machine plan r ready = record { stands = ready.stands; queues = ready.queues; room = ready.room; limited = ready.limited }

bare_bare : (r : Reply) → bare_reply (bare_reply r) ≡ bare_reply r
unfolding bare_reply
bare_bare (reply.Entry header payloads) = refl
bare_bare other = refl

bare_filled : (payloads : List Payload) (r : Reply) → bare_reply (filled_reply payloads (bare_reply r)) ≡ bare_reply r
unfolding bare_reply
bare_filled payloads (reply.Entry header others) = refl
bare_filled payloads other = refl

-- the payloads of an open entry, as far as they are known
pub filled_replies : (observable : Bool) (end : End) (n : ℕ) (payloads : List Payload)
    → (observable ≡ true → (entry : InboxEntry) → end.confirmed ≤ n → slice_get end.inbox n ≡ Some entry → payloads ≡ entry.payloads)
    → RepliesToRead observable end n (filled_reply payloads (bare_read end n))
filled_replies true end n payloads are = read_filled end n payloads (are refl)
filled_replies false end n payloads are = inl (bare_filled payloads (read_reply end n))

-- there is no open entry
pub closed_replies : (observable : Bool) (end : End) (n : ℕ) → (n < end.confirmed) ⊎ (length end.inbox ≤ n) → RepliesToRead observable end n (bare_read end n)
closed_replies true end n closed = closed_bare end n closed
closed_replies false end n closed = inl (bare_bare (read_reply end n))

-- the payloads weren't found
pub gone_replies : (observable : Bool) (end : End) (n : ℕ) → (observable ≡ true → ⊥) → RepliesToRead observable end n reply.Gone
gone_replies true end n unseen = absurd (unseen refl)
gone_replies false end n unseen = inr refl

-- the entry of a header
pub entry_of : (found : Option InboxEntry) (header : UserHeader) → option_map (λ (e : InboxEntry). e.header) found ≡ Some header → (entry : InboxEntry) × (found ≡ Some entry) × (entry.header ≡ header)
entry_of None header is = absurd cc
entry_of (Some entry) header is = (entry, refl, cc)

module _ {D : Type 0} (M : DiskMeaning D) (old : OfficeState D) (number : ℕ) (plan : Planned) (ready : IsReady (machine_of old) plan) (rests : plan.outcome.effects ≡ []) (safe : stop_of old.list ≡ None → KeepsEnd M old.disk old.end) where
  -- an office that makes no events reads nothing
  pub unread_payloads : (TakesEvents old → ⊥) → IfSome (stop_of old.list) (λ halt. plan.outcome.reply ≡ reply.Stopped halt.before halt.after) → ReadsPayloads M old old number plan None
  unread_payloads stopped refused = record {
    same = refl;
    read = inl refl;
    planned = ready;
    rests = rests;
    replies = λ takes none. absurd (stopped takes);
    counted = tt;
    still = λ never. refl;
    refused = refused;
    calm = λ none. refl;
    safe = safe;
  }

  -- without a fault among the calls nothing is said of a refusal
  not_refused : (halt : Option FaultCounts) → halt ≡ None → IfSome halt (λ at. plan.outcome.reply ≡ reply.Stopped at.before at.after)
  not_refused None none = tt
  not_refused (Some at) none = absurd cc

  -- the payloads were read, or nothing was to be read
  pub going_payloads : (new : OfficeState D) → TakesEvents old → new ≡ record old { disk = new.disk } → (new.disk ≡ old.disk) ⊎ Quiet M old.disk new.disk
      → M.fault_count new.disk ≡ M.fault_count old.disk → RepliesToRead (is_some (M.seen old.disk)) old.end number plan.outcome.reply → ReadsPayloads M old new number plan None
  going_payloads new takes same read calm replies = record {
    same = same;
    read = read;
    planned = ready;
    rests = rests;
    replies = λ going none. replies;
    counted = tt;
    still = λ never. absurd (never takes);
    refused = not_refused (stop_of old.list) takes.1;
    calm = λ none. calm;
    safe = safe;
  }

  -- the disk failed
  pub failed_payloads : (new : OfficeState D) (at : FaultCounts) → TakesEvents old → new ≡ record old { disk = new.disk } → Quiet M old.disk new.disk
      → at.before ≡ M.fault_count old.disk → at.after ≡ M.fault_count new.disk → at.before ≤ at.after → Rose at.before at.after → plan.outcome.reply ≡ reply.Stopped at.before at.after
      → ReadsPayloads M old new number plan (Some at)
  failed_payloads new at takes same quiet first later grew rose is = record {
    same = same;
    read = inr quiet;
    planned = ready;
    rests = rests;
    replies = λ going none. absurd cc;
    counted = (takes, quiet, first, later, grew, rose, is);
    still = λ never. absurd (never takes);
    refused = not_refused (stop_of old.list) takes.1;
    calm = λ none. absurd cc;
    safe = safe;
  }

-- a plan that has the outcome of a read has no effects
pub read_rests : (r : Reply) (outcome : Outcome) → Rests r outcome → outcome.effects ≡ []
read_rests r outcome is = ap (λ (o : Outcome). o.effects) is

-- a plan whose payloads were fetched, or weren't
pub completed_payloads : {D : Type 0} (M : DiskMeaning D) (old new : OfficeState D) (number : ℕ) (plan made : Planned) (failed : Option FaultCounts) (fetched : Result (Option (List Payload)) JournalFault)
    → Completes plan fetched made failed → IsReady (machine_of old) plan → Rests (bare_read old.end number) plan.outcome → (stop_of old.list ≡ None → KeepsEnd M old.disk old.end)
    → TakesEvents old → new ≡ record old { disk = new.disk } → Quiet M old.disk new.disk → TellsCause (M.fault_count old.disk) (M.fault_count new.disk) fetched
    → ((got : Option (List Payload)) → fetched ≡ Ok got → is_some (M.seen old.disk) ≡ true → (entry : InboxEntry) → old.end.confirmed ≤ number → slice_get old.end.inbox number ≡ Some entry → got ≡ Some entry.payloads)
    → old.end.confirmed ≤ number → (entry : InboxEntry) → slice_get old.end.inbox number ≡ Some entry
    → ReadsPayloads M old new number made failed
completed_payloads {D} M old new number plan made failed (Ok (Some payloads)) (is, none) ready rests safe takes same quiet cause found waits entry there =
    let here : Planned = record plan { outcome = filled payloads plan.outcome } in
    let replies : RepliesToRead (is_some (M.seen old.disk)) old.end number here.outcome.reply =
    subst (λ (o : Outcome). RepliesToRead (is_some (M.seen old.disk)) old.end number (filled_reply payloads o.reply)) (sym rests)
    (filled_replies (is_some (M.seen old.disk)) old.end number payloads (λ seen other waits at. same_payloads payloads other.payloads (found (Some payloads) refl seen other waits at))) in
    subst (λ (p : Planned). ReadsPayloads M old new number p failed) (sym is)
    (subst (λ (f : Option FaultCounts). ReadsPayloads M old new number here f) (sym none)
    (going_payloads M old number here (ready_replying (machine_of old) plan (filled_reply payloads plan.outcome.reply) ready) (read_rests (bare_read old.end number) plan.outcome rests) safe new takes same (inr quiet) cause replies))
  where
    same_payloads : (a b : List Payload) → Some a ≡ Some b → a ≡ b
    same_payloads a b is = cc
completed_payloads {D} M old new number plan made failed (Ok None) (is, none) ready rests safe takes same quiet cause found waits entry there =
    let here : Planned = record plan { outcome = record plan.outcome { reply = reply.Gone } } in
    let replies : RepliesToRead (is_some (M.seen old.disk)) old.end number reply.Gone =
    gone_replies (is_some (M.seen old.disk)) old.end number (λ seen. not_found entry.payloads (found None refl seen entry waits there)) in
    subst (λ (p : Planned). ReadsPayloads M old new number p failed) (sym is)
    (subst (λ (f : Option FaultCounts). ReadsPayloads M old new number here f) (sym none)
    (going_payloads M old number here (ready_replying (machine_of old) plan reply.Gone ready) (read_rests (bare_read old.end number) plan.outcome rests) safe new takes same (inr quiet) cause replies))
  where
    not_found : (payloads : List Payload) → None ≡ Some payloads → ⊥
    not_found payloads is = cc
completed_payloads {D} M old new number plan made failed (Err (Disk before after)) (is, at) ready rests safe takes same quiet cause found waits entry there =
    let here : Planned = record plan { outcome = record plan.outcome { reply = reply.Stopped before after } } in
    subst (λ (p : Planned). ReadsPayloads M old new number p failed) (sym is)
    (subst (λ (f : Option FaultCounts). ReadsPayloads M old new number here f) (sym at)
    (failed_payloads M old number here (ready_replying (machine_of old) plan (reply.Stopped before after) ready) (read_rests (bare_read old.end number) plan.outcome rests) safe new
    (record { before = before; after = after }) takes same quiet cause.0 cause.1 cause.2.0 cause.2.1 refl))
completed_payloads {D} M old new number plan made failed (Err other) completes ready rests safe takes same quiet cause found waits entry there = absurd completes

-- what is true of each value is true of a result's
pub if_ok_map : {T E : Type 0} {P Q : T → Type 0} (result : Result T E) → ((value : T) → P value → Q value) → IfOk result P → IfOk result Q
if_ok_map (Ok value) implies is = implies value is
if_ok_map (Err error) implies is = tt

pub if_ok_at : {T E : Type 0} (P : T → Type 0) (result : Result T E) (value : T) → IfOk result P → result ≡ Ok value → P value
if_ok_at {T} {E} P result value all is =
    let Q : Result T E → Type 0 = λ r. IfOk r P in
    subst Q is all

pub if_err_map : {T E : Type 0} {P Q : E → Type 0} (result : Result T E) → ((error : E) → P error → Q error) → IfErr result P → IfErr result Q
if_err_map (Ok value) implies is = tt
if_err_map (Err error) implies is = implies error is

-- where the disk is observable, what is said of it holds
pub told_seen : {X : Type 0} (seen : Option X) (P : Type 0) → is_some seen ≡ true → ((image : X) → seen ≡ Some image → P) → P
told_seen (Some image) P is told = told image refl
told_seen None P is told = absurd cc

pub header_at : (found : Option InboxEntry) (entry : InboxEntry) (header : UserHeader) → option_map (λ (e : InboxEntry). e.header) found ≡ Some header → found ≡ Some entry → entry.header ≡ header
header_at None entry header is there = absurd cc
header_at (Some e) entry header is there = cc

-- without memory no device call failed
pub starved_calm : {T : Type 0} (before now : ℕ) (result : Result T JournalFault) → TellsCause before now result → IsStarved result → now ≡ before
starved_calm before now (Ok value) cause starved = absurd starved
starved_calm before now (Err (NotJournal at)) cause starved = cause
starved_calm before now (Err (Disk x y)) cause starved = absurd starved
starved_calm before now (Err (Full size need)) cause starved = cause
starved_calm before now (Err NoMemory) cause starved = cause

-- an open entry isn't free
not_bare : (b : Bool) (found : Option InboxEntry) (entry : InboxEntry) → b ≡ false → found ≡ Some entry → IsBare (if b then reply.Gone else entry_reply found) → ⊥
not_bare true found entry is there bare = absurd cc
not_bare false None entry is there bare = absurd cc
not_bare false (Some e) entry is there bare = bare

pub open_not_bare : (end : End) (n : ℕ) (entry : InboxEntry) → end.confirmed ≤ n → slice_get end.inbox n ≡ Some entry → IsBare (read_reply end n) → ⊥
unfolding read_reply
open_not_bare end n entry waits there bare = not_bare (nat_lt n end.confirmed) (slice_get end.inbox n) entry (le-ltb n end.confirmed waits) there bare

pub if_err_all : {T E : Type 0} {Q : E → Type 0} (result : Result T E) → ((error : E) → Q error) → IfErr result Q
if_err_all (Ok value) all = tt
if_err_all (Err error) all = all error

-- a `Read` that takes no memory replies without a message
pub free_read : (modes : List Mode) (end : End) (event : Event) (outcome : Outcome) (n : ℕ) → event.what ≡ what.Read n → Step modes end event outcome → IsFree outcome → IsBare (read_reply end n)
free_read modes end event outcome n asked step free =
    let row : Rests (read_reply end n) step.row = subst (λ (w : What). RowOf modes end event w step.row) asked step.decided in
    let rests : Rests (read_reply end n) outcome = rests_outcome end (read_reply end n) step.row outcome row step.limited in
    subst IsBare (ap (λ (o : Outcome). o.reply) rests) free.bare
