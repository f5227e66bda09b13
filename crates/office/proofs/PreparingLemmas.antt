-- A step that was prepared first is a step: nothing has changed but room, and the disk was read at most.
use Rattle.std.proofs.Common.{◌≡◌, ◌⊎◌, inl, inr, ⊎_elim, ℕ, ◌≤◌, ◌<◌, ◌^◌, Some, None, Result, Ok, Err, Option, Bool, true, false, List, [], ◌∷◌, ◌++◌, ◌+◌, is_some, length, refl, sym, ap, ◌∙◌, subst, arith}
use Rattle.std.specs.Prelude.{IfSome}
use Rattle.as4_disk.specs.declared.disk.Disk.{Ghosts as DiskMeaning}
use Rattle.as4_disk.specs.declared.fault_counts.FaultCounts.{FaultCounts}
use Rattle.as4_disk.specs.Image.{Image}
use Rattle.as4_disk.specs.Leaving.{LeavesOnly, Quiet}
use Rattle.as4_disk.proofs.RunLemmas.{quiet_then, then, weaken}
use Rattle.mode_values.specs.declared.mode.Mode.{Mode}
use Rattle.inbox.specs.Spots.{Spot}
use Rattle.msh_state.specs.Rooms.{Rooms}
use Rattle.as4_flow.specs.Flow.{Rose}
use Rattle.exchange_model.specs.End.{End}
use Rattle.exchange_model.specs.Table.{Step}
use Rattle.exchange_model.specs.declared.event.Event.{Event}
use Rattle.exchange_model.specs.declared.what.What.TheVariants as what
use Rattle.msh_core.specs.Machine.{IsReady, Machine, Planned}
use Rattle.msh_core.proofs.GivenLemmas.{read_step}
use Rattle.exchange_model.specs.declared.outcome.Outcome.{Outcome}
use Rattle.exchange_model.specs.declared.reply.Reply.{Reply}
use Rattle.exchange_model.specs.declared.reply.Reply.TheVariants as reply
use Rattle.msh_recovery.specs.Opens.{IsAt, KeepsEnd}
use Rattle.msh_recovery.proofs.OpenLemmas.{at_weaker}
use Rattle.office.specs.Calls.{LeadsWhere, stop_of}
use Rattle.office.specs.Left.{IsStepTo, OpensBeforeOrAfter}
use Rattle.office.specs.Observed.{RepliesToRead, StepWhere}
use Rattle.office.specs.Preparing.{FailsReading, OnlyReads, Prepared, Prepares, ReadsPayloads}
use Rattle.office.specs.State.{IsInOrder, OfficeState, TakesEvents, machine_of}
use Rattle.office.specs.Steps.{Enters, FailsToRead, FailsToRecord, Handles, Steps}
use Rattle.office.specs.declared.call.Call.{Call}
use Rattle.office.specs.declared.call.Call.TheVariants.{Done, Stop}
use Rattle.office.specs.declared.fault.OfficeFault.{OfficeFault}
use Rattle.office.specs.declared.fault.OfficeFault.TheVariants.{Disk, NoMemory, Stopped, Worn}
use Rattle.office.proofs.CallLemmas.{stop_leads}
use Rattle.office.proofs.HandlingLemmas.{enters, keeps, not_both, office}
use Rattle.office.proofs.StateLemmas.{order_keeps, still_run}
use Rattle.pass_book.specs.States.{Book, PassState}
use Rattle.journal.specs.declared.journal.Journal.{Journal}
use mathlib.Core.List.{IsPrefix}

module _ {D : Type 0} (M : DiskMeaning D) where
  pub seen_same : (event : Event) (old new : D) → OnlyReads M event old new → M.seen new ≡ M.seen old
  seen_same event old new (inl same) = ap M.seen same
  seen_same event old new (inr (number, asked, quiet)) = quiet.same

  -- the disk is read, and then read again
  pub reads_on : (event : Event) (old mid new : D) → OnlyReads M event old mid → OnlyReads M event mid new → OnlyReads M event old new
  reads_on event old mid new (inl same) next = subst (λ (d : D). OnlyReads M event d new) same next
  reads_on event old mid new (inr (number, asked, quiet)) (inl same) =
      subst (λ (d : D). OnlyReads M event old d) (sym same) (inr (number, asked, quiet))
  reads_on event old mid new (inr (number, asked, quiet)) (inr (other, also, next)) =
      inr (number, asked, quiet_then M old mid new quiet next)

  quiet_on : (event : Event) (old mid new : D) → OnlyReads M event old mid → Quiet M mid new → Quiet M old new
  quiet_on event old mid new (inl same) next = subst (λ (d : D). Quiet M d new) same next
  quiet_on event old mid new (inr (number, asked, quiet)) next = quiet_then M old mid new quiet next

  -- while a disk is read, a crash leaves the endpoint
  pub quiet_leaves : (modes : List Mode) (event : Event) (old new : D) (end : End) (image : Image) → KeepsEnd M old end → M.seen old ≡ Some image
      → Quiet M old new → LeavesOnly M old new (OpensBeforeOrAfter modes end event)
  quiet_leaves modes event old new end image safe told quiet =
      weaken M old new (M.may_leave old) (OpensBeforeOrAfter modes end event)
      (λ c left. inl (at_weaker (λ n. ⊥) (IsStepTo modes end event) c end (λ n none. absurd none) (safe image told c left)))
      quiet.run

  leaves_on : (modes : List Mode) (event : Event) (old mid new : D) (end : End) (image : Image) → KeepsEnd M old end → M.seen old ≡ Some image
      → OnlyReads M event old mid → LeavesOnly M mid new (OpensBeforeOrAfter modes end event)
      → LeavesOnly M old new (OpensBeforeOrAfter modes end event)
  leaves_on modes event old mid new end image safe told (inl same) next =
      subst (λ (d : D). LeavesOnly M d new (OpensBeforeOrAfter modes end event)) same next
  leaves_on modes event old mid new end image safe told (inr (number, asked, quiet)) next =
      then M old mid new (OpensBeforeOrAfter modes end event) (quiet_leaves modes event old mid end image safe told quiet) next

-- what a call finds is what was there before room was made and the disk was read
module _ {D : Type 0} (M : DiskMeaning D) (old new : OfficeState D) (disk : D) (rooms : Rooms) (pass_old pass_new : PassState Call) (event : Event) (read : OnlyReads M event old.disk disk) (calm : M.fault_count disk ≡ M.fault_count old.disk) (still : (TakesEvents old → ⊥) → disk ≡ old.disk) where
  abbrev ready : OfficeState D
  ready = record old { disk = disk; rooms = rooms }

  same_entry : (call : Call) → Enters ready new pass_old pass_new call → Enters old new pass_old pass_new call
  same_entry call is = record { room = is.room; seen = is.seen; list = is.list; whole = is.whole; share = is.share }

  same_outcome : (outcome : Outcome) → StepWhere (is_some (M.seen disk)) old.modes old.end event outcome → StepWhere (is_some (M.seen old.disk)) old.modes old.end event outcome
  same_outcome outcome step =
      subst (λ (o : Option Image). StepWhere (is_some o) old.modes old.end event outcome) (seen_same M event old.disk disk read) step

  same_cause : FailsToRecord M ready new pass_old pass_new event ⊎ FailsToRead M ready new pass_old pass_new event
      → FailsToRecord M old new pass_old pass_new event ⊎ FailsToRead M old new pass_old pass_new event
  same_cause (inl is) = inl (record {
    outcome = is.outcome;
    step = same_outcome is.outcome is.step;
    recorded = (is.recorded.0, reads_on M event old.disk disk is.recorded.0 read is.recorded.1, is.recorded.2);
  })
  same_cause (inr is) = inr (record { number = is.number; asked = is.asked; quiet = quiet_on M event old.disk disk new.disk read is.quiet; safe = is.safe })

  same_step : (result : Result Reply OfficeFault) → Steps M ready new pass_old pass_new event result → Steps M old new pass_old pass_new event result
  same_step (Ok r) is = record {
    going = is.going;
    outcome = is.outcome;
    step = same_outcome is.outcome is.step;
    reply = is.reply;
    end = is.end;
    recorded = (is.recorded.0, reads_on M event old.disk disk is.recorded.0 read is.recorded.1, is.recorded.2);
    kept = is.kept;
    entered = same_entry (Done event r) is.entered;
  }
  same_step (Err (Disk before after)) is = record {
    stops = record {
      going = is.stops.going;
      end = is.stops.end;
      old_count = is.stops.old_count ∙ calm;
      new_count = is.stops.new_count;
      rose = is.stops.rose;
      entered = same_entry (Stop (Some event) (record { before = before; after = after })) is.stops.entered;
    };
    cause = same_cause is.cause;
  }
  same_step (Err (Stopped before after)) is = (
    record {
      stopped = is.0.stopped;
      end = is.0.end;
      disk = is.0.disk ∙ still (λ takes. not_both (stop_of old.list) (record { before = before; after = after }) is.0.stopped takes.1);
    },
    same_entry (Done event (reply.Stopped before after)) is.1,
  )
  same_step (Err Worn) is = record {
    full = is.full;
    seen = is.seen;
    list = is.list;
    end = is.end;
    disk = is.disk ∙ still (λ takes. full_list takes.0 is.full);
    pass = is.pass;
  }
    where
      full_list : length old.list < 2 ^ 63 → length old.list ≡ 2 ^ 63 → ⊥
      full_list room full = omega (arith, room, full)
  same_step (Err NoMemory) is =
      (record { list = is.0.list; end = is.0.end; pass = is.0.pass }, reads_on M event old.disk disk new.disk read is.1)

  pub same_handling : (result : Result Reply OfficeFault) → (stop_of old.list ≡ None → KeepsEnd M old.disk old.end)
      → Handles M ready new pass_old pass_new event result → Handles M old new pass_old pass_new event result
  same_handling result safe is =
      let seen = seen_same M event old.disk disk read in
      record {
        answer = same_step result is.answer;
        any_moment = λ going image told. leaves_on M old.modes event old.disk disk new.disk old.end image (safe going) told read (is.any_moment going image (seen ∙ told));
        keeps = record {
          modes = is.keeps.modes;
          book = is.keeps.book;
          pass_book = is.keeps.pass_book;
          stake = is.keeps.stake;
          legal = λ start leads. subst (λ (o : Option Image). LeadsWhere (is_some o) old.modes start new.list new.end) seen
              (is.keeps.legal start (subst (λ (o : Option Image). LeadsWhere (is_some o) old.modes start old.list old.end) (sym seen) leads));
          safe = is.keeps.safe;
          left = is.keeps.left;
          tells = is.keeps.tells ∙ ap (λ (o : Option Image). is_some o) seen;
          calm = λ none. is.keeps.calm none ∙ calm;
          counted = subst (λ (n : ℕ). n ≤ M.fault_count new.disk) calm is.keeps.counted;
        };
      }

-- what is done with a step that was prepared is done with its event
pub prepared_handling : {D : Type 0} (M : DiskMeaning D) (first old new : OfficeState D) (pass_old pass_new : PassState Call) (ready : Prepared) (result : Result Reply OfficeFault)
    → Prepares M first old ready → ready.failed ≡ None → Handles M old new pass_old pass_new ready.event result → Handles M first new pass_old pass_new ready.event result
prepared_handling {D} M first old new pass_old pass_new ready result prepares none handles =
    same_handling M first new old.disk old.rooms pass_old pass_new ready.event prepares.read (prepares.calm none) prepares.still result prepares.safe
    (subst (λ (o : OfficeState D). Handles M o new pass_old pass_new ready.event result) prepares.same handles)

-- an office by its parts, of which only disk and rooms differ
abbrev pub before : {D : Type 0} → OfficeState D → D → Rooms → OfficeState D
before old disk rooms = record old { disk = disk; rooms = rooms }

-- what was there before is what is there now, but for disk and rooms
pub was_before : {D : Type 0} (first old : OfficeState D) → old ≡ record first { disk = old.disk; rooms = old.rooms } → before old first.disk first.rooms ≡ first
was_before {D} first old same = ap (λ (o : OfficeState D). before o first.disk first.rooms) same

module _ {D : Type 0} {M : DiskMeaning D} {journal : Journal D} {end : End} {places : List Spot} {modes : List Mode} {halt : Option FaultCounts} {list : List Call} (order : IsInOrder M journal end places modes halt list) (rooms : Rooms) (book : Book) (event : Event) where
  abbrev here : OfficeState D
  here = office journal end places modes rooms book list

  -- nothing is done
  pub does_nothing : (only_now : (disk : D) (c : Image) → M.left_since disk (M.moment disk) c → M.may_leave disk c) (pass : PassState Call) → Handles M here here pass pass event (Err NoMemory)
  does_nothing only_now pass = record {
    answer = (record { list = refl; end = refl; pass = refl }, inl refl);
    any_moment = λ going image told. still_run only_now (order.kept (order.halted ∙ going)).is modes event image told;
    keeps = keeps order refl refl refl (λ start leads. leads) refl (λ none. refl) (omega arith);
  }

  -- the disk failed when it was read, and the office stands still from now on
  pub stop_handling : (disk : D) (others : Rooms) (more : List Call) (at : FaultCounts) (pass passed : PassState Call) (later : Book) → later ≡ book → FailsReading M (before here disk others) here event at
      → IsPrefix pass.list list → more ≡ list ++ Stop (Some event) at ∷ [] → passed ≡ record pass { list = more; share = pass.share + 1 } → IsInOrder M journal end places modes (Some at) more
      → Handles M (before here disk others) (office journal end places modes rooms later more) pass passed event (Err (Disk at.before at.after))
  stop_handling disk others more at pass passed later books fails seen is passes now = record {
    answer = record {
      stops = record {
        going = fails.going.1;
        end = refl;
        old_count = fails.old_count;
        new_count = fails.new_count;
        rose = fails.rose;
        entered = enters (Stop (Some event) at) fails.going.0 seen is passes;
      };
      cause = inr (record { number = fails.number; asked = fails.asked; quiet = fails.quiet; safe = order_keeps order fails.going.1 });
    };
    any_moment = λ going image told. quiet_leaves M modes event disk journal.disk end image fails.safe told fails.quiet;
    keeps = keeps now refl books passes
        (stop_leads (is_some (M.seen disk)) modes list more (Some event) at end fails.going.1 is fails.rose) (ap (λ (o : Option Image). is_some o) fails.quiet.same)
        (λ none. absurd (not_both (Some at) at refl none)) (omega (arith, fails.old_count, fails.new_count, fails.grew));
  }

module _ {D : Type 0} (M : DiskMeaning D) (first old : OfficeState D) (ready : Prepared) (prepares : Prepares M first old ready) where
  -- the outcome is the event's, as things are now
  pub prepared_step : ready.failed ≡ None → TakesEvents old → StepWhere (is_some (M.seen old.disk)) old.modes old.end ready.event ready.plan.outcome
  prepared_step none takes =
      let P : OfficeState D → Type 0 = λ o. TakesEvents o → StepWhere (is_some (M.seen old.disk)) o.modes o.end ready.event ready.plan.outcome in
      let Q : Option Image → Type 0 = λ s. StepWhere (is_some s) first.modes first.end ready.event ready.plan.outcome in
      let seen = seen_same M ready.event first.disk old.disk prepares.read in
      subst P (sym prepares.same) (λ going. subst Q (sym seen) (prepares.step going none)) takes

  -- the disk failed when it was read
  pub prepared_stop : (at : FaultCounts) → ready.failed ≡ Some at → FailsReading M first old ready.event at
  prepared_stop at failed =
      let P : Option FaultCounts → Type 0 = λ f. IfSome f (λ at. FailsReading M first old ready.event at × (ready.plan.outcome.reply ≡ reply.Stopped at.before at.after)) in
      (subst P failed prepares.failed).0

-- what a machine is, by its parts
pub machine_is : (machine : Machine) (end : End) (places : List Spot) (modes : List Mode) → machine.end ≡ end → machine.places ≡ places → machine.modes ≡ modes
    → machine ≡ record { end = end; places = places; modes = modes; rooms = machine.rooms }
machine_is machine end places modes ends placed moded = λ i. record { end = ends i; places = placed i; modes = moded i; rooms = machine.rooms }

module _ {D : Type 0} {M : DiskMeaning D} {journal : Journal D} {end : End} {places : List Spot} {modes : List Mode} {halt : Option FaultCounts} {list : List Call} (order : IsInOrder M journal end places modes halt list) (only_now : (disk : D) (c : Image) → M.left_since disk (M.moment disk) c → M.may_leave disk c) (rooms others : Rooms) (book : Book) (event : Event) where
  -- There was no memory. The disk was read at most.
  pub starves : (after : Journal D) → IsInOrder M after end places modes halt list → OnlyReads M event journal.disk after.disk → M.fault_count after.disk ≡ M.fault_count journal.disk
      → ((TakesEvents (office journal end places modes rooms book list) → ⊥) → after.disk ≡ journal.disk) → (pass : PassState Call)
      → Handles M (office journal end places modes rooms book list) (office after end places modes others book list) pass pass event (Err NoMemory)
  starves after now read calm still pass =
      same_handling M (office journal end places modes rooms book list) (office after end places modes others book list) after.disk others pass pass event read calm still (Err NoMemory)
      (order_keeps order) (does_nothing now others book event only_now pass)

-- the table's outcome is known whether or not the disk is observable
pub step_where : (observable : Bool) (modes : List Mode) (end : End) (event : Event) (outcome : Outcome) → Step modes end event outcome → StepWhere observable modes end event outcome
step_where true modes end event outcome step = step
step_where false modes end event outcome step = inl step

-- a `Read` has the reply that it is to have, and nothing changes
pub read_where : (observable : Bool) (modes : List Mode) (end : End) (event : Event) (number : ℕ) (outcome : Outcome) → event.what ≡ what.Read number → outcome.effects ≡ []
    → RepliesToRead observable end number outcome.reply → StepWhere observable modes end event outcome
read_where true modes end event number outcome asked rests is =
    read_step modes end event outcome number asked (λ i. record { effects = rests i; reply = is i })
read_where false modes end event number outcome asked rests is = inr (record { number = number; asked = asked; rests = rests; reply = is })

-- an event that isn't a `Read`
pub prepares_step : {D : Type 0} (M : DiskMeaning D) (old : OfficeState D) (rooms : Rooms) (event : Event) (plan : Planned)
    → ((number : ℕ) → event.what ≡ what.Read number → ⊥) → Step old.modes old.end event plan.outcome → IsReady (machine_of (record old { rooms = rooms })) plan
    → (stop_of old.list ≡ None → KeepsEnd M old.disk old.end) → Prepares M old (record old { rooms = rooms }) (record { event = event; plan = plan; failed = None })
prepares_step M old rooms event plan other step ready safe = record {
  same = refl;
  read = inl refl;
  planned = ready;
  step = λ takes none. step_where (is_some (M.seen old.disk)) old.modes old.end event plan.outcome step;
  failed = tt;
  still = λ stopped. refl;
  refused = refuses (stop_of old.list);
  calm = λ none. refl;
  safe = safe;
}
  where
    refuses : (halt : Option FaultCounts) → IfSome halt (λ at. (number : ℕ) → event.what ≡ what.Read number → plan.outcome.reply ≡ reply.Stopped at.before at.after)
    refuses None = tt
    refuses (Some at) = λ number asked. absurd (other number asked)

-- a `Read` whose payloads were read, or not
pub prepares_read : {D : Type 0} (M : DiskMeaning D) (old new : OfficeState D) (event : Event) (number : ℕ) (plan : Planned) (failed : Option FaultCounts)
    → event.what ≡ what.Read number → ReadsPayloads M old new number plan failed → Prepares M old new (record { event = event; plan = plan; failed = failed })
prepares_read {D} M old new event number plan failed asked reads = record {
  same = subst (λ (o : OfficeState D). o ≡ record old { disk = o.disk; rooms = o.rooms }) (sym reads.same) refl;
  read = ⊎_elim (λ same. inl same) (λ quiet. inr (number, asked, quiet)) reads.read;
  planned = subst (λ (o : OfficeState D). IsReady (machine_of o) plan) (sym reads.same) reads.planned;
  step = λ takes none. read_where (is_some (M.seen old.disk)) old.modes old.end event number plan.outcome asked reads.rests (reads.replies takes none);
  failed = fails failed reads.counted;
  still = reads.still;
  refused = refuses (stop_of old.list) reads.refused;
  calm = reads.calm;
  safe = reads.safe;
}
  where
    refuses : (halt : Option FaultCounts) → IfSome halt (λ at. plan.outcome.reply ≡ reply.Stopped at.before at.after)
        → IfSome halt (λ at. (other : ℕ) → event.what ≡ what.Read other → plan.outcome.reply ≡ reply.Stopped at.before at.after)
    refuses None is = tt
    refuses (Some at) is = λ other same. is

    fails : (f : Option FaultCounts) → IfSome f (λ at. TakesEvents old × Quiet M old.disk new.disk × (at.before ≡ M.fault_count old.disk)
        × (at.after ≡ M.fault_count new.disk) × (at.before ≤ at.after) × Rose at.before at.after × (plan.outcome.reply ≡ reply.Stopped at.before at.after))
        → IfSome f (λ at. FailsReading M old new event at × (plan.outcome.reply ≡ reply.Stopped at.before at.after))
    fails None is = tt
    fails (Some at) is = (
      record {
        number = number;
        asked = asked;
        going = is.0;
        same = subst (λ (o : OfficeState D). o ≡ record old { disk = o.disk; rooms = o.rooms }) (sym reads.same) refl;
        quiet = is.1;
        old_count = is.2;
        new_count = is.3;
        grew = is.4;
        rose = is.5;
        safe = reads.safe is.0.1;
      },
      is.6,
    )

-- room was made, and then the step was prepared
roomy_failure : {D : Type 0} (M : DiskMeaning D) (old new : OfficeState D) (rooms : Rooms) (event : Event) (r : Reply) (failed : Option FaultCounts)
    → IfSome failed (λ at. FailsReading M (record old { rooms = rooms }) new event at × (r ≡ reply.Stopped at.before at.after))
    → IfSome failed (λ at. FailsReading M old new event at × (r ≡ reply.Stopped at.before at.after))
roomy_failure M old new rooms event r None is = tt
roomy_failure M old new rooms event r (Some at) (fails, is) = (
  record {
    number = fails.number;
    asked = fails.asked;
    going = fails.going;
    same = fails.same;
    quiet = fails.quiet;
    old_count = fails.old_count;
    new_count = fails.new_count;
    grew = fails.grew;
    rose = fails.rose;
    safe = fails.safe;
  },
  is,
)

pub roomy_prepares : {D : Type 0} (M : DiskMeaning D) (old new : OfficeState D) (rooms : Rooms) (ready : Prepared) → Prepares M (record old { rooms = rooms }) new ready → Prepares M old new ready
roomy_prepares M old new rooms ready is = record {
  same = is.same;
  read = is.read;
  planned = is.planned;
  step = is.step;
  failed = roomy_failure M old new rooms ready.event ready.plan.outcome.reply ready.failed is.failed;
  still = is.still;
  refused = is.refused;
  calm = is.calm;
  safe = is.safe;
}

pub roomy_handling : {D : Type 0} (M : DiskMeaning D) (old new : OfficeState D) (rooms : Rooms) (pass passed : PassState Call) (event : Event) (result : Result Reply OfficeFault)
    → (stop_of old.list ≡ None → KeepsEnd M old.disk old.end) → Handles M (record old { rooms = rooms }) new pass passed event result → Handles M old new pass passed event result
roomy_handling M old new rooms pass passed event result safe handles =
    same_handling M old new old.disk rooms pass passed event (inl refl) refl (λ stopped. refl) result safe handles
