-- What an office keeps, call by call.
use Rattle.std.proofs.Common.{◌≡◌, inl, inr, ℕ, ◌≤◌, List, [], ◌∷◌, ◌++◌, Option, Some, None, is_some, refl, sym, ap, ◌∙◌, subst, arith}
use Rattle.std.specs.Prelude.{IfSome}
use Rattle.as4_disk.specs.declared.disk.Disk.{Ghosts as DiskMeaning}
use Rattle.as4_disk.specs.Image.{Image}
use Rattle.as4_disk.specs.Leaving.{LeavesOnly}
use Rattle.as4_disk.proofs.RunLemmas.{weaken}
use Rattle.as4_flow.specs.Flow.{Rose, Told}
use Rattle.mode_values.specs.declared.mode.Mode.{Mode}
use Rattle.exchange_model.specs.Apply.{applied}
use Rattle.exchange_model.specs.End.{End}
use Rattle.exchange_model.specs.Table.{Step}
use Rattle.exchange_model.specs.declared.event.Event.{Event}
use Rattle.exchange_model.specs.declared.outcome.Outcome.{Outcome}
use Rattle.exchange_model.specs.declared.reply.Reply.{Reply}
use Rattle.journal.specs.declared.journal.Journal.{Journal}
use Rattle.inbox.specs.Spots.{Spot}
use Rattle.msh_journal.specs.Payloads.{IsJournalWith}
use Rattle.msh_recovery.specs.Opens.{IsAt, IsAtOneOf, IsFoldedOf, IsJournalOf, KeepsEnd, OpensFolded}
use Rattle.msh_recovery.proofs.OpenLemmas.{at_weaker, kept_opens}
use Rattle.office.specs.Calls.{stop_of}
use Rattle.msh_core.specs.Machine.{Machine}
use Rattle.office.specs.Observed.{StepWhere}
use Rattle.office.specs.Recording.{HasOutcome, HasReply}
use Rattle.office.specs.State.{IsInOrder}
use Rattle.office.specs.declared.step_to_make.StepToMake.{StepToMake}
use Rattle.office.specs.declared.step_to_make.StepToMake.TheVariants.{Planned, WithoutMemory}
use Rattle.office.specs.Left.{IsLeft, IsStepTo, OpensBeforeOrAfter}
use Rattle.office.specs.declared.call.Call.{Call}
use Rattle.office.specs.declared.call.Call.TheVariants.{Done, Stop}
use Rattle.as4_disk.specs.declared.fault_counts.FaultCounts.{FaultCounts}
use Rattle.office.proofs.CallLemmas.{left_going, left_kept, left_more, stop_kept, stop_more}
use Rattle.office.proofs.WritingLemmas.{no_write}

module _ {D : Type 0} {M : DiskMeaning D} where
  module _ {journal : Journal D} {end : End} {places : List Spot} {modes : List Mode} {halt : Option FaultCounts} {list : List Call} (order : IsInOrder M journal end places modes halt list) where
    -- without a fault among the calls each crash leaves the end
    pub order_keeps : stop_of list ≡ None → KeepsEnd M journal.disk end
    order_keeps going = kept_opens M end journal (order.kept (order.halted ∙ going)).is

    no_halt : (after : Journal D) → halt ≡ None → IfSome halt (λ at. Rose at.before at.after × (at.after ≤ M.fault_count after.disk))
    no_halt after going =
        subst (λ (h : Option FaultCounts). IfSome h (λ at. Rose at.before at.after × (at.after ≤ M.fault_count after.disk))) (sym going) tt

    -- a call that isn't a fault
    pub order_goes : (after : Journal D) (next : End) (later : List Spot) (more : List Call) (call : Call) → halt ≡ None → more ≡ list ++ call ∷ [] → stop_of (call ∷ []) ≡ None
        → IsJournalWith M next later after → IsInOrder M after next later modes halt more
    order_goes after next later more call going is plain kept =
        let goes : stop_of more ≡ None = ap stop_of is ∙ stop_more list call (sym order.halted ∙ going) ∙ plain in
        record {
          halted = going ∙ sym goes;
          kept = λ same. kept;
          left = λ image told c may. left_going modes next more c goes (kept_opens M next after kept.is image told c may);
          counted = no_halt after going;
        }

    -- nothing but the disk has changed
    pub order_stays : (after : Journal D) → halt ≡ None → IsJournalWith M end places after → IsInOrder M after end places modes halt list
    order_stays after going kept = record {
      halted = order.halted;
      kept = λ same. kept;
      left = λ image told c may. left_going modes end list c (sym order.halted ∙ going) (kept_opens M end after kept.is image told c may);
      counted = no_halt after going;
    }

    -- the disk failed
    pub order_stops : (after : Journal D) (more : List Call) (event : Option Event) (at : FaultCounts) → halt ≡ None → more ≡ list ++ Stop event at ∷ []
        → Rose at.before at.after → at.after ≡ M.fault_count after.disk
        → Told (M.seen after.disk) (λ _. (c : Image) → M.may_leave after.disk c → IsLeft modes end (Stop event at ∷ []) c)
        → IsInOrder M after end places modes (Some at) more
    order_stops after more event at going is rose count left = record {
      halted = sym (ap stop_of is ∙ stop_more list (Stop event at) (sym order.halted ∙ going));
      kept = λ same. absurd cc;
      left = λ image told c may. subst (λ (l : List Call). IsLeft modes end l c) (sym is)
          (left_more modes end list (Stop event at) c (sym order.halted ∙ going) (left image told c may));
      counted = (rose, omega (arith, count));
    }

    -- when it was only read, a crash leaves the endpoint
    pub reads_left : halt ≡ None → (event : Event) (at : FaultCounts)
        → Told (M.seen journal.disk) (λ _. (c : Image) → M.may_leave journal.disk c → IsLeft modes end (Stop (Some event) at ∷ []) c)
    reads_left going event at image told c may =
        inl (at_weaker (λ n. ⊥) (IsStepTo modes end event) c end (λ n none. absurd none)
        (order_keeps (sym order.halted ∙ going) image told c may))

    -- it failed before
    pub order_refuses : (more : List Call) (event : Event) (r : Reply) (at : FaultCounts) → halt ≡ Some at → more ≡ list ++ Done event r ∷ []
        → IsInOrder M journal end places modes halt more
    order_refuses more event r at stopped is = record {
      halted = stopped ∙ sym (ap stop_of is ∙ stop_kept list (Done event r) at (sym order.halted ∙ stopped));
      kept = λ same. absurd cc;
      left = λ image told c may. subst (λ (l : List Call). IsLeft modes end l c) (sym is)
          (left_kept modes end list (Done event r) at c (sym order.halted ∙ stopped) (order.left image told c may));
      counted = order.counted;
    }

-- nothing is written
module _ {D : Type 0} {M : DiskMeaning D} (only_now : (disk : D) (c : Image) → M.left_since disk (M.moment disk) c → M.may_leave disk c) {journal : Journal D} {end : End} (is : IsJournalOf M end journal) where
  pub still_run : (modes : List Mode) (event : Event) (image : Image) → M.seen journal.disk ≡ Some image → LeavesOnly M journal.disk journal.disk (OpensBeforeOrAfter modes end event)
  still_run modes event image told =
      no_write M only_now journal end (IsStepTo modes end event) (λ c. (next : End) × IsStepTo modes end event next × IsAt c next) image is told

  pub still_folded : (image : Image) → M.seen journal.disk ≡ Some image → LeavesOnly M journal.disk journal.disk (λ c. OpensFolded c end)
  still_folded image told = no_write M only_now journal end (λ next. ⊥) (λ c. IsFoldedOf c end) image is told

-- where the disk is observable, the outcome is the table's
pub step_seen : {modes : List Mode} {end : End} {event : Event} {outcome : Outcome} {image : Image} (seen : Option Image) → seen ≡ Some image
    → StepWhere (is_some seen) modes end event outcome → Step modes end event outcome
step_seen (Some here) told step = step
step_seen None told step = absurd cc

-- the plan shows the reply
pub has_reply : (machine : Machine) (outcome : Outcome) (step : StepToMake) (r : Reply) → HasOutcome machine outcome step → r ≡ outcome.reply → HasReply step r
has_reply machine outcome (Planned plan frame) r has is = is ∙ ap (λ (o : Outcome). o.reply) (sym has.0)
has_reply machine outcome (WithoutMemory plan) r has is = tt

-- a step's record is written
pub step_run : {D : Type 0} {M : DiskMeaning D} {modes : List Mode} {event : Event} {outcome : Outcome} {old new : D} {end : End} → Step modes end event outcome
    → LeavesOnly M old new (λ c. IsAtOneOf c end (applied outcome.effects end)) → LeavesOnly M old new (OpensBeforeOrAfter modes end event)
step_run {D} {M} {modes} {event} {outcome} {old} {new} {end} step run =
    weaken M old new (λ c. IsAtOneOf c end (applied outcome.effects end)) (OpensBeforeOrAfter modes end event) before_or_after run
  where
    before_or_after : (c : Image) → IsAtOneOf c end (applied outcome.effects end) → OpensBeforeOrAfter modes end event c
    before_or_after c (inl here) = inl (at_weaker (λ n. n ≡ applied outcome.effects end) (IsStepTo modes end event) c end (λ n is. (outcome, step, is)) here)
    before_or_after c (inr there) = inr (applied outcome.effects end, (outcome, step, refl), there)
