-- A step stands by its gate: from the contracts of an office's calls.
use Rattle.std.proofs.Common.{◌≡◌, ℕ, ◌⊎◌, inl, inr, List, [], ◌∷◌, length, take, ◌≤◌, Bool, true, false, Option, Some, None, Result, Ok, Err, refl, sym, ap, ◌∙◌, subst}
use Rattle.std.specs.Prelude.{◌≢◌, drop, is_some}
use Rattle.std.specs.Option.{option_or}
use Rattle.std.proofs.lemmas.Bool.{false≢true}
use Rattle.as4_disk.specs.Changes.{LeftOf, LeftSince}
use Rattle.as4_disk.specs.Image.{Image}
use Rattle.as4_disk.specs.Memory.{DiskState}
use Rattle.as4_disk.specs.MemoryMeaning.{memory_meaning}
use Rattle.as4_disk.specs.declared.disk.Disk.{Ghosts as DiskMeaning}
use Rattle.as4_disk.specs.declared.fault_counts.FaultCounts.{FaultCounts}
use Rattle.mode_values.specs.declared.mode.Mode.{Mode}
use Rattle.exchange_model.specs.Apply.{applied}
use Rattle.exchange_model.specs.End.{End}
use Rattle.exchange_model.specs.Table.{Step}
use Rattle.exchange_model.specs.declared.event.Event.{Event}
use Rattle.exchange_model.specs.declared.outcome.Outcome.{Outcome}
use Rattle.exchange_model.specs.declared.reply.Reply.{Reply}
use Rattle.exchange_model.specs.declared.what.What.TheVariants as what
use Rattle.journal.specs.Leaf.{frame_of}
use Rattle.msh_recovery.specs.Opens.{IsAt, IsAtWith, OpensAs, ReadsAs}
use Rattle.msh_recovery.proofs.OpenLemmas.{opens_weaker}
use Rattle.office.specs.Calls.{stop_of}
use Rattle.office.specs.Left.{IsLeft, IsStepTo, OpensBeforeOrAfter}
use Rattle.office.specs.Observed.{StepWhere}
use Rattle.office.specs.Preparing.{OnlyReads}
use Rattle.office.specs.Recording.{IsRecorded, Writes}
use Rattle.office.specs.State.{OfficeState}
use Rattle.office.specs.Steps.{FailsToRead, FailsToRecord, Handles, Steps}
use Rattle.office.specs.declared.call.Call.{Call}
use Rattle.office.specs.declared.call.Call.TheVariants.{Done, Folded, Stop}
use Rattle.office.specs.declared.fault.OfficeFault.{OfficeFault}
use Rattle.office.specs.declared.fault.OfficeFault.TheVariants.{Disk, NoMemory, Stopped, Worn}
use Rattle.pass_book.specs.States.{PassState}
use Rattle.history_laws.specs.Gates.{IsFound, IsGated, IsUntouched, Stands, StepsByGate, WaitsForGate}
use Rattle.history_laws.proofs.FollowingLemmas.{stop_both}
use Rattle.history_laws.proofs.MemoryGateLemmas.{before_gate, four_changes}
use Rattle.history_laws.proofs.UnseenLemmas.{read_shows}

-- a `Read` has no effects
read_rests : (observable : Bool) (modes : List Mode) (end : End) (event : Event) (outcome : Outcome) (n : ℕ) → event.what ≡ what.Read n
    → StepWhere observable modes end event outcome → outcome.effects ≡ []
read_rests true modes end event outcome n asked step = ap (λ (o : Outcome). o.effects) (read_shows modes end event outcome n asked step)
read_rests false modes end event outcome n asked (inl step) = ap (λ (o : Outcome). o.effects) (read_shows modes end event outcome n asked step)
read_rests false modes end event outcome n asked (inr read) = read.rests

-- so a call whose step has effects writes its record first
writes_first : {D : Type 0} (M : DiskMeaning D) (old disk new : D) (modes : List Mode) (end : End) (event : Event) (outcome : Outcome) (ok : Bool)
    → StepWhere (is_some (M.seen old)) modes end event outcome → outcome.effects ≢ [] → OnlyReads M event old disk
    → IsRecorded M disk new end outcome ok → Writes M old new end (applied outcome.effects end) ok
writes_first M old disk new modes end event outcome ok step some only (inl rests) = absurd (some rests.0)
writes_first M old disk new modes end event outcome ok step some (inl same) (inr writes) =
    subst (λ d. Writes M d new end (applied outcome.effects end) ok) same writes.1
writes_first M old disk new modes end event outcome ok step some (inr reads) (inr writes) =
    absurd (some (read_rests (is_some (M.seen old)) modes end event outcome reads.0 reads.1 step))

-- the same where the record wasn't written whole, for an event that isn't a `Read`
fails_first : {D : Type 0} (M : DiskMeaning D) (old disk new : D) (end : End) (event : Event) (outcome : Outcome)
    → ((n : ℕ) → event.what ≡ what.Read n → ⊥) → OnlyReads M event old disk → IsRecorded M disk new end outcome false
    → Writes M old new end (applied outcome.effects end) false
fails_first M old disk new end event outcome other only (inl rests) = absurd (false≢true rests.2)
fails_first M old disk new end event outcome other (inl same) (inr writes) =
    subst (λ d. Writes M d new end (applied outcome.effects end) false) same writes.1
fails_first M old disk new end event outcome other (inr reads) (inr writes) = absurd (other reads.0 reads.1)

-- what was left at this moment
left_at : (disk : DiskState) (start moment : ℕ) (c : Image) → start ≤ moment → moment ≤ length disk.changes
    → LeftOf disk.first (take moment disk.changes) c → LeftSince disk.first disk.changes start c
unfolding LeftSince
left_at disk start moment c from to left = (moment, from, to, left)

module _ (one : (image : Image) (a b : End) → ReadsAs image a → ReadsAs image b → a ≡ b) (reads_whole : (image : Image) (end : End) → OpensAs image end → ReadsAs image end) where
  at_found_with : (image : Image) (end : End) (P : End → Type 0) → IsAtWith image end P → IsFound image end
  at_found_with image end P at =
      let reads : ReadsAs image end = reads_whole image end (opens_weaker P (λ n. Unit {0}) image end (λ n has. tt) at.0) in
      record { reads = reads; only = λ other same. one image end other reads same }

  at_found : (image : Image) (end : End) → IsAt image end → IsFound image end
  at_found image end at = at_found_with image end (λ n. ⊥) at

  -- after calls without a fault the end that they led to is found
  pub calls_found : (modes : List Mode) (calls : List Call) (end : End) (image : Image) → stop_of calls ≡ None → IsLeft modes end calls image
      → IsFound image end
  calls_found modes [] end image going at = at_found image end at
  calls_found modes (Done event r ∷ calls) end image going left = calls_found modes calls end image going left
  calls_found modes (Folded size ∷ calls) end image going left = calls_found modes calls end image going left
  calls_found modes (Stop event halt ∷ calls) end image going left = absurd cc

  module _ {D : Type 0} (M : DiskMeaning D) (old new : OfficeState D) (pass_old pass_new : PassState Call) where
    gated : (ok : Bool) (next : End) → Writes M old.disk new.disk old.end next ok → IsGated M old.disk new.disk old.end next ok
    gated ok next writes = record {
      part = writes.part;
      gate = writes.gate;
      body = writes.body;
      calls = writes.calls;
      before = λ image told c d left torn. at_found d old.end ((writes.puts image told).before c d left torn);
      passed = λ image told c d e left written opened. at_found e next ((writes.puts image told).opened c d e left written opened);
    }

    -- a call that was refused changes nothing
    refused_end : (event : Event) (fault : OfficeFault) → Steps M old new pass_old pass_new event (Err fault) → new.end ≡ old.end
    refused_end event (Disk before after) answer = answer.stops.end
    refused_end event (Stopped before after) answer = answer.0.end
    refused_end event Worn answer = answer.end
    refused_end event NoMemory answer = answer.0.end

    -- what only reads writes nothing; nor does a step without effects, or a call that was refused, unless the disk failed
    only_read : (event : Event) (disk : D) → OnlyReads M event old.disk disk → IsUntouched M old.disk disk
    only_read event disk (inl same) = inl same
    only_read event disk (inr reads) = inr reads.2

    unwritten : (event : Event) (outcome : Outcome) → outcome.effects ≡ [] → (disk : D) → OnlyReads M event old.disk disk
        → IsRecorded M disk new.disk old.end outcome true → IsUntouched M old.disk new.disk
    unwritten event outcome none disk only (inl rests) = subst (IsUntouched M old.disk) (sym rests.1) (only_read event disk only)
    unwritten event outcome none disk only (inr writes) = absurd (writes.0 none)

    untouched : (event : Event) (fault : OfficeFault) → Steps M old new pass_old pass_new event (Err fault) → stop_of new.list ≡ None
        → IsUntouched M old.disk new.disk
    untouched event (Disk before after) answer going = absurd (stopped (sym going ∙ ap stop_of answer.stops.entered.list ∙ stop_both old.list _))
      where
        halt : FaultCounts
        halt = record { before = before; after = after }

        stopped : None ≡ option_or (stop_of old.list) (Some halt) → ⊥
        stopped e =
            let last : None ≡ option_or None (Some halt) = subst (λ (o : Option FaultCounts). None ≡ option_or o (Some halt)) answer.stops.going e in
            absurd cc
    untouched event (Stopped before after) answer going = inl answer.0.disk
    untouched event Worn answer going = inl answer.disk
    untouched event NoMemory answer going = only_read event new.disk answer.1

    pub stands : (event : Event) (result : Result Reply OfficeFault) → Handles M old new pass_old pass_new event result → Stands M old new event result
    stands event (Ok r) handles =
        let replies = handles.answer in
        record {
          outcome = replies.outcome;
          step = replies.step;
          reply = replies.reply;
          found = λ image told c left.
              at_found c (applied replies.outcome.effects old.end) (subst (IsAt c) replies.end (replies.kept image told c left));
          rests = λ none. unwritten event replies.outcome none replies.recorded.0 replies.recorded.1 replies.recorded.2;
          gated = λ some.
              gated true (applied replies.outcome.effects old.end)
              (writes_first M old.disk replies.recorded.0 new.disk old.modes old.end event replies.outcome true replies.step some replies.recorded.1 replies.recorded.2);
        }
    stands event (Err fault) handles = λ going. (
      untouched event fault handles.answer going,
      λ image told c left. at_found c old.end (subst (IsAt c) (refused_end event fault handles.answer) (handles.keeps.safe going image told c left)),
    )

  -- over a disk in memory
  module _ (one_outcome : (modes : List Mode) (end : End) (event : Event) (a b : Outcome) → Step modes end event a → Step modes end event b → a ≡ b) (old new : OfficeState DiskState) (pass_old pass_new : PassState Call) where
    waits : (ok : Bool) (next : End) → Writes memory_meaning old.disk new.disk old.end next ok → WaitsForGate old.disk new.disk old.end
    waits ok next writes =
        before_gate (λ c. IsFound c old.end) writes.part writes.gate (drop 1 (frame_of writes.body)) old.disk new.disk ok writes.calls
        (λ c d left torn. at_found d old.end ((writes.puts _ refl).before c d left torn))

    either_found : (event : Event) (outcome : Outcome) (image : Image) → Step old.modes old.end event outcome
        → OpensBeforeOrAfter old.modes old.end event image → IsFound image old.end ⊎ IsFound image (applied outcome.effects old.end)
    either_found event outcome image step (inl at) = inl (at_found_with image old.end (IsStepTo old.modes old.end event) at)
    either_found event outcome image step (inr (next, to, at)) =
        let same : applied to.0.effects old.end ≡ applied outcome.effects old.end =
        ap (λ (o : Outcome). applied o.effects old.end) (one_outcome old.modes old.end event to.0 outcome to.1 step) in
        inr (at_found image (applied outcome.effects old.end) (subst (IsAt image) (to.2 ∙ same) at))

    pub by_gate : (event : Event) (r : Reply) → Handles memory_meaning old new pass_old pass_new event (Ok r) → StepsByGate old new event r
    by_gate event r handles =
        let replies = handles.answer in
        let next : End = applied replies.outcome.effects old.end in
        record {
          outcome = replies.outcome;
          step = replies.step;
          reply = replies.reply;
          by_gate = λ some.
              let writes = writes_first memory_meaning old.disk replies.recorded.0 new.disk old.modes old.end event replies.outcome true replies.step some replies.recorded.1 replies.recorded.2 in
              record {
                four = four_changes (λ c. IsFound c old.end) writes.part writes.gate (drop 1 (frame_of writes.body)) old.disk new.disk writes.calls;
                waits = waits true next writes;
                opens = λ moment c from to left.
                    either_found event replies.outcome c replies.step
                    ((handles.any_moment replies.going _ refl).each c (left_at new.disk (length old.disk.changes) moment c from to left));
                passed = λ c left. at_found c next (subst (IsAt c) replies.end (replies.kept _ refl c left));
              };
        }

    -- where the disk failed inside the call
    pub fails_by_gate : (event : Event) (before after : ℕ) → Handles memory_meaning old new pass_old pass_new event (Err (Disk before after))
        → (((n : ℕ) × (event.what ≡ what.Read n)) → ⊥) → WaitsForGate old.disk new.disk old.end
    fails_by_gate event before after handles other = by_cause handles.answer.cause
      where
        by_cause : FailsToRecord memory_meaning old new pass_old pass_new event ⊎ FailsToRead memory_meaning old new pass_old pass_new event
            → WaitsForGate old.disk new.disk old.end
        by_cause (inl fails) =
            waits false (applied fails.outcome.effects old.end)
            (fails_first memory_meaning old.disk fails.recorded.0 new.disk old.end event fails.outcome (λ n asked. other (n, asked)) fails.recorded.1 fails.recorded.2)
        by_cause (inr fails) = absurd (other (fails.number, fails.asked))
