-- What the disk of an end that is stopped opens to.
use Rattle.std.proofs.Common.{◌≡◌, ◌≢◌, ◌⊎◌, inl, inr, ℕ, ◌<◌, ◌≤◌, List, [], Bool, true, false, nat_le, if◌then◌else◌, Option, None, Some, drop, length, refl, sym, ap, subst, arith}
use Rattle.std.specs.Prelude.{is_some}
use Rattle.std.proofs.lemmas.Bool.{leb-true, leb-false}
use Rattle.as4_disk.specs.Image.{Image}
use Rattle.as4_disk.specs.Memory.{DiskState, MakesChange, MayLeave, picked, reads}
use Rattle.as4_disk.specs.MemoryMeaning.{memory_meaning}
use Rattle.as4_disk.specs.Runs.{MakesAll}
use Rattle.as4_disk.specs.declared.change.Pick.{Pick}
use Rattle.as4_disk.specs.declared.change.Pick.TheVariants.{Old, New, Other}
use Rattle.as4_disk.specs.declared.part.Part.{Part}
use Rattle.drill_world.specs.Disks.{IsOf, IsStoppedDisk}
use Rattle.drill_world.specs.Transcript.{stands}
use Rattle.msh_recovery.specs.Opens.{IsAt, IsOld, KeepsEnd, OpensAs, OpensWith, ReadsAs}
use Rattle.msh_recovery.specs.Puts.{Puts}
use Rattle.exchange_model.specs.Apply.{applied}
use Rattle.exchange_model.specs.End.{End, empty_end}
use Rattle.exchange_model.specs.declared.outcome.Outcome.{Outcome}
use Rattle.as4_effects.specs.declared.effect.Effect.{Effect}
use Rattle.journal.specs.Calls.{record_calls}
use Rattle.journal.specs.Leaf.{frame_of}
use Rattle.journal.specs.Store.{is_second_of, leaf_of, picked_leaf}
use Rattle.exchange_model.specs.Table.{Rests, RowOf, Step, read_reply}
use Rattle.exchange_model.specs.declared.what.What.{What}
use Rattle.exchange_model.specs.declared.what.What.TheVariants as what
use Rattle.mode_values.specs.declared.mode.Mode.{Mode}
use Rattle.msh_core.proofs.GivenLemmas.{read_step, rests_outcome}
use Rattle.exchange_model.specs.declared.event.Event.{Event}
use Rattle.office.specs.Preparing.{OnlyReads}
use Rattle.office.specs.Recording.{IsRecorded, Writes}
use Rattle.office.specs.State.{OfficeState}
use Rattle.office.specs.Steps.{FailsToRead, FailsToRecord}
use Rattle.office.specs.declared.call.Call.{Call}
use Rattle.pass_book.specs.States.{PassState}

-- the laws of these disks

abbrev pub ReadsWhole : Type 0
ReadsWhole = (image : Image) (end : End) → OpensAs image end → ReadsAs image end

abbrev pub LeavesPicks : Type 0
LeavesPicks = (disk : DiskState) (choice : Part → Pick) → MayLeave disk (λ q. picked (choice q) disk q)

abbrev pub StoppedStands : Type 0
StoppedStands = (old new : DiskState) (part : Part) (gate : ℕ) (body : List ℕ) (end next : End) (ok : Bool) (call : ℕ) (pick : Pick)
    → Puts (MayLeave old) part gate (drop 1 (frame_of body)) end next
    → MakesAll MakesChange (record_calls part gate body) old new ok
    → old.failing ≡ [] → old.stop ≡ Some call → 1 ≤ call → call ≤ 4
    → (ok ≡ false) × (new.ran_out ≡ false
    → (3 ≤ call → pick ≡ New → IsAt (picked pick new) next)
    × ((call < 3) ⊎ (pick ≢ New)
    → OpensWith (picked pick new) end (λ n. n ≡ next) × (IsOld (picked_leaf (picked pick new)) → ⊥)))

-- what opens to an end is of it

opens_of : ReadsWhole → (image : Image) (end : End) (P : End → Type 0) → OpensWith image end P → (IsOld (picked_leaf image) → ⊥) → IsOf end image
opens_of law image end P opens current = record {
  reads = law image end (
    opens.0,
    record {
      records = opens.1.records;
      leads = opens.1.leads;
      pending = λ body has. let next = opens.1.pending body has in (next.0, next.1, tt);
    },
  );
  current = current;
}

-- an end that a disk keeps is that of each image
pub kept_of : ReadsWhole → LeavesPicks → (disk : DiskState) (end : End) → KeepsEnd memory_meaning disk end → (pick : Pick) → IsOf end (picked pick disk)
kept_of law leaves disk end kept pick =
    let at = kept (reads disk) refl (picked pick disk) (leaves disk (λ _. pick)) in
    opens_of law (picked pick disk) end _ at.0 at.1

pub unhalted : {X : Type 0} (o : Option X) → is_some o ≡ false → o ≡ None
unhalted None none = refl
unhalted (Some x) none = absurd (cc none)

-- an empty disk is of the empty end
pub empty_of : (image : Image) → ((part : Part) → image part ≡ []) → IsOf empty_end image
unfolding picked_leaf
empty_of image empty =
    let none : picked_leaf image ≡ [] = empty (leaf_of (is_second_of image)) in
    let short : length (picked_leaf image) ≡ 0 = ap length none in record {
      reads = ([], inl (omega (arith, short), refl), refl);
      current = λ old. absurd (omega (arith, old.0, short));
    }

-- where a record was put on a disk that stops there

module _ (law : ReadsWhole) (stopped : StoppedStands) (old new : DiskState) (end next : End) (ok : Bool) (call : ℕ) (writes : Writes memory_meaning old new end next ok) (sound : old.failing ≡ []) (stops : old.stop ≡ Some call) (some : 1 ≤ call) (few : call ≤ 4) where
  of_pick : (pick : Pick) → (ok ≡ false) × (new.ran_out ≡ false
      → (3 ≤ call → pick ≡ New → IsAt (picked pick new) next)
      × ((call < 3) ⊎ (pick ≢ New)
      → OpensWith (picked pick new) end (λ n. n ≡ next) × (IsOld (picked_leaf (picked pick new)) → ⊥)))
  of_pick pick = stopped old new writes.part writes.gate writes.body end next ok call pick (writes.puts (reads old) refl) writes.calls sound stops some few

  pub failed : ok ≡ false
  failed = (of_pick New).0

  before : new.ran_out ≡ false → (pick : Pick) → (call < 3) ⊎ (pick ≢ New) → IsOf end (picked pick new)
  before whole pick here = let opens = (of_pick pick).1 whole in let is = opens.1 here in opens_of law (picked pick new) end _ is.0 is.1

  by_call : new.ran_out ≡ false → (b : Bool) → nat_le 3 call ≡ b → IsOf (if b then next else end) (picked New new)
  by_call whole true late =
      let at = ((of_pick New).1 whole).0 (leb-true 3 call late) refl in
      opens_of law (picked New new) next _ at.0 at.1
  by_call whole false early = before whole New (inl (leb-false 3 call early))

  pub stands_or_not : new.ran_out ≡ false → (pick : Pick) → IsOf (if stands call pick then next else end) (picked pick new)
  stands_or_not whole New = by_call whole (nat_le 3 call) refl
  stands_or_not whole Old = before whole Old (inr (λ is. absurd cc))
  stands_or_not whole Other = before whole Other (inr (λ is. absurd cc))

nothing_applied : (effects : List Effect) (end : End) → effects ≡ [] → applied effects end ≡ end
unfolding applied
nothing_applied effects end none = ap (λ (es : List Effect). applied es end) none

either_way : (b : Bool) (end next : End) → next ≡ end → (if b then next else end) ≡ end
either_way true end next same = same
either_way false end next same = refl

-- a `Read` has no record
read_rests : (modes : List Mode) (end : End) (event : Event) (outcome : Outcome) (n : ℕ) → event.what ≡ what.Read n → Step modes end event outcome → outcome.effects ≡ []
read_rests modes end event outcome n asked step =
    let row : Rests (read_reply end n) step.row = subst (λ (w : What). RowOf modes end event w step.row) asked step.decided in
    ap (λ (o : Outcome). o.effects) (rests_outcome end (read_reply end n) step.row outcome row step.limited)

-- so a step with a record has read nothing
recorded_disk : (modes : List Mode) (old disk new : DiskState) (end : End) (event : Event) (outcome : Outcome) (ok : Bool) → Step modes end event outcome
    → OnlyReads memory_meaning event old disk → IsRecorded memory_meaning disk new end outcome ok
    → ((outcome.effects ≡ []) × (ok ≡ true)) ⊎ Writes memory_meaning old new end (applied outcome.effects end) ok
recorded_disk modes old disk new end event outcome ok step only (inl rests) = inl (rests.0, rests.2)
recorded_disk modes old disk new end event outcome ok step (inl same) (inr writes) =
    inr (subst (λ (d : DiskState). Writes memory_meaning d new end (applied outcome.effects end) ok) same writes.1)
recorded_disk modes old disk new end event outcome ok step (inr (n, asked, quiet)) (inr writes) =
    absurd (writes.0 (read_rests modes end event outcome n asked step))

-- a step that was replied to had nothing to write
replied_disk : ReadsWhole → LeavesPicks → StoppedStands → (old new : DiskState) (end : End) (outcome : Outcome) (call : ℕ)
    → ((outcome.effects ≡ []) × (true ≡ true)) ⊎ Writes memory_meaning old new end (applied outcome.effects end) true → KeepsEnd memory_meaning new (applied outcome.effects end)
    → old.failing ≡ [] → old.stop ≡ Some call → 1 ≤ call → call ≤ 4 → IsStoppedDisk call end outcome new
replied_disk law leaves stopped old new end outcome call (inl rests) kept sound stops some few = λ pick.
    let same : applied outcome.effects end ≡ end = nothing_applied outcome.effects end rests.0 in
    subst (λ (e : End). IsOf e (picked pick new)) (sym (either_way (stands call pick) end (applied outcome.effects end) same))
    (kept_of law leaves new end (subst (KeepsEnd memory_meaning new) same kept) pick)
replied_disk law leaves stopped old new end outcome call (inr writes) kept sound stops some few =
    let never : true ≡ false = failed law stopped old new end (applied outcome.effects end) true call writes sound stops some few in
    absurd cc

-- a step that the disk stopped stands or doesn't
stopped_step : ReadsWhole → StoppedStands → (old new : DiskState) (end : End) (outcome : Outcome) (call : ℕ)
    → ((outcome.effects ≡ []) × (false ≡ true)) ⊎ Writes memory_meaning old new end (applied outcome.effects end) false → new.ran_out ≡ false
    → old.failing ≡ [] → old.stop ≡ Some call → 1 ≤ call → call ≤ 4 → IsStoppedDisk call end outcome new
stopped_step law stopped old new end outcome call (inl rests) whole sound stops some few = absurd (cc rests.1)
stopped_step law stopped old new end outcome call (inr writes) whole sound stops some few =
    stands_or_not law stopped old new end (applied outcome.effects end) false call writes sound stops some few whole

-- a message whose payloads weren't read: nothing was to be written
unread_disk : ReadsWhole → LeavesPicks → (new : DiskState) (end : End) (outcome : Outcome) (call : ℕ) → outcome.effects ≡ [] → KeepsEnd memory_meaning new end → IsStoppedDisk call end outcome new
unread_disk law leaves new end outcome call rests kept = λ pick.
    subst (λ (e : End). IsOf e (picked pick new)) (sym (either_way (stands call pick) end (applied outcome.effects end) (nothing_applied outcome.effects end rests)))
    (kept_of law leaves new end kept pick)

-- an office whose disk was to stop
abbrev pub LeavesStopped : OfficeState DiskState → Event → ℕ → DiskState → Type 0
LeavesStopped office event call disk = (outcome : Outcome) × Step office.modes office.end event outcome × IsStoppedDisk call office.end outcome disk

module _ (law : ReadsWhole) (leaves : LeavesPicks) (stopped : StoppedStands) (old new : OfficeState DiskState) (event : Event) (call : ℕ) (sound : old.disk.failing ≡ []) (stops : old.disk.stop ≡ Some call) (some : 1 ≤ call) (few : call ≤ 4) where
  pub replied_event : (outcome : Outcome) (disk : DiskState) → Step old.modes old.end event outcome → OnlyReads memory_meaning event old.disk disk
      → IsRecorded memory_meaning disk new.disk old.end outcome true → KeepsEnd memory_meaning new.disk (applied outcome.effects old.end) → LeavesStopped old event call new.disk
  replied_event outcome disk step only recorded kept = (
    outcome,
    step,
    replied_disk law leaves stopped old.disk new.disk old.end outcome call (recorded_disk old.modes old.disk disk new.disk old.end event outcome true step only recorded) kept sound stops some few,
  )

  pub stopped_event : (pass_old pass_new : PassState Call) → new.disk.ran_out ≡ false → new.end ≡ old.end
      → FailsToRecord memory_meaning old new pass_old pass_new event ⊎ FailsToRead memory_meaning old new pass_old pass_new event → LeavesStopped old event call new.disk
  stopped_event pass_old pass_new whole same (inl is) = (
    is.outcome,
    is.step,
    stopped_step law stopped old.disk new.disk old.end is.outcome call
        (recorded_disk old.modes old.disk is.recorded.0 new.disk old.end event is.outcome false is.step is.recorded.1 is.recorded.2) whole sound stops some few,
  )
  stopped_event pass_old pass_new whole same (inr is) =
      let outcome : Outcome = record { effects = []; reply = read_reply old.end is.number } in (
        outcome,
        read_step old.modes old.end event outcome is.number is.asked refl,
        unread_disk law leaves new.disk old.end outcome call refl (subst (λ (e : End). KeepsEnd memory_meaning new.disk e) same is.safe),
      )

-- the same of the office before it was to stop
pub office_stopped : (office old : OfficeState DiskState) (new disk to_stop : DiskState) (event : Event) (call : ℕ)
    → old ≡ record office { disk = to_stop } → disk ≡ new → LeavesStopped old event call new → LeavesStopped office event call disk
office_stopped office old new disk to_stop event call is left leaves =
    subst (λ (d : DiskState). LeavesStopped office event call d) (sym left)
    (subst (λ (o : OfficeState DiskState). LeavesStopped o event call new) is leaves)
