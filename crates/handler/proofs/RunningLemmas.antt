-- What becomes of an office that was just opened.
use Rattle.std.proofs.Common.{◌≡◌, ◌⊎◌, ◌≤◌, ℕ, Bool, true, false, List, [], ◌∷◌, ◌++◌, Some, None, Ok, Err, length, is_some, refl, sym, ap, subst, ◌∙◌, inl, inr, arith}
use Rattle.as4_disk.specs.declared.disk.Disk.{Ghosts as DiskMeaning}
use Rattle.as4_disk.specs.declared.fault_counts.FaultCounts.{FaultCounts}
use Rattle.as4_host.specs.declared.door.Door.{Ghosts as DoorMeaning}
use Rattle.exchange_model.specs.End.{End}
use Rattle.handler.specs.Crews.{AllMadeTurns}
use Rattle.handler.specs.Working.{AreOwn, BeginWithFold, RunsOver, ran_by}
use Rattle.handler.specs.declared.running.Ran.TheVariants as ran
use Rattle.office.specs.Calls.{LeadsWhere, stop_of}
use Rattle.office.specs.Folds.{CanShorten, Checkpoints, FindsNoPayloads, IsShortEnough, Shortens, Shortening}
use Rattle.office.specs.State.{OfficeState}
use Rattle.office.specs.Steps.{Enters}
use Rattle.office.specs.declared.call.Call.{Call}
use Rattle.office.specs.declared.call.Call.TheVariants.{Folded, Stop}
use Rattle.office.specs.declared.fault.OfficeFault.{OfficeFault}
use Rattle.office.specs.declared.fault.OfficeFault.TheVariants as fault
use Rattle.pass_book.specs.States.{PassState}
use Rattle.sessions.specs.Shared.{IsOpened}
use Rattle.sessions.specs.declared.naming.Opening.{Ghosts as OpeningMeaning}
use Rattle.workers.specs.declared.job.Worker.{Worker}

pub not_served : (why : OfficeFault) → ran_by why ≡ ran.Served → ⊥
not_served (fault.Disk before after) is = absurd cc
not_served (fault.Stopped before after) is = absurd cc
not_served fault.Worn is = absurd cc
not_served fault.NoMemory is = absurd cc

module _ {D : Type 0} (S : DiskMeaning D) (office middle : OfficeState D) (old new : PassState Call) (none : office.list ≡ []) where
  -- a call that was entered is the only one, and it counts for the pass
  entered_one : (call : Call) → old.share ≡ 0 → Enters office middle old new call → (new.list ≡ call ∷ []) × (new.share ≡ length new.list)
  entered_one call fresh enters =
      let only : new.list ≡ call ∷ [] = enters.whole ∙ enters.list ∙ ap (λ l. l ++ call ∷ []) none in
      let long : length new.list ≡ 1 = ap length only in
      (only, omega (arith, fresh, enters.share, long))

  -- a pass that is as before has made no call
  entered_none : old.share ≡ 0 → old.list ≡ [] → new ≡ old → (new.list ≡ []) × (new.share ≡ length new.list)
  entered_none fresh empty same =
      let no_call : new.list ≡ [] = ap (λ (p : PassState Call). p.list) same ∙ empty in
      let share : new.share ≡ old.share = ap (λ (p : PassState Call). p.share) same in
      let long : length new.list ≡ 0 = ap length no_call in
      (no_call, omega (arith, fresh, share, long))

  own_whole : (size : ℕ) → old.share ≡ 0 → old.list ≡ [] → Shortens office middle old new size ⊎ IsShortEnough office middle old new size ⊎ FindsNoPayloads office middle old new S size
      → AreOwn office.end ran.Served new.list × (new.share ≡ length new.list)
  own_whole size fresh empty (inl shortens) =
      let one = entered_one (Folded size) fresh shortens.entered in (inr (size, shortens.folded, shortens.shorter, one.0), one.1)
  own_whole size fresh empty (inr (inl enough)) = let kept = entered_none fresh empty enough.pass in (inl kept.0, kept.1)
  own_whole size fresh empty (inr (inr finds)) = let kept = entered_none fresh empty finds.nothing.pass in (inl kept.0, kept.1)

  -- the size that was answered is that of the journal
  pub size_is : (size : ℕ) → Shortens office middle old new size ⊎ IsShortEnough office middle old new size ⊎ FindsNoPayloads office middle old new S size → size ≡ middle.end.size
  size_is size (inl shortens) = sym (ap (λ (e : End). e.size) shortens.end)
  size_is size (inr (inl enough)) = enough.present ∙ sym (ap (λ (o : OfficeState D). o.end.size) enough.same)
  size_is size (inr (inr finds)) = finds.present ∙ sym (ap (λ (e : End). e.size) finds.nothing.end)

  -- the pass has seen all calls of the office, which lead to where it is
  pass_whole : (size : ℕ) → old.list ≡ [] → Shortens office middle old new size ⊎ IsShortEnough office middle old new size ⊎ FindsNoPayloads office middle old new S size
      → new.list ≡ middle.list
  pass_whole size empty (inl shortens) = shortens.entered.whole
  pass_whole size empty (inr (inl enough)) = ap (λ (p : PassState Call). p.list) enough.pass ∙ empty ∙ sym (ap (λ (o : OfficeState D). o.list) enough.same ∙ none)
  pass_whole size empty (inr (inr finds)) = ap (λ (p : PassState Call). p.list) finds.nothing.pass ∙ empty ∙ sym (finds.nothing.list ∙ none)

  pub leads_here : (size : ℕ) → old.list ≡ [] → Checkpoints S office middle old new (Ok size) → LeadsWhere (is_some (S.seen office.disk)) office.modes office.end new.list middle.end
  leads_here size empty checks =
      subst (λ l. LeadsWhere (is_some (S.seen office.disk)) office.modes office.end l middle.end) (sym (pass_whole size empty checks.answer.1))
      (checks.keeps.legal office.end (subst (λ l. LeadsWhere (is_some (S.seen office.disk)) office.modes office.end l office.end) (sym none) refl))

  own_early : (why : OfficeFault) → old.share ≡ 0 → old.list ≡ [] → Shortening office middle old new S (Err why)
      → AreOwn office.end (ran_by why) new.list × (new.share ≡ length new.list)
  own_early (fault.Disk before after) fresh empty stops =
      let halt : FaultCounts = record { before = before; after = after } in
      let one = entered_one (Stop None halt) fresh stops.entered in ((halt, one.0), one.1)
  own_early (fault.Stopped before after) fresh empty stands = absurd (let wrong : None ≡ Some _ = sym (ap stop_of none) ∙ stands.0.stopped in cc)
  own_early fault.Worn fresh empty worn = absurd (let long : length office.list ≡ 0 = ap length none in omega (arith, long, worn.full))
  own_early fault.NoMemory fresh empty rests = entered_none fresh empty rests.3.pass

  begins : (size : ℕ) → Shortens office middle old new size ⊎ IsShortEnough office middle old new size ⊎ FindsNoPayloads office middle old new S size
      → is_some (S.seen office.disk) ≡ true → CanShorten office.end → BeginWithFold new.list
  begins size (inl shortens) told can = (size, [], shortens.entered.whole ∙ shortens.entered.list ∙ ap (λ l. l ++ Folded size ∷ []) none)
  begins size (inr (inl enough)) told can =
      absurd (let least = enough.least can.0 can.1 in omega (arith, least, enough.present, can.2))
  begins size (inr (inr finds)) told can = absurd (let wrong : is_some (S.seen office.disk) ≡ false = ap is_some finds.unseen in cc)

  halted_failed : (why : OfficeFault) → S.fault_count office.disk ≡ 0 → Shortening office middle old new S (Err why) → ran_by why ≡ ran.DiskFault → 1 ≤ S.fault_count middle.disk
  halted_failed (fault.Disk before after) fine stops is = omega (arith, stops.new_count, stops.rose)
  halted_failed (fault.Stopped before after) fine stands is = absurd (let wrong : None ≡ Some _ = sym (ap stop_of none) ∙ stands.0.stopped in cc)
  halted_failed fault.Worn fine worn is = absurd (let long : length office.list ≡ 0 = ap length none in omega (arith, long, worn.full))
  halted_failed fault.NoMemory fine rests is = absurd cc

module _ {D W In Out L C N : Type 0} (S : DiskMeaning D) (G : DoorMeaning W In Out) (keep : ℕ) (office middle : OfficeState D) (old new : PassState Call) (none : office.list ≡ []) where
  pub ran_whole : {J : Type 0} (O : OpeningMeaning J) (later : OfficeState D) (size : ℕ) (crew done : List (Worker W L C N)) → Checkpoints S office middle old new (Ok size)
      → IsOpened S O office → office.end ≡ O.start → IsOpened S O later → old.book ≡ office.book → old.share ≡ 0 → old.list ≡ [] → AllMadeTurns G keep crew done
      → RunsOver S G keep office later old new crew done ran.Served
  ran_whole O later size crew done checks before start after book fresh empty made =
      let calls = own_whole S office middle old new none size fresh empty checks.answer.1 in record {
        leads = subst (λ (b : Bool). LeadsWhere b office.modes office.end later.list later.end) (sym before.observable)
            (subst (λ modes. LeadsWhere O.observable modes office.end later.list later.end) (sym before.modes)
            (subst (λ e. LeadsWhere O.observable O.modes e later.list later.end) (sym start) after.legal));
        tells = after.observable ∙ sym before.observable;
        modes = after.modes ∙ sym before.modes;
        book = after.book ∙ sym before.book;
        pass_book = checks.keeps.pass_book ∙ book;
        stake = checks.keeps.stake;
        own = calls.0;
        share = calls.1;
        served = λ is. made;
        compacted = λ is told can. begins S office middle old new none size checks.answer.1 told can;
        early = λ wrong. absurd (wrong refl);
        failed = λ wrong. absurd cc;
      }

  pub ran_early : (why : OfficeFault) (crew : List (Worker W L C N)) → Checkpoints S office middle old new (Err why) → S.fault_count office.disk ≡ 0
      → old.book ≡ office.book → old.share ≡ 0 → old.list ≡ [] → RunsOver S G keep office middle old new crew crew (ran_by why)
  ran_early why crew checks fine book fresh empty =
      let calls = own_early S office middle old new none why fresh empty checks.answer in record {
        leads = checks.keeps.legal office.end (subst (λ l. LeadsWhere (is_some (S.seen office.disk)) office.modes office.end l office.end) (sym none) refl);
        tells = checks.keeps.tells;
        modes = checks.keeps.modes;
        book = checks.keeps.book;
        pass_book = checks.keeps.pass_book ∙ book;
        stake = checks.keeps.stake;
        own = calls.0;
        share = calls.1;
        served = λ is. absurd (not_served why is);
        compacted = λ is. absurd (not_served why is);
        early = λ is. refl;
        failed = halted_failed S office middle old new none why fine checks.answer;
      }
