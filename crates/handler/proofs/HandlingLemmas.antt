-- What a handler leaves, by what it did.
use Rattle.std.proofs.Common.{◌≡◌, ◌≤◌, ℕ, false, List, Option, sym, ap, subst, ◌∙◌, inl, inr, arith}
use Rattle.as4_disk.specs.Image.{Image}
use Rattle.as4_disk.specs.declared.disk.Disk.{Ghosts as DiskMeaning}
use Rattle.as4_flow.specs.Flow.{Rose, TakesFront, Told}
use Rattle.as4_flow.specs.declared.clock.Clock.{Ghosts as ClockMeaning}
use Rattle.as4_flow.specs.declared.nonces.Nonces.{Ghosts as NoncesMeaning}
use Rattle.as4_host.specs.Files.{bytes_in}
use Rattle.as4_host.specs.declared.door.Door.{Ghosts as DoorMeaning}
use Rattle.as4_host.specs.declared.host.Host.{Ghosts as HostMeaning}
use Rattle.as4_host.specs.declared.link.Link.{Ghosts as LinkMeaning}
use Rattle.exchange_model.specs.End.{End}
use Rattle.handler.specs.Announcing.{line_of}
use Rattle.handler.specs.Dismissal.{gathering}
use Rattle.handler.specs.Endings.{IsCause, IsJudged, IsOpeningCause, IsReadingCause, IsUnserved}
use Rattle.handler.specs.Handling.{Ends, Handles, OpensAndWorks, Reads, Serves}
use Rattle.handler.specs.Hosts.{Touches, file_of}
use Rattle.handler.specs.Stores.{AreModesOf, LeavesStore, Stores}
use Rattle.handler.specs.declared.ending.HandlerEnd.{HandlerEnd}
use Rattle.handler.specs.declared.ending.HandlerEnd.TheVariants.{Served, NoMemory, HostFault, ModesRefused, NotJournal}
use Rattle.handler.specs.declared.setup.Setup.{Setup}
use Rattle.handler.proofs.AnnouncingLemmas.{line_by, no_line}
use Rattle.handler.proofs.DismissalLemmas.{all_retire_touches}
use Rattle.handler.proofs.HostLemmas.{counts_then, still_touches, touches_none, touches_then}
use Rattle.handler.proofs.OpeningLemmas.{risen_by, doors_touches, reads_touches, settled_store_touches, store_touches}
use Rattle.handler.proofs.StoreLemmas.{leaves_by, leaves_from, leaves_same, leaves_worked}
use Rattle.handler.proofs.WorkLemmas.{IsEndOfWork, end_failed, end_is, never_unserved}
use Rattle.mode_values.specs.declared.mode.Mode.{Mode}

-- from an earlier count on
rose_from : (first count later : ℕ) → first ≤ count → Rose count later → Rose first later
rose_from first count later before rose = omega (arith, before, rose)

module _ {H Store Door Dialer Time Dice DoorIn DoorOut DialerIn DialerOut : Type 0} (M : HostMeaning H Store Door Dialer Time Dice DoorIn DoorOut DialerIn DialerOut) (G : DoorMeaning Door DoorIn DoorOut) (K : LinkMeaning Dialer DialerIn DialerOut) (S : DiskMeaning Store) (T : ClockMeaning Time) (R : NoncesMeaning Dice) (setup : Setup) (modes : List Mode) (told later : Option (List ℕ)) where
  opened_touches : (old new : H) (end : HandlerEnd) → (by : OpensAndWorks M G K S T R setup modes told later old new end) → Touches M setup old by.opened
  opened_touches old new end by =
      touches_then M setup old by.opens.middle by.opened (doors_touches M setup G old by.opens.middle by.peer by.local by.opens.at_doors)
      (store_touches M setup S by.opens.middle by.opened by.opens.on_store.disk by.opens.on_store.store)

  last_touches : (old new : H) (end : HandlerEnd) → (by : OpensAndWorks M G K S T R setup modes told later old new end) → Touches M setup old by.works.last.host
  last_touches old new end by =
      let works = by.works in
      touches_then M setup old works.first works.last.host
      (touches_then M setup old by.opened works.first (opened_touches old new end by) (still_touches M setup by.opened works.first works.hires))
      (all_retire_touches M G K setup works.done (gathering works.first works.pass false) works.last works.retires)

  pub handles_touches : (old new : H) (end : HandlerEnd) → Handles M G K S T R setup modes told later old new end → Touches M setup old new
  handles_touches old new end (inl none) = touches_none M setup old new none.1
  handles_touches old new end (inr (inl (fails, silent))) = fails.touches
  handles_touches old new end (inr (inr by)) =
      touches_then M setup old by.works.last.host new (last_touches old new end by)
      (settled_store_touches M setup S by.works.last.host new by.works.disk by.works.settles)

  pub handles_store : ((d : Store) → Told (S.seen d) (S.may_leave d)) → (may_be : List Mode → Type 0) (old new : H) (end : HandlerEnd) → may_be modes → Handles M G K S T R setup modes told later old new end
      → LeavesStore M may_be setup.journal.now old new
  handles_store reads_now may_be old new end may (inl none) =
      leaves_same M may_be setup.journal.now old new (λ q. ap (λ (h : H). bytes_in (M.file h (file_of setup.journal.now q))) none.1)
  handles_store reads_now may_be old new end may (inr (inl (fails, silent))) = leaves_by M (λ m. ⊥) may_be setup.journal.now old new (λ m wrong. absurd wrong) fails.store
  handles_store reads_now may_be old new end may (inr (inr by)) =
      let doors = by.opens.at_doors in
      leaves_from M may_be setup.journal.now old by.opens.middle new
      (λ q. ap bytes_in (doors.at_local.files (file_of setup.journal.now q) ∙ doors.at_peer.files (file_of setup.journal.now q)))
      (leaves_worked M S reads_now may_be modes setup.journal.now by.opens.middle by.opened by.works.last.host new by.opens.on_store.disk by.works.disk by.office by.pass
      by.works.calls by.works.close may by.opens.on_store.store by.opens.on_store.opens by.works.closed by.works.settles)

  pub work_ends : (old new : H) (end : HandlerEnd) → OpensAndWorks M G K S T R setup modes told later old new end → IsEndOfWork end
  work_ends old new end by = subst IsEndOfWork (sym by.works.ends) (end_is by.works.how by.works.last.starved)

  worked_cause : (file : Option (Option (List ℕ))) (Stored : Image → Type 0) (start old new : H) (end : HandlerEnd) → Reads M setup.modes.now start old
      → (by : OpensAndWorks M G K S T R setup modes told later old new end) → IsCause file Stored (M.fault_count start) (M.fault_count new) end
  worked_cause file Stored start old new Served reads by = tt
  worked_cause file Stored start old new NoMemory reads by = tt
  worked_cause file Stored start old new HostFault reads by =
      risen_by (M.fault_count start) (M.fault_count by.works.last.host) (S.fault_count by.works.disk) (M.fault_count new)
      (counts_then M start old by.works.last.host reads.counts (last_touches old new HostFault by).counts).faults
      (by.works.failed (end_failed by.works.how by.works.last.starved (sym by.works.ends))) by.works.settles.faults
  worked_cause file Stored start old new ModesRefused reads by = absurd (work_ends old new ModesRefused by)
  worked_cause file Stored start old new (NotJournal at) reads by = absurd (work_ends old new (NotJournal at) by)

  opening_cause : (file : Option (Option (List ℕ))) (Stored Here : Image → Type 0) (first count later : ℕ) (end : HandlerEnd) → first ≤ count
      → ((image : Image) → Stored image → Here image) → IsOpeningCause Here count later end → IsCause file Stored first later end
  opening_cause file Stored Here first count later Served before here cause = tt
  opening_cause file Stored Here first count later NoMemory before here cause = tt
  opening_cause file Stored Here first count later HostFault before here cause = rose_from first count later before cause
  opening_cause file Stored Here first count later ModesRefused before here cause = absurd cause
  opening_cause file Stored Here first count later (NotJournal at) before here cause = λ image stored. cause image (here image stored)

  -- the cause of an end, from the moment at which the modes were read
  pub handles_cause : (file : Option (Option (List ℕ))) (start old new : H) (end : HandlerEnd) → Reads M setup.modes.now start old
      → Handles M G K S T R setup modes told later old new end → IsCause file (Stores M setup.journal.now start) (M.fault_count start) (M.fault_count new) end
  handles_cause file start old new end reads (inl none) = subst (IsCause file (Stores M setup.journal.now start) (M.fault_count start) (M.fault_count new)) (sym none.0) tt
  handles_cause file start old new end reads (inr (inl (fails, silent))) =
      opening_cause file (Stores M setup.journal.now start) (Stores M setup.journal.now old) (M.fault_count start) (M.fault_count old) (M.fault_count new) end
      reads.counts.faults (λ image stored q. ap bytes_in (reads.files (file_of setup.journal.now q)) ∙ stored q) fails.cause
  handles_cause file start old new end reads (inr (inr by)) = worked_cause file (Stores M setup.journal.now start) start old new end reads by

pub reading_cause : (file : Option (Option (List ℕ))) (Stored : Image → Type 0) (before after : ℕ) (end : HandlerEnd)
    → IsReadingCause file before after end → IsCause file Stored before after end
reading_cause file Stored before after Served cause = tt
reading_cause file Stored before after NoMemory cause = tt
reading_cause file Stored before after HostFault cause = cause
reading_cause file Stored before after ModesRefused cause = cause
reading_cause file Stored before after (NotJournal at) cause = absurd cause

module _ {H Store Door Dialer Time Dice DoorIn DoorOut DialerIn DialerOut : Type 0} (M : HostMeaning H Store Door Dialer Time Dice DoorIn DoorOut DialerIn DialerOut) (G : DoorMeaning Door DoorIn DoorOut) (K : LinkMeaning Dialer DialerIn DialerOut) (S : DiskMeaning Store) (T : ClockMeaning Time) (R : NoncesMeaning Dice) (setup : Setup) (told later : Option (List ℕ)) where
  pub ends_touch : (old new : H) (end : HandlerEnd) → Ends M G K S T R setup told later old new end → Touches M setup old new
  ends_touch old new end (inl (reads, cause, silent)) = reads_touches M setup old new reads
  ends_touch old new end (inr (modes, read, are, reads, handles)) =
      touches_then M setup old read new (reads_touches M setup old read reads) (handles_touches M G K S T R setup modes told later read new end handles)

  pub ends_store : ((d : Store) → Told (S.seen d) (S.may_leave d)) → (old new : H) (end : HandlerEnd) → Ends M G K S T R setup told later old new end
      → LeavesStore M (AreModesOf (M.file old setup.modes.now)) setup.journal.now old new
  ends_store reads_now old new end (inl (reads, cause, silent)) =
      leaves_same M (AreModesOf (M.file old setup.modes.now)) setup.journal.now old new (λ q. ap bytes_in (reads.files (file_of setup.journal.now q)))
  ends_store reads_now old new end (inr (modes, read, are, reads, handles)) =
      leaves_from M (AreModesOf (M.file old setup.modes.now)) setup.journal.now old read new (λ q. ap bytes_in (reads.files (file_of setup.journal.now q)))
      (handles_store M G K S T R setup modes told later reads_now (AreModesOf (M.file old setup.modes.now)) read new end are handles)

  pub ends_cause : (old new : H) (end : HandlerEnd) → Ends M G K S T R setup told later old new end
      → IsCause (M.file old setup.modes.now) (Stores M setup.journal.now old) (M.fault_count old) (M.fault_count new) end
  ends_cause old new end (inl (reads, cause, silent)) = reading_cause (M.file old setup.modes.now) (Stores M setup.journal.now old) (M.fault_count old) (M.fault_count new) end cause
  ends_cause old new end (inr (modes, read, are, reads, handles)) = handles_cause M G K S T R setup modes told later (M.file old setup.modes.now) old read new end reads handles

  pub ends_serves : (old new : H) → Ends M G K S T R setup told later old new Served → Serves M G K S T R setup told later old new
  ends_serves old new (inl (reads, cause, silent)) = absurd cause
  ends_serves old new (inr (modes, read, are, reads, inl none)) = absurd (let wrong : Served ≡ NoMemory = none.0 in cc)
  ends_serves old new (inr (modes, read, are, reads, inr (inl (fails, silent)))) = absurd fails.cause
  ends_serves old new (inr (modes, read, are, reads, inr (inr works))) = record { modes = modes; modes_are = are; read = read; reads = reads; works = works }

  -- where no worker began, each address has the guests that it had
  pub ends_guests : (old new : H) (end : HandlerEnd) → Ends M G K S T R setup told later old new end → IsUnserved end → (a : List ℕ) → M.guests new a ≡ M.guests old a
  ends_guests old new end (inl (reads, cause, silent)) unserved a = reads.guests a
  ends_guests old new end (inr (modes, read, are, reads, inl none)) unserved a = ap (λ (h : H). M.guests h a) none.1 ∙ reads.guests a
  ends_guests old new end (inr (modes, read, are, reads, inr (inl (fails, silent)))) unserved a = fails.guests a ∙ reads.guests a
  ends_guests old new end (inr (modes, read, are, reads, inr (inr by))) unserved a =
      absurd (never_unserved end (work_ends M G K S T R setup modes told later read new end by) unserved)

  -- the line was written for one endpoint, or nothing was written
  pub ends_line : (old new : H) (end : HandlerEnd) → Ends M G K S T R setup told later old new end → (here : End) × TakesFront (line_of setup here) told later
  ends_line old new end (inl (reads, cause, silent)) = no_line setup told later silent
  ends_line old new end (inr (modes, read, are, reads, inl none)) = no_line setup told later none.2
  ends_line old new end (inr (modes, read, are, reads, inr (inl (fails, silent)))) = no_line setup told later silent
  ends_line old new end (inr (modes, read, are, reads, inr (inr by))) = line_by S setup by.works.how by.office by.works.pass.list told later by.works.line by.works.silent

  pub ends_silent : (old new : H) (end : HandlerEnd) → Ends M G K S T R setup told later old new end → IsUnserved end → later ≡ told
  ends_silent old new end (inl (reads, cause, silent)) unserved = silent
  ends_silent old new end (inr (modes, read, are, reads, inl none)) unserved = none.2
  ends_silent old new end (inr (modes, read, are, reads, inr (inl (fails, silent)))) unserved = silent
  ends_silent old new end (inr (modes, read, are, reads, inr (inr by))) unserved =
      absurd (never_unserved end (work_ends M G K S T R setup modes told later read new end by) unserved)

-- an end before any worker began is the one that was judged
pub judged_unserved : (before after : ℕ) (end result : HandlerEnd) → IsJudged end before after result → IsUnserved result → IsUnserved end
judged_unserved before after end result (inl same) unserved = subst IsUnserved same.1 unserved
judged_unserved before after NoMemory result (inr (rose, is)) unserved = absurd (subst IsUnserved is unserved)
judged_unserved before after Served result (inr (rose, is)) unserved = absurd (subst IsUnserved is unserved)
judged_unserved before after HostFault result (inr (rose, is)) unserved = absurd (subst IsUnserved is unserved)
judged_unserved before after ModesRefused result (inr (rose, is)) unserved = tt
judged_unserved before after (NotJournal at) result (inr (rose, is)) unserved = tt

-- an end that is judged has its cause
pub judged_cause : (file : Option (Option (List ℕ))) (Stored : Image → Type 0) (before after : ℕ) (end result : HandlerEnd)
    → IsJudged end before after result → IsCause file Stored before after end → IsCause file Stored before after result
judged_cause file Stored before after end result (inl same) cause = subst (IsCause file Stored before after) (sym same.1) cause
judged_cause file Stored before after NoMemory result (inr (rose, is)) cause = subst (IsCause file Stored before after) (sym is) tt
judged_cause file Stored before after Served result (inr (rose, is)) cause = subst (IsCause file Stored before after) (sym is) rose
judged_cause file Stored before after HostFault result (inr (rose, is)) cause = subst (IsCause file Stored before after) (sym is) rose
judged_cause file Stored before after ModesRefused result (inr (rose, is)) cause = subst (IsCause file Stored before after) (sym is) rose
judged_cause file Stored before after (NotJournal at) result (inr (rose, is)) cause = subst (IsCause file Stored before after) (sym is) rose

pub judged_served : (before after : ℕ) (end result : HandlerEnd) → IsJudged end before after result → result ≡ Served → end ≡ Served
judged_served before after end result (inl same) served = sym same.1 ∙ served
judged_served before after NoMemory result (inr (rose, is)) served = absurd cc
judged_served before after Served result (inr (rose, is)) served = absurd cc
judged_served before after HostFault result (inr (rose, is)) served = absurd cc
judged_served before after ModesRefused result (inr (rose, is)) served = absurd cc
judged_served before after (NotJournal at) result (inr (rose, is)) served = absurd cc
