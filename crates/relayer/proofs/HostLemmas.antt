-- What relaying does to its host.
use Rattle.std.proofs.Common.{◌≡◌, ◌≢◌, ◌⊎◌, ℕ, suc, List, [], ◌∷◌, Option, Err, Contains, All, refl, sym, ap, subst, ◌∙◌, inl, inr, arith}
use Rattle.std.proofs.lemmas.List.Elements.{All-cons, All-contains, All-nil}
use Rattle.as4_disk.specs.Image.{Image}
use Rattle.as4_disk.specs.declared.disk.Disk.{Ghosts as DiskMeaning}
use Rattle.as4_disk.specs.declared.part.Part.{Part}
use Rattle.as4_disk.specs.declared.part.Part.TheVariants.{Leaf1, Selector}
use Rattle.as4_flow.specs.Flow.{Told}
use Rattle.as4_flow.specs.declared.clock.Clock.{Ghosts as ClockMeaning}
use Rattle.as4_flow.specs.declared.nonces.Nonces.{Ghosts as NoncesMeaning}
use Rattle.as4_host.specs.Calls.{HasHostCause, asked}
use Rattle.as4_host.specs.Files.{bytes_in}
use Rattle.as4_host.specs.declared.host.Host.{Ghosts as HostMeaning}
use Rattle.as4_host.specs.declared.host.HostRefusal.{HostRefusal}
use Rattle.as4_host.specs.declared.host.HostRefusal.TheVariants as host
use Rattle.as4_values.specs.Texts.{Spells}
use Rattle.as4_values.specs.declared.text.TextRefusal.{TextRefusal}
use Rattle.as4_values.specs.declared.text.TextRefusal.TheVariants as text
use Rattle.handler.specs.Handling.{Reads}
use Rattle.handler.specs.Hosts.{IsStill, file_of, files_of}
use Rattle.handler.specs.Opening.{OpensStore, SettlesStore}
use Rattle.handler.specs.Stores.{AreModesOf, LeavesStore, Stores}
use Rattle.handler.proofs.HostLemmas.{asks_none, asks_then, asks_within, counts_same, counts_then}
use Rattle.handler.proofs.OpeningLemmas.{risen_by}
use Rattle.handler.proofs.StoreLemmas.{leaves_by, leaves_from, leaves_same, leaves_worked, reads_stored}
use Rattle.journal.specs.Faults.{IsCause as IsFault, IsOpeningFault}
use Rattle.journal.specs.Store.{picked_leaf}
use Rattle.journal.specs.declared.fault.JournalFault.{JournalFault}
use Rattle.journal.specs.declared.fault.JournalFault.TheVariants as fault
use Rattle.mode_values.specs.declared.mode.Mode.{Mode}
use Rattle.msh_recovery.specs.Unfit.{IsNoJournal}
use Rattle.relayer.specs.Ends.{end_by, end_unopened}
use Rattle.relayer.specs.Running.{FailsToOpen, IsOpeningCause, LacksMemory, OpensAndRelays, RelaysBy, RelaysOn, RelaysWith, Touches}
use Rattle.relayer.specs.declared.ending.RelayerEnd.{RelayerEnd}

-- a name that can't be read, though there is memory, is no text
pub no_text : (mode : List ℕ) (refusal : TextRefusal) (at : ℕ) → refusal ≡ text.BadText at → ((name : List ℕ) → Spells mode name → refusal ≡ text.NoMemory)
    → (name : List ℕ) → ¬ Spells mode name
no_text mode refusal at is only name spells = let wrong : text.BadText at ≡ text.NoMemory = sym is ∙ only name spells in absurd cc

refused_cause : (T : Type 0) (Stored : Image → Type 0) (before after : ℕ) (refusal : HostRefusal) (end : RelayerEnd) → end ≡ end_by refusal
    → HasHostCause {T = T} before after (Err refusal) → IsOpeningCause Stored before after end
refused_cause T Stored before after host.HostFailed end is rises = subst (IsOpeningCause Stored before after) (sym is) rises.1
refused_cause T Stored before after host.NoMemory end is same = subst (IsOpeningCause Stored before after) (sym is) tt

module _ {H Store Door Dialer Time Dice DoorIn DoorOut DialerIn DialerOut : Type 0} (M : HostMeaning H Store Door Dialer Time Dice DoorIn DoorOut DialerIn DialerOut) (journal : List ℕ) where
  -- with a name that is read
  pub with_name : (S : DiskMeaning Store) (T : ClockMeaning Time) (R : NoncesMeaning Dice) (mode name : List ℕ) (count : ℕ) (modes : List Mode) (old new : H) (taken later : Option (List ℕ)) (end : RelayerEnd) → Spells mode name
      → LacksMemory old new taken later end ⊎ OpensAndRelays M S T R journal name count modes old new taken later end → RelaysWith M S T R journal mode count modes old new taken later end
  with_name S T R mode name count modes old new taken later end spells (inl lacks) = inl lacks
  with_name S T R mode name count modes old new taken later end spells (inr opens) = inr (inr (name, spells, opens))

  touches_then : (words : List (List ℕ)) (old middle new : H) → Touches M words journal old middle → Touches M words journal middle new → Touches M words journal old new
  touches_then words old middle new first last = record {
    asks = asks_then M words old middle new first.asks last.asks;
    counts = counts_then M old middle new first.counts last.counts;
    files = λ p away. last.files p away ∙ first.files p away;
    guests = λ a. last.guests a ∙ first.guests a;
  }

  touches_within : (few many : List (List ℕ)) (old new : H) → ((n : List ℕ) → Contains few n → Contains many n) → Touches M few journal old new → Touches M many journal old new
  touches_within few many old new within touches = record {
    asks = asks_within M few many old new within touches.asks;
    counts = touches.counts;
    files = touches.files;
    guests = touches.guests;
  }

  touches_none : (words : List (List ℕ)) (old : H) → Touches M words journal old old
  touches_none words old = record {
    asks = asks_none M words old old refl;
    counts = counts_same M old old refl refl refl;
    files = λ p away. refl;
    guests = λ a. refl;
  }

  have_files : All (Contains (files_of journal)) (files_of journal)
  have_files =
      let P = Contains (files_of journal) in
      All-cons P journal (file_of journal Leaf1 ∷ file_of journal Selector ∷ []) (0, omega arith, refl)
      (All-cons P (file_of journal Leaf1) (file_of journal Selector ∷ []) (1, omega arith, refl) (All-cons P (file_of journal Selector) [] (2, omega arith, refl) (All-nil P)))

  -- a call for the store that the host refused
  pub fails_refused : (T : Type 0) (old new : H) (refusal : HostRefusal) (end : RelayerEnd) → end ≡ end_by refusal
      → M.names new ≡ asked {T = T} (Err refusal) (files_of journal) (M.names old) → HasHostCause {T = T} (M.fault_count old) (M.fault_count new) (Err refusal)
      → M.reads new ≡ M.reads old → M.writes new ≡ M.writes old → ((p : List ℕ) → ((q : Part) → p ≢ file_of journal q) → M.file new p ≡ M.file old p)
      → ((q : Part) → bytes_in (M.file new (file_of journal q)) ≡ bytes_in (M.file old (file_of journal q))) → ((a : List ℕ) → M.guests new a ≡ M.guests old a)
      → FailsToOpen M journal old new end
  fails_refused T old new host.HostFailed end is names cause reads writes files bytes guests = record {
    touches = record {
      asks = record { more = files_of journal; are = names; each = have_files };
      counts = record { faults = cause.0; reads = omega (arith, reads); writes = omega (arith, writes) };
      files = files;
      guests = guests;
    };
    store = leaves_same M (λ modes. ⊥) journal old new bytes;
    cause = refused_cause T (Stores M journal old) (M.fault_count old) (M.fault_count new) host.HostFailed end is cause;
  }
  fails_refused T old new host.NoMemory end is names cause reads writes files bytes guests = record {
    touches = record {
      asks = asks_none M (files_of journal) old new names;
      counts = record { faults = omega (arith, cause); reads = omega (arith, reads); writes = omega (arith, writes) };
      files = files;
      guests = guests;
    };
    store = leaves_same M (λ modes. ⊥) journal old new bytes;
    cause = refused_cause T (Stores M journal old) (M.fault_count old) (M.fault_count new) host.NoMemory end is cause;
  }

  touches_still : (words : List (List ℕ)) (old new : H) → IsStill M old new → Touches M words journal old new
  touches_still words old new still = record {
    asks = asks_none M words old new still.names;
    counts = counts_same M old new still.faults still.reads still.writes;
    files = λ p away. still.files p;
    guests = still.guests;
  }

  module _ (S : DiskMeaning Store) where
    pub touches_opening : (old new : H) (disk : Store) → OpensStore M S journal old new disk → Touches M (files_of journal) journal old new
    touches_opening old new disk opens = record {
      asks = record { more = files_of journal; are = opens.names; each = have_files };
      counts = counts_same M old new opens.faults opens.reads opens.writes;
      files = opens.files;
      guests = opens.guests;
    }

    touches_settling : (old new : H) (disk : Store) → SettlesStore M S journal old new disk → Touches M (files_of journal) journal old new
    touches_settling old new disk settles = record {
      asks = asks_none M (files_of journal) old new settles.names;
      counts = record { faults = settles.counted; reads = omega (arith, settles.reads); writes = omega (arith, settles.writes) };
      files = settles.files;
      guests = settles.guests;
    }

    pub touches_both : (old middle new : H) (disk later : Store) → OpensStore M S journal old middle disk → SettlesStore M S journal middle new later → Touches M (files_of journal) journal old new
    touches_both old middle new disk later opens settles = touches_then (files_of journal) old middle new (touches_opening old middle disk opens) (touches_settling middle new later settles)

    -- the end by a journal that wasn't opened, after its store was given back
    pub unopened_cause : (old middle new : H) (disk later : Store) (why : JournalFault) (end : RelayerEnd) → end ≡ end_unopened why → IsOpeningFault why
        → OpensStore M S journal old middle disk → SettlesStore M S journal middle new later → IsFault (S.fault_count disk) (S.fault_count later) why
        → ((at : ℕ) → why ≡ fault.NotJournal at → Told (S.seen disk) (λ b. IsNoJournal at (picked_leaf b)))
        → IsOpeningCause (Stores M journal old) (M.fault_count old) (M.fault_count new) end
    unopened_cause old middle new disk later (fault.Disk before after) end is may opens settles (was, now, rises) no_journal =
        subst (IsOpeningCause (Stores M journal old) (M.fault_count old) (M.fault_count new)) (sym is)
        (risen_by (M.fault_count old) (M.fault_count middle) (S.fault_count later) (M.fault_count new) (omega (arith, opens.faults)) (omega (arith, now, rises.1)) settles.faults)
    unopened_cause old middle new disk later (fault.NotJournal at) end is may opens settles cause no_journal =
        subst (IsOpeningCause (Stores M journal old) (M.fault_count old) (M.fault_count new)) (sym is)
        (λ image stored. no_journal at refl image (reads_stored M S journal old middle disk image opens stored))
    unopened_cause old middle new disk later fault.NoMemory end is may opens settles cause no_journal =
        subst (IsOpeningCause (Stores M journal old) (M.fault_count old) (M.fault_count new)) (sym is) tt
    unopened_cause old middle new disk later (fault.Full size need) end is may opens settles cause no_journal = absurd may

    module _ (T : ClockMeaning Time) (R : NoncesMeaning Dice) where
      touches_relaying : (mode : List ℕ) (count : ℕ) (modes : List Mode) (old new : H) (taken later : Option (List ℕ)) (end : RelayerEnd)
          → RelaysOn M S T R journal mode count modes old new taken later end → Touches M (files_of journal) journal old new
      touches_relaying mode count modes old new taken later end on =
          touches_then (files_of journal) old on.ready new
          (touches_then (files_of journal) old on.opened on.ready (touches_opening old on.opened on.disk on.store) (touches_still (files_of journal) on.opened on.ready on.still))
          (touches_settling on.ready new on.left on.settles)

      touches_with : (mode : List ℕ) (count : ℕ) (modes : List Mode) (old new : H) (taken later : Option (List ℕ)) (end : RelayerEnd)
          → RelaysWith M S T R journal mode count modes old new taken later end → Touches M (files_of journal) journal old new
      touches_with mode count modes old new taken later end (inl (is, same, quiet)) = subst (Touches M (files_of journal) journal old) (sym same) (touches_none (files_of journal) old)
      touches_with mode count modes old new taken later end (inr (inl (is, none, same, quiet))) = subst (Touches M (files_of journal) journal old) (sym same) (touches_none (files_of journal) old)
      touches_with mode count modes old new taken later end (inr (inr (name, spells, inl (fails, quiet)))) = fails.touches
      touches_with mode count modes old new taken later end (inr (inr (name, spells, inr on))) = touches_relaying name count modes old new taken later end on

      among_all : (modes : List ℕ) (n : List ℕ) → Contains (files_of journal) n → Contains (modes ∷ files_of journal) n
      among_all modes n (k, within, is) = (suc k, omega (arith, within), is)

      touches_reads : (modes : List ℕ) (old new : H) → Reads M modes old new → Touches M (modes ∷ files_of journal) journal old new
      touches_reads modes old new reads =
          let words : List (List ℕ) = modes ∷ files_of journal in
          let here : Contains words modes = (0, omega arith, refl) in record {
            asks = asks_within M (modes ∷ []) words old new (λ n has. All-contains (Contains words) (modes ∷ []) n (All-cons (Contains words) modes [] here (All-nil (Contains words))) has) reads.asks;
            counts = reads.counts;
            files = λ p away. reads.files p;
            guests = reads.guests;
          }

      pub touches_all : (modes mode : List ℕ) (count : ℕ) (old new : H) (taken later : Option (List ℕ)) (end : RelayerEnd)
          → RelaysBy M S T R modes journal mode count old new taken later end → Touches M (modes ∷ files_of journal) journal old new
      touches_all modes mode count old new taken later end (inl (ended, cause, reads, is, quiet)) = touches_reads modes old new reads
      touches_all modes mode count old new taken later end (inr (list, read, are, reads, with)) =
          touches_then (modes ∷ files_of journal) old read new (touches_reads modes old read reads)
          (touches_within (files_of journal) (modes ∷ files_of journal) read new (among_all modes) (touches_with mode count list read new taken later end with))

      -- what becomes of the store
      leaves_with : ((d : Store) → Told (S.seen d) (S.may_leave d)) → (may_be : List Mode → Type 0) (mode : List ℕ) (count : ℕ) (modes : List Mode) (old new : H) (taken later : Option (List ℕ)) (end : RelayerEnd)
          → may_be modes → RelaysWith M S T R journal mode count modes old new taken later end → LeavesStore M may_be journal old new
      leaves_with reads_now may_be mode count modes old new taken later end may (inl (is, same, quiet)) =
          leaves_same M may_be journal old new (λ q. ap (λ (h : H). bytes_in (M.file h (file_of journal q))) same)
      leaves_with reads_now may_be mode count modes old new taken later end may (inr (inl (is, none, same, quiet))) =
          leaves_same M may_be journal old new (λ q. ap (λ (h : H). bytes_in (M.file h (file_of journal q))) same)
      leaves_with reads_now may_be mode count modes old new taken later end may (inr (inr (name, spells, inl (fails, quiet)))) =
          leaves_by M (λ m. ⊥) may_be journal old new (λ m wrong. absurd wrong) fails.store
      leaves_with reads_now may_be mode count modes old new taken later end may (inr (inr (name, spells, inr on))) =
          leaves_worked M S reads_now may_be modes journal old on.opened on.ready new on.disk on.left on.start.office on.start.pass
          on.works.last.office.list on.works.last.office.end may on.store on.opens on.works.closed on.settles

      pub leaves_all : ((d : Store) → Told (S.seen d) (S.may_leave d)) → (modes mode : List ℕ) (count : ℕ) (old new : H) (taken later : Option (List ℕ)) (end : RelayerEnd)
          → RelaysBy M S T R modes journal mode count old new taken later end → LeavesStore M (AreModesOf (M.file old modes)) journal old new
      leaves_all reads_now modes mode count old new taken later end (inl (ended, cause, reads, is, quiet)) =
          leaves_same M (AreModesOf (M.file old modes)) journal old new (λ q. ap bytes_in (reads.files (file_of journal q)))
      leaves_all reads_now modes mode count old new taken later end (inr (list, read, are, reads, with)) =
          leaves_from M (AreModesOf (M.file old modes)) journal old read new (λ q. ap bytes_in (reads.files (file_of journal q)))
          (leaves_with reads_now (AreModesOf (M.file old modes)) mode count list read new taken later end are with)
