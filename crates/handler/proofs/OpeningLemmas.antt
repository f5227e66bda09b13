-- What opening does to the host.
use Rattle.std.proofs.Common.{◌≡◌, ◌≢◌, ◌≤◌, ◌<◌, ℕ, zero, suc, List, [], ◌∷◌, ◌++◌, Option, Some, Err, option_map, get_or, inl, inr, Contains, All, length, codes, refl, sym, ap, subst, ◌∙◌, arith, length-append}
use Rattle.std.proofs.lemmas.List.{append_cancel_left}
use Rattle.std.proofs.lemmas.List.Elements.{All-cons, All-contains, All-head, All-nil, All-tail}
use Rattle.as4_disk.specs.Image.{Image}
use Rattle.as4_disk.specs.declared.disk.Disk.{Ghosts as DiskMeaning}
use Rattle.as4_disk.specs.declared.file.Paths.{Paths}
use Rattle.as4_disk.specs.declared.part.Part.{Part}
use Rattle.as4_disk.specs.declared.part.Part.TheVariants.{Leaf0, Leaf1, Selector}
use Rattle.as4_flow.specs.Flow.{Rose, Told, one_more}
use Rattle.as4_host.specs.Calls.{HasHostCause, asked, names_of}
use Rattle.as4_host.specs.Counts.{raised}
use Rattle.as4_host.specs.Files.{IsMade, bytes_in, made, part_of, path_of}
use Rattle.as4_host.specs.Lists.{and_all}
use Rattle.as4_host.specs.declared.door.Door.{Ghosts as DoorMeaning}
use Rattle.as4_host.specs.declared.host.Host.{Ghosts as HostMeaning}
use Rattle.as4_host.specs.declared.host.HostRefusal.{HostRefusal}
use Rattle.as4_host.specs.declared.host.HostRefusal.TheVariants as refusal
use Rattle.handler.specs.Endings.{IsOpeningCause, end_by, end_unopened}
use Rattle.handler.specs.Handling.{Reads}
use Rattle.handler.specs.Hosts.{AreOf, Asks, CountsOn, Touches, file_of, files_of, words_of}
use Rattle.handler.specs.Opening.{FailsToOpen, OpensDoor, OpensDoors, OpensStore, SettlesStore}
use Rattle.handler.specs.Stores.{Stores}
use Rattle.handler.specs.declared.ending.HandlerEnd.{HandlerEnd}
use Rattle.handler.specs.declared.ending.HandlerEnd.TheVariants.{Served, NoMemory, HostFault, ModesRefused, NotJournal}
use Rattle.handler.specs.declared.setup.Setup.{Setup}
use Rattle.handler.proofs.HostLemmas.{asks_none, asks_within, counts_same, touches_then}
use Rattle.handler.proofs.StoreLemmas.{leaves_from, leaves_same, leaves_to, made_bytes, reads_stored}
use Rattle.journal.specs.Faults.{IsOpeningFault, IsCause as IsFault}
use Rattle.journal.specs.Store.{picked_leaf}
use Rattle.journal.specs.declared.fault.JournalFault.{JournalFault}
use Rattle.journal.specs.declared.fault.JournalFault.TheVariants as fault
use Rattle.msh_recovery.specs.Unfit.{IsNoJournal}

-- a count that a failing disk raised, over a longer time
pub risen_by : (first count faults later : ℕ) → first ≤ count → 1 ≤ faults → later ≡ raised faults count → Rose first later
risen_by first count zero later before some is = absurd (omega (arith, some))
risen_by first count (suc n) later before some is = let same : later ≡ one_more count = is in omega (arith, before, same)

-- the names that a setup gives
pub has_modes : (setup : Setup) → Contains (words_of setup) setup.modes.now
has_modes setup = (0, omega arith, refl)

pub has_peer : (setup : Setup) → Contains (words_of setup) setup.peer.now
has_peer setup = (1, omega arith, refl)

pub has_local : (setup : Setup) → Contains (words_of setup) setup.local.now
has_local setup = (2, omega arith, refl)

pub has_files : (setup : Setup) → All (Contains (words_of setup)) (files_of setup.journal.now)
has_files setup =
    let P = Contains (words_of setup) in
    let leaf0 : Contains (words_of setup) setup.journal.now = (3, omega arith, refl) in
    let leaf1 : Contains (words_of setup) (file_of setup.journal.now Leaf1) = (4, omega arith, refl) in
    let selector : Contains (words_of setup) (file_of setup.journal.now Selector) = (5, omega arith, refl) in
    All-cons P setup.journal.now (file_of setup.journal.now Leaf1 ∷ file_of setup.journal.now Selector ∷ []) leaf0
    (All-cons P (file_of setup.journal.now Leaf1) (file_of setup.journal.now Selector ∷ []) leaf1 (All-cons P (file_of setup.journal.now Selector) [] selector (All-nil P)))

module _ {H Store Door Dialer Time Dice DoorIn DoorOut DialerIn DialerOut : Type 0} (M : HostMeaning H Store Door Dialer Time Dice DoorIn DoorOut DialerIn DialerOut) (setup : Setup) where
  pub reads_touches : (old new : H) → Reads M setup.modes.now old new → Touches M setup old new
  reads_touches old new reads = record {
    asks = asks_within M (setup.modes.now ∷ []) (words_of setup) old new (λ n has. All-contains (Contains (words_of setup)) (setup.modes.now ∷ []) n (All-cons (Contains (words_of setup)) setup.modes.now [] (has_modes setup) (All-nil (Contains (words_of setup)))) has) reads.asks;
    counts = reads.counts;
    files = λ p away. reads.files p;
    guests = λ a not_peer not_local. reads.guests a;
  }

  pub door_touches : (G : DoorMeaning Door DoorIn DoorOut) (address : List ℕ) (old new : H) (door : Door) → Contains (words_of setup) address
      → ((a : List ℕ) → a ≢ setup.peer.now → a ≢ setup.local.now → a ≢ address) → OpensDoor M G address old new door → Touches M setup old new
  door_touches G address old new door has other opens = record {
    asks = record { more = address ∷ []; are = opens.names; each = All-cons (Contains (words_of setup)) address [] has (All-nil (Contains (words_of setup))) };
    counts = counts_same M old new opens.faults opens.reads opens.writes;
    files = λ p away. opens.files p;
    guests = λ a not_peer not_local. opens.guests a (other a not_peer not_local);
  }

  pub doors_touches : (G : DoorMeaning Door DoorIn DoorOut) (old new : H) (peer local : Door) → OpensDoors M G setup old new peer local → Touches M setup old new
  doors_touches G old new peer local doors =
      touches_then M setup old doors.first new
      (door_touches G setup.peer.now old doors.first peer (has_peer setup) (λ a not_peer not_local. not_peer) doors.at_peer)
      (door_touches G setup.local.now doors.first new local (has_local setup) (λ a not_peer not_local. not_local) doors.at_local)

  pub store_touches : (S : DiskMeaning Store) (old new : H) (disk : Store) → OpensStore M S setup.journal.now old new disk → Touches M setup old new
  store_touches S old new disk opens = record {
    asks = record { more = files_of setup.journal.now; are = opens.names; each = has_files setup };
    counts = counts_same M old new opens.faults opens.reads opens.writes;
    files = opens.files;
    guests = λ a not_peer not_local. opens.guests a;
  }

  pub settled_store_touches : (S : DiskMeaning Store) (old new : H) (disk : Store) → SettlesStore M S setup.journal.now old new disk → Touches M setup old new
  settled_store_touches S old new disk settles = record {
    asks = asks_none M (words_of setup) old new settles.names;
    counts = record { faults = settles.counted; reads = omega (arith, settles.reads); writes = omega (arith, settles.writes) };
    files = settles.files;
    guests = λ a not_peer not_local. settles.guests a;
  }

-- the files of a journal have the paths that it gives, and no two of them have one
pub path_is : (journal : List ℕ) (paths : Paths) → AreOf journal paths → (q : Part) → path_of paths q ≡ file_of journal q
path_is journal paths are Leaf0 = are.leaf0
path_is journal paths are Leaf1 = are.leaf1
path_is journal paths are Selector = are.selector

pub names_are : (journal : List ℕ) (paths : Paths) → AreOf journal paths → names_of paths ≡ files_of journal
names_are journal paths are =
    ap (λ a. a ∷ paths.leaf1.now ∷ paths.selector.now ∷ []) are.leaf0 ∙ ap (λ b. journal ∷ b ∷ paths.selector.now ∷ []) are.leaf1
    ∙ ap (λ c. journal ∷ (journal ++ codes ".1") ∷ c ∷ []) are.selector

longer_by : (journal more : List ℕ) → 0 < length more → journal ++ more ≡ journal → ⊥
longer_by journal more some same = let long : length (journal ++ more) ≡ length journal = ap length same in omega (arith, long, length-append journal more, some)

one_some : 0 < length (codes ".1")
one_some = let long : length (codes ".1") ≡ 2 = refl in omega (arith, long)

s_some : 0 < length (codes ".s")
s_some = let long : length (codes ".s") ≡ 2 = refl in omega (arith, long)

differ : codes ".s" ≡ codes ".1" → ⊥
differ same = let wrong : 115 ≡ 49 = ap (λ l. get_or l 1 0) same in omega (arith, wrong)

pub apart : (journal : List ℕ) (q r : Part) → file_of journal r ≡ file_of journal q → r ≡ q
apart journal Leaf0 Leaf0 same = refl
apart journal Leaf1 Leaf1 same = refl
apart journal Selector Selector same = refl
apart journal Leaf0 Leaf1 same = absurd (longer_by journal (codes ".1") one_some same)
apart journal Leaf0 Selector same = absurd (longer_by journal (codes ".s") s_some same)
apart journal Leaf1 Leaf0 same = absurd (longer_by journal (codes ".1") one_some (sym same))
apart journal Selector Leaf0 same = absurd (longer_by journal (codes ".s") s_some (sym same))
apart journal Leaf1 Selector same = absurd (differ (append_cancel_left journal (codes ".s") (codes ".1") same))
apart journal Selector Leaf1 same = absurd (differ (append_cancel_left journal (codes ".s") (codes ".1") (sym same)))

-- in terms of the paths
pub other_path : (journal : List ℕ) (paths : Paths) (p : List ℕ) → AreOf journal paths → ((q : Part) → p ≢ file_of journal q) → (q : Part) → p ≢ path_of paths q
other_path journal paths p are other q is = other q (is ∙ path_is journal paths are q)

pub no_other : (journal : List ℕ) (paths : Paths) → AreOf journal paths → (q r : Part) → path_of paths r ≡ path_of paths q → r ≡ q
no_other journal paths are q r same = apart journal q r (sym (path_is journal paths are r) ∙ same ∙ path_is journal paths are q)

-- a file of a store that the host didn't open has the same bytes
pub made_or_same : (T : Type 0) (refusal : HostRefusal) (old new : Option (Option (List ℕ))) → IsMade {T = T} old new (Err refusal) → bytes_in new ≡ bytes_in old
made_or_same T refusal.HostFailed old new (inl same) = ap bytes_in same
made_or_same T refusal.HostFailed old new (inr is) = ap bytes_in is ∙ made_bytes old
made_or_same T refusal.NoMemory old new same = ap bytes_in same

-- the end by a refusal of the host
refused_cause : (T : Type 0) (Stored : Image → Type 0) (before after : ℕ) (refusal : HostRefusal) (end : HandlerEnd) → end ≡ end_by refusal
    → HasHostCause {T = T} before after (Err refusal) → IsOpeningCause Stored before after end
refused_cause T Stored before after refusal.HostFailed end is rises = subst (IsOpeningCause Stored before after) (sym is) rises.1
refused_cause T Stored before after refusal.NoMemory end is same = subst (IsOpeningCause Stored before after) (sym is) tt

-- a cause, over a longer time
pub cause_within : (Stored Here : Image → Type 0) (first before after last : ℕ) (end : HandlerEnd) → first ≤ before → after ≤ last
    → ((image : Image) → Stored image → Here image) → IsOpeningCause Here before after end → IsOpeningCause Stored first last end
cause_within Stored Here first before after last Served early late here cause = cause
cause_within Stored Here first before after last NoMemory early late here cause = tt
cause_within Stored Here first before after last HostFault early late here cause = omega (arith, early, late, cause)
cause_within Stored Here first before after last ModesRefused early late here cause = cause
cause_within Stored Here first before after last (NotJournal at) early late here cause = λ image stored. cause image (here image stored)

module _ {H Store Door Dialer Time Dice DoorIn DoorOut DialerIn DialerOut : Type 0} (M : HostMeaning H Store Door Dialer Time Dice DoorIn DoorOut DialerIn DialerOut) (setup : Setup) where
  -- the names and the counts of a call that the host refused
  refused_asks : (T : Type 0) (names : List (List ℕ)) (old new : H) (refusal : HostRefusal) → All (Contains (words_of setup)) names
      → M.names new ≡ asked {T = T} (Err refusal) names (M.names old) → Asks M (words_of setup) old new
  refused_asks T names old new refusal.HostFailed all is = record { more = names; are = is; each = all }
  refused_asks T names old new refusal.NoMemory all is = asks_none M (words_of setup) old new is

  refused_counts : (T : Type 0) (old new : H) (refusal : HostRefusal) → HasHostCause {T = T} (M.fault_count old) (M.fault_count new) (Err refusal)
      → M.reads new ≡ M.reads old → M.writes new ≡ M.writes old → CountsOn M old new
  refused_counts T old new refusal.HostFailed rises reads writes = record { faults = rises.0; reads = omega (arith, reads); writes = omega (arith, writes) }
  refused_counts T old new refusal.NoMemory same reads writes = record { faults = omega (arith, same); reads = omega (arith, reads); writes = omega (arith, writes) }

  -- a call that the host refused
  pub fails_refused : (T : Type 0) (names : List (List ℕ)) (old new : H) (refusal : HostRefusal) (end : HandlerEnd) → All (Contains (words_of setup)) names → end ≡ end_by refusal
      → M.names new ≡ asked {T = T} (Err refusal) names (M.names old) → HasHostCause {T = T} (M.fault_count old) (M.fault_count new) (Err refusal)
      → M.reads new ≡ M.reads old → M.writes new ≡ M.writes old
      → ((p : List ℕ) → ((q : Part) → p ≢ file_of setup.journal.now q) → M.file new p ≡ M.file old p)
      → ((q : Part) → bytes_in (M.file new (file_of setup.journal.now q)) ≡ bytes_in (M.file old (file_of setup.journal.now q)))
      → ((a : List ℕ) → M.guests new a ≡ M.guests old a) → FailsToOpen M setup old new end
  fails_refused T names old new refusal end all is names_are cause reads writes files bytes guests = record {
    touches = record {
      asks = refused_asks T names old new refusal all names_are;
      counts = refused_counts T old new refusal cause reads writes;
      files = files;
      guests = λ a not_peer not_local. guests a;
    };
    guests = guests;
    store = leaves_same M (λ modes. ⊥) setup.journal.now old new bytes;
    cause = refused_cause T (Stores M setup.journal.now old) (M.fault_count old) (M.fault_count new) refusal end is cause;
  }

  -- what failed, with what was opened before and given back after
  pub fails_around : (old first second new : H) (end : HandlerEnd) → Touches M setup old first
      → ((q : Part) → bytes_in (M.file first (file_of setup.journal.now q)) ≡ bytes_in (M.file old (file_of setup.journal.now q)))
      → FailsToOpen M setup first second end → Touches M setup second new
      → ((q : Part) → bytes_in (M.file new (file_of setup.journal.now q)) ≡ bytes_in (M.file second (file_of setup.journal.now q)))
      → ((a : List ℕ) → M.guests new a ≡ M.guests old a) → FailsToOpen M setup old new end
  fails_around old first second new end before before_same fails after after_same guests = record {
    touches = touches_then M setup old second new (touches_then M setup old first second before fails.touches) after;
    guests = guests;
    store = leaves_from M (λ modes. ⊥) setup.journal.now old first new before_same (leaves_to M (λ modes. ⊥) setup.journal.now first second new after_same fails.store);
    cause = cause_within (Stores M setup.journal.now old) (Stores M setup.journal.now first) (M.fault_count old) (M.fault_count first) (M.fault_count second) (M.fault_count new) end
        before.counts.faults after.counts.faults (λ image stored q. before_same q ∙ stored q) fails.cause;
  }

  module _ (S : DiskMeaning Store) where
    -- the end by a journal that wasn't opened, after its store was given back
    pub unopened_cause : (old middle new : H) (disk later : Store) (why : JournalFault) (end : HandlerEnd) → end ≡ end_unopened why → IsOpeningFault why
        → OpensStore M S setup.journal.now old middle disk → SettlesStore M S setup.journal.now middle new later
        → IsFault (S.fault_count disk) (S.fault_count later) why
        → ((at : ℕ) → why ≡ fault.NotJournal at → Told (S.seen disk) (λ b. IsNoJournal at (picked_leaf b)))
        → IsOpeningCause (Stores M setup.journal.now old) (M.fault_count old) (M.fault_count new) end
    unopened_cause old middle new disk later (fault.Disk before after) end is may opens settles (was, now, rises) no_journal =
        subst (IsOpeningCause (Stores M setup.journal.now old) (M.fault_count old) (M.fault_count new)) (sym is)
        (risen_by (M.fault_count old) (M.fault_count middle) (S.fault_count later) (M.fault_count new) (omega (arith, opens.faults)) (omega (arith, now, rises.1)) settles.faults)
    unopened_cause old middle new disk later (fault.NotJournal at) end is may opens settles cause no_journal =
        subst (IsOpeningCause (Stores M setup.journal.now old) (M.fault_count old) (M.fault_count new)) (sym is)
        (λ image stored. no_journal at refl image (reads_stored M S setup.journal.now old middle disk image opens stored))
    unopened_cause old middle new disk later fault.NoMemory end is may opens settles cause no_journal =
        subst (IsOpeningCause (Stores M setup.journal.now old) (M.fault_count old) (M.fault_count new)) (sym is) tt
    unopened_cause old middle new disk later (fault.Full size need) end is may opens settles cause no_journal = absurd may

    -- what the host says of the store that it opened, in terms of the journal's path
    pub opens_store : (paths : Paths) (old new : H) (disk : Store) → AreOf setup.journal.now paths → S.fault_count disk ≡ 0
        → ((q : Part) → part_of q (S.seen disk) ≡ bytes_in (M.file old (path_of paths q)))
        → Told (S.seen disk) (λ image. (c : Image) → S.may_leave disk c → (q : Part) → c q ≡ image q)
        → ((q : Part) → M.file new (path_of paths q) ≡ made (M.file old (path_of paths q))) → M.names new ≡ and_all (M.names old) (Some (names_of paths))
        → ((p : List ℕ) → ((q : Part) → p ≢ path_of paths q) → M.file new p ≡ M.file old p) → ((a : List ℕ) → M.guests new a ≡ M.guests old a)
        → M.fault_count new ≡ M.fault_count old → M.reads new ≡ M.reads old → M.writes new ≡ M.writes old → OpensStore M S setup.journal.now old new disk
    opens_store paths old new disk are fresh seen only files_are names files guests faults reads writes = record {
      fresh = fresh;
      seen = λ q. subst (λ p. part_of q (S.seen disk) ≡ bytes_in (M.file old p)) (path_is setup.journal.now paths are q) (seen q);
      only = only;
      files_are = λ q. subst (λ p. M.file new p ≡ made (M.file old p)) (path_is setup.journal.now paths are q) (files_are q);
      names = subst (λ all. M.names new ≡ and_all (M.names old) (Some all)) (names_are setup.journal.now paths are) names;
      files = λ p away. files p (other_path setup.journal.now paths p are away);
      guests = guests;
      faults = faults;
      reads = reads;
      writes = writes;
    }

    pub settles_store : (paths : Paths) (old new : H) (disk : Store) → AreOf setup.journal.now paths
        → ((q : Part) → ((r : Part) → path_of paths r ≡ path_of paths q → r ≡ q) → M.file new (path_of paths q) ≡ option_map Some (part_of q (S.seen disk)))
        → M.fault_count new ≡ raised (S.fault_count disk) (M.fault_count old) → M.fault_count old ≤ M.fault_count new
        → ((p : List ℕ) → ((q : Part) → p ≢ path_of paths q) → M.file new p ≡ M.file old p) → ((a : List ℕ) → M.guests new a ≡ M.guests old a)
        → M.names new ≡ M.names old → M.reads new ≡ M.reads old → M.writes new ≡ M.writes old → SettlesStore M S setup.journal.now old new disk
    settles_store paths old new disk are kept faults counted files guests names reads writes = record {
      kept = λ q. subst (λ p. M.file new p ≡ option_map Some (part_of q (S.seen disk))) (path_is setup.journal.now paths are q) (kept q (no_other setup.journal.now paths are q));
      faults = faults;
      counted = counted;
      files = λ p away. files p (other_path setup.journal.now paths p are away);
      guests = guests;
      names = names;
      reads = reads;
      writes = writes;
    }

-- the paths of the files are among names that were asked for
pub has_path : (journal : List ℕ) (paths : Paths) → AreOf journal paths → (all : List (List ℕ)) → All (Contains all) (files_of journal) → (q : Part) → Contains all (path_of paths q)
has_path journal paths are all known q = subst (Contains all) (sym (path_is journal paths are q)) (by_part q) where
  by_part : (q : Part) → Contains all (file_of journal q)
  by_part Leaf0 = All-head (Contains all) journal (file_of journal Leaf1 ∷ file_of journal Selector ∷ []) known
  by_part Leaf1 = All-head (Contains all) (file_of journal Leaf1) (file_of journal Selector ∷ []) (All-tail (Contains all) journal (file_of journal Leaf1 ∷ file_of journal Selector ∷ []) known)
  by_part Selector = All-head (Contains all) (file_of journal Selector) [] (All-tail (Contains all) (file_of journal Leaf1) (file_of journal Selector ∷ [])
      (All-tail (Contains all) journal (file_of journal Leaf1 ∷ file_of journal Selector ∷ []) known))
