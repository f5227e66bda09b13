-- What an audit reads of its host.
use Rattle.std.proofs.Common.{◌≡◌, ◌⊎◌, ℕ, suc, Bool, true, false, if◌then◌else◌, List, [], ◌∷◌, Contains, refl, ap, subst, ◌∙◌, inl, inr, arith}
use Rattle.std.proofs.lemmas.List.Elements.{All-cons, All-contains, All-nil}
use Rattle.as4_disk.specs.declared.part.Part.TheVariants.{Leaf0, Leaf1, Selector}
use Rattle.as4_flow.specs.Flow.{Rose}
use Rattle.as4_host.specs.Files.{bytes_in}
use Rattle.as4_host.specs.declared.host.Host.{Ghosts as HostMeaning}
use Rattle.auditor.specs.Auditing.{Holds, IsUnpicked, IsUnread, Picks, ReadsAmong}
use Rattle.auditor.specs.declared.ending.AuditEnd.{AuditEnd}
use Rattle.auditor.specs.declared.ending.AuditEnd.TheVariants.{Yes, No, NoMemory, WriteFault, ModesRefused, HostFault, NotJournal, TooLong}
use Rattle.handler.specs.Handling.{Reads}
use Rattle.handler.specs.Hosts.{file_of, files_of}
use Rattle.handler.proofs.HostLemmas.{asks_then, asks_within, counts_then}
use Rattle.journal.specs.Store.{leaf_of, picks}

-- a name among these
among : (words : List (List ℕ)) (word : List ℕ) → Contains words word → (n : List ℕ) → Contains (word ∷ []) n → Contains words n
among words word has n one = All-contains (Contains words) (word ∷ []) n (All-cons (Contains words) word [] has (All-nil (Contains words))) one

module _ {H Store Door Dialer Time Dice DoorIn DoorOut DialerIn DialerOut : Type 0} (M : HostMeaning H Store Door Dialer Time Dice DoorIn DoorOut DialerIn DialerOut) where
  pub reads_within : (few many : List (List ℕ)) (old new : H) → ((n : List ℕ) → Contains few n → Contains many n) → ReadsAmong M few old new → ReadsAmong M many old new
  reads_within few many old new within reads = record {
    asks = asks_within M few many old new within reads.asks;
    counts = reads.counts;
    files = reads.files;
    guests = reads.guests;
  }

  pub reads_one : (words : List (List ℕ)) (word : List ℕ) (old new : H) → Contains words word → ReadsAmong M (word ∷ []) old new → ReadsAmong M words old new
  reads_one words word old new has reads = reads_within (word ∷ []) words old new (among words word has) reads

  pub reads_then : (words : List (List ℕ)) (old middle new : H) → ReadsAmong M words old middle → ReadsAmong M words middle new → ReadsAmong M words old new
  reads_then words old middle new first last = record {
    asks = asks_then M words old middle new first.asks last.asks;
    counts = counts_then M old middle new first.counts last.counts;
    files = λ p. last.files p ∙ first.files p;
    guests = λ a. last.guests a ∙ first.guests a;
  }

  pub reads_modes : (modes journal : List ℕ) (old new : H) → Reads M modes old new → ReadsAmong M (modes ∷ files_of journal) old new
  reads_modes modes journal old new reads =
      reads_one (modes ∷ files_of journal) modes old new (0, omega arith, refl) (record { asks = reads.asks; counts = reads.counts; files = reads.files; guests = reads.guests })

  tail_has : (modes : List ℕ) (rest : List (List ℕ)) (n : List ℕ) → Contains rest n → Contains (modes ∷ rest) n
  tail_has modes rest n (k, within, is) = (suc k, omega (arith, within), is)

  pub reads_files : (modes journal : List ℕ) (old new : H) → ReadsAmong M (files_of journal) old new → ReadsAmong M (modes ∷ files_of journal) old new
  reads_files modes journal old new reads = reads_within (files_of journal) (modes ∷ files_of journal) old new (tail_has modes (files_of journal)) reads

  -- the selector and one of the leaves
  pub reads_pair : (first second selector path : List ℕ) (old middle new : H) → (path ≡ first) ⊎ (path ≡ second)
      → ReadsAmong M (selector ∷ []) old middle → ReadsAmong M (path ∷ []) middle new → ReadsAmong M (first ∷ second ∷ selector ∷ []) old new
  reads_pair first second selector path old middle new (inl is) one two =
      let words : List (List ℕ) = first ∷ second ∷ selector ∷ [] in
      reads_then words old middle new (reads_one words selector old middle (2, omega arith, refl) one)
      (reads_one words first middle new (0, omega arith, refl) (subst (λ p. ReadsAmong M (p ∷ []) middle new) is two))
  reads_pair first second selector path old middle new (inr is) one two =
      let words : List (List ℕ) = first ∷ second ∷ selector ∷ [] in
      reads_then words old middle new (reads_one words selector old middle (2, omega arith, refl) one)
      (reads_one words second middle new (1, omega arith, refl) (subst (λ p. ReadsAmong M (p ∷ []) middle new) is two))

  path_picked : (journal second : List ℕ) (b : Bool) → second ≡ file_of journal Leaf1 → (if b then second else journal) ≡ file_of journal (leaf_of b)
  path_picked journal second true is = is
  path_picked journal second false is = refl

  pub picked_by : (journal selector second bytes leaf : List ℕ) (host : H) → selector ≡ file_of journal Selector → second ≡ file_of journal Leaf1
      → Holds M host selector bytes → Holds M host (if picks bytes then second else journal) leaf → Picks M journal host leaf
  picked_by journal selector second bytes leaf host selector_is second_is selects held = record {
    selector = bytes;
    selects = subst (λ p. Holds M host p bytes) selector_is selects;
    picked = subst (λ p. Holds M host p leaf) (path_picked journal second (picks bytes) second_is) held;
  }

  pub unpicked_by : (journal selector second : List ℕ) (host : H) (faults : ℕ) (end : AuditEnd) → selector ≡ file_of journal Selector → second ≡ file_of journal Leaf1
      → IsUnread M selector host faults end ⊎ IsUnread M journal host faults end ⊎ IsUnread M second host faults end → IsUnpicked M journal host faults end
  unpicked_by journal selector second host faults end selector_is second_is (inl unread) = inr (Selector, subst (λ p. IsUnread M p host faults end) selector_is unread)
  unpicked_by journal selector second host faults end selector_is second_is (inr (inl unread)) = inr (Leaf0, unread)
  unpicked_by journal selector second host faults end selector_is second_is (inr (inr unread)) = inr (Leaf1, subst (λ p. IsUnread M p host faults end) second_is unread)

  -- the same, as the host was before the modes file was read
  pub picked_before : (journal leaf : List ℕ) (old host : H) → ((p : List ℕ) → M.file host p ≡ M.file old p) → Picks M journal host leaf → Picks M journal old leaf
  picked_before journal leaf old host same picked = record {
    selector = picked.selector;
    selects = λ held is. picked.selects held (ap bytes_in (same (file_of journal Selector)) ∙ is);
    picked = λ held is. picked.picked held (ap bytes_in (same (file_of journal (leaf_of (picks picked.selector)))) ∙ is);
  }

  unread_before : (path : List ℕ) (old host : H) (faults : ℕ) (end : AuditEnd) → M.file host path ≡ M.file old path → M.fault_count host ≡ M.fault_count old
      → IsUnread M path host faults end → IsUnread M path old faults end
  unread_before path old host faults NoMemory same count unread = tt
  unread_before path old host faults HostFault same count unread = subst (λ n. Rose n faults) count unread
  unread_before path old host faults TooLong same count unread = λ held is. unread held (same ∙ is)
  unread_before path old host faults Yes same count unread = absurd unread
  unread_before path old host faults No same count unread = absurd unread
  unread_before path old host faults WriteFault same count unread = absurd unread
  unread_before path old host faults ModesRefused same count unread = absurd unread
  unread_before path old host faults (NotJournal at) same count unread = absurd unread

  pub unpicked_before : (journal : List ℕ) (old host : H) (faults : ℕ) (end : AuditEnd) → ((p : List ℕ) → M.file host p ≡ M.file old p)
      → M.fault_count host ≡ M.fault_count old → IsUnpicked M journal host faults end → IsUnpicked M journal old faults end
  unpicked_before journal old host faults end same count (inl none) = inl none
  unpicked_before journal old host faults end same count (inr (part, unread)) =
      inr (part, unread_before (file_of journal part) old host faults end (same (file_of journal part)) count unread)
