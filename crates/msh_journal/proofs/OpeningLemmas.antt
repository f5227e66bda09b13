-- What a journal that was opened gives back, and what the disk reopens as meanwhile.
use Rattle.std.proofs.Common.{◌≡◌, ◌⊎◌, inl, inr, ⊎_elim, ℕ, ◌+◌, ◌*◌, ◌<◌, ◌≤◌, ◌^◌, List, [], ◌∷◌, ◌++◌, Some, IsNone, length, take, refl, sym, ap, subst, ◌∙◌, arith}
use Rattle.std.specs.List.{sum_by}
use Rattle.std.proofs.lemmas.Bool.{cases_lt}
use Rattle.as4_disk.specs.declared.disk.Disk.{Ghosts as DiskMeaning}
use Rattle.as4_disk.specs.Image.{Image}
use Rattle.as4_disk.specs.Leaving.{FirstThen, LeavesOnly}
use Rattle.as4_disk.proofs.RunLemmas.{then, weaken}
use Rattle.as4_flow.specs.Flow.{Told}
use Rattle.exchange_model.specs.End.{End, empty_end}
use Rattle.exchange_model.specs.Fold.{IsFoldedSize, folded_size, resized}
use Rattle.fold_laws.specs.Reached.{IsReached}
use Rattle.fold_laws.proofs.ReachedLemmas.{reached_applied, reached_first}
use Rattle.fold_laws.proofs.SomeFold.{reached_written, some_fold}
use Rattle.journal.specs.Leaf.{HasMagic, IsNew, Lists, front_of, limit_of, magic_of, number_of}
use Rattle.journal.specs.State.{HasRead}
use Rattle.journal.specs.Store.{InVersion, KeepsLeaf, OpensSettled, Reopens, picked_leaf}
use Rattle.journal.specs.declared.journal.Journal.{Journal}
use Rattle.journal.specs.declared.version.Version.{Version}
use Rattle.journal.specs.declared.version.Version.TheVariants.{One, Two}
use Rattle.journal.proofs.JournalLaws.{keeps_lists, keeps_reopens, keeps_version, read_front}
use Rattle.journal.proofs.LeafLemmas.{magics_differ}
use Rattle.journal.proofs.OtherLemmas.{first_weaken}
use Rattle.journal.proofs.StoreLemmas.{keeps_pending, keeps_records, lists_once, magic_in, whole_lists}
use Rattle.msh_recovery.specs.Opens.{HasPendingEnd, IsAt, IsFoldedOf, IsMigrated, IsOld, OpensAs, OpensBy, OpensOnly, OpensWith, ReadsAs, ReopensAs}
use Rattle.msh_recovery.specs.Records.{RecordsLead}
use Rattle.msh_recovery.specs.Unfit.{IsNoJournal}
use Rattle.msh_recovery.proofs.OpenLemmas.{opens_weaker, reopens_as, settled_opens}
use Rattle.msh_recovery.proofs.RecordLemmas.{HasOneBody, one_end}
use Rattle.msh_recovery.proofs.SizeLemmas.{front_len, size_of_end}
use Rattle.inbox.specs.Spots.{Spot}
use Rattle.msh_journal.specs.Payloads.{HasPayloads, IsJournalWith}
use Rattle.msh_journal.specs.Reading.{HasReplayedAll}
use Rattle.msh_journal.proofs.RunLemmas.{first_all, first_then_next}

-- ---- where the leaf is kept, the disk opens to the same end

opens_kept : (b d : Image) → KeepsLeaf b d → (bodies : List (List ℕ)) (end : End) (P : End → Type 0) → OpensBy bodies b end P → OpensBy bodies d end P
opens_kept b d keeps bodies end P by = record {
  records = keeps_records b d keeps bodies by.records;
  leads = by.leads;
  pending = λ body has. by.pending body (keeps_pending b d keeps bodies body has);
}

pending_kept : (b d : Image) → KeepsLeaf b d → (end next : End) → HasPendingEnd d end next → HasPendingEnd b end next
pending_kept b d keeps end next was = record {
  bodies = was.bodies;
  body = was.body;
  leads = was.leads;
  has = keeps_pending b d keeps was.bodies was.body was.has;
  on = was.on;
}

-- a leaf of version 1 was one before
old_kept : (b d : Image) → KeepsLeaf b d → IsOld (picked_leaf d) → IsOld (picked_leaf b)
old_kept b d keeps = keeps_version One b d keeps

pub reopens_then : (b d c : Image) → KeepsLeaf b d → ReopensAs d c → ReopensAs b c
reopens_then b d c keeps reopens = record { version = λ old. was_old (reopens.version old); opens = opens }
  where
    was_old : IsOld (picked_leaf d) → IsOld (picked_leaf b)
    was_old = old_kept b d keeps

    opens : (end : End) → OpensAs b end
        → (OpensWith c end (HasPendingEnd b end) ⊎ IsMigrated b c end) ⊎ ((next : End) × HasPendingEnd b end next × (OpensOnly c next ⊎ IsMigrated b c next))
    opens end (bodies, by) =
        ⊎_elim
        (λ (here : OpensWith c end (HasPendingEnd d end) ⊎ IsMigrated d c end).
        ⊎_elim
        (λ (same : OpensWith c end (HasPendingEnd d end)). inl (inl (opens_weaker (HasPendingEnd d end) (HasPendingEnd b end) c end (pending_kept b d keeps end) same)))
        (λ (folded : IsMigrated d c end). inl (inr (was_old folded.0, folded.1)))
        here)
        (λ (later : (next : End) × HasPendingEnd d end next × (OpensOnly c next ⊎ IsMigrated d c next)).
        inr (
          later.0,
          pending_kept b d keeps end later.0 later.1,
          ⊎_elim (λ (only : OpensOnly c later.0). inl only) (λ (folded : IsMigrated d c later.0). inr (was_old folded.0, folded.1)) later.2,
        ))
        (reopens.opens end (bodies, opens_kept b d keeps bodies end (λ next. Unit {0}) by))

pub reads_kept : (b d : Image) (end : End) → KeepsLeaf b d → ReadsAs d end → ReadsAs b end
reads_kept b d end keeps (bodies, lists, leads) = (bodies, keeps_lists bodies b d keeps lists, leads)

-- what is no journal was none when the disk was opened
pub no_journal_kept : (at : ℕ) (b d : Image) → KeepsLeaf b d → IsNoJournal at (picked_leaf d) → IsNoJournal at (picked_leaf b)
no_journal_kept at b d (inl same) is =
    let P : List ℕ → Type 0 = IsNoJournal at in
    subst P same is
no_journal_kept at b d (inr new) is = absurd (omega (arith, new.1, is.0))

-- ---- while the journal is folded

-- a leaf of version 1
module _ (b c : Image) (old : IsOld (picked_leaf b)) (bodies : List (List ℕ)) (lists : Lists bodies (picked_leaf b)) where
  same_bodies : (others : List (List ℕ)) (end : End) → OpensBy others b end (λ next. Unit {0}) → RecordsLead bodies empty_end end
  same_bodies others end by =
      let P : List (List ℕ) → Type 0 = λ l. RecordsLead l empty_end end in
      subst P (lists_once others bodies (picked_leaf b) (whole_lists others (picked_leaf b) by.records) lists) by.leads

  pub settled_reopens : OpensSettled bodies c → ReopensAs b c
  settled_reopens opens = record {
    version = λ is. old;
    opens = λ end opened. inl (inl (settled_opens (HasPendingEnd b end) bodies end c (same_bodies opened.0 end opened.1) opens));
  }

  pub folded_reopens : HasOneBody → (end : End) (size : ℕ) → RecordsLead bodies empty_end end → IsFoldedSize end size → IsAt c (resized size end) → ReopensAs b c
  folded_reopens one end size leads folded at = record {
    version = λ is. old;
    opens = λ other opened.
        let is : end ≡ other = one_end one bodies empty_end end other leads (same_bodies opened.0 other opened.1) in
        let Q : End → Type 0 = λ e. IsFoldedOf c e in
        inl (inr (old, subst Q is (size, folded, at)));
  }

leads_reached : (bodies : List (List ℕ)) (start end : End) → IsReached start → RecordsLead bodies start end → IsReached end
leads_reached [] start end reached here = subst IsReached here reached
leads_reached (body ∷ bodies) start end reached (next, (effects, is, fits, leads), rest) =
    leads_reached bodies next end (subst IsReached (sym leads) (reached_applied start effects reached fits)) rest

-- where records led to the end, it has a fold
pub has_folded_size : (bodies : List (List ℕ)) (end : End) → RecordsLead bodies empty_end end → (size : ℕ) × IsFoldedSize end size
has_folded_size bodies end leads =
    let found = some_fold end (reached_written end (leads_reached bodies empty_end end reached_first leads)) in
    (folded_size found.0, (found.0, found.1, refl))

-- ---- versions

pub each_version : (version : Version) → (version ≡ One) ⊎ (version ≡ Two)
each_version One = inl refl
each_version Two = inr refl

pub is_two : (version : Version) → number_of version ≡ 2 → version ≡ Two
is_two One is = absurd cc
is_two Two is = refl

pub is_one : (version : Version) → (number_of version ≡ 2 → ⊥) → version ≡ One
is_one One differs = refl
is_one Two differs = absurd (differs refl)

module _ {D : Type 0} (M : DiskMeaning D) where
  module _ (journal : Journal D) (b d : Image) (keeps : KeepsLeaf b d) (read : HasRead M journal []) (told : M.seen journal.disk ≡ Some d) (new : IsNew (picked_leaf d) → journal.version ≡ Two) where
    front : (rest : List ℕ) × (picked_leaf d ≡ front_of journal.version [] ++ rest) × (length (front_of journal.version []) < limit_of journal.version)
    front = read_front M journal [] d read told

    magic : HasMagic journal.version (picked_leaf d)
    magic = magic_in journal.version [] front.0 (picked_leaf d) front.1

    -- where it has version 1, the leaf was old
    pub is_old : journal.version ≡ One → IsOld (picked_leaf b)
    is_old is = old_kept b d keeps (long (cases_lt 9 (length (picked_leaf d))), magic ∙ ap (λ (v : Version). magic_of v) is)
      where
        long : (9 < length (picked_leaf d)) ⊎ (length (picked_leaf d) ≤ 9) → 9 < length (picked_leaf d)
        long (inl more) = more
        long (inr short) = let differs : One ≡ Two = sym is ∙ new short in absurd cc

    -- and where it was old, it has version 1
    pub old_version : IsOld (picked_leaf b) → journal.version ≡ One
    old_version old = by_keeps keeps (each_version journal.version)
      where
        by_keeps : KeepsLeaf b d → (journal.version ≡ One) ⊎ (journal.version ≡ Two) → journal.version ≡ One
        by_keeps any (inl is) = is
        by_keeps (inr short) (inr is) = absurd (omega (arith, old.0, short.0))
        by_keeps (inl same) (inr is) =
            absurd (magics_differ (ap (λ (v : Version). magic_of v) (sym is) ∙ sym magic ∙ ap (λ (l : List ℕ). take 8 l) same ∙ old.1))

    -- one that wasn't has version 2
    pub young_version : (IsOld (picked_leaf b) → ⊥) → journal.version ≡ Two
    young_version young = ⊎_elim (λ (is : journal.version ≡ One). absurd (young (is_old is))) (λ (is : journal.version ≡ Two). is) (each_version journal.version)

    -- the end that was read, with the journal folded or as it was
    pub opened_end : (end other : End) → ReadsAs d end → (journal.version ≡ One → (size : ℕ) × IsFoldedSize end size × (other ≡ resized size end)) → (journal.version ≡ Two → other ≡ end)
        → ReadsAs b end × (IsOld (picked_leaf b) → (size : ℕ) × IsFoldedSize end size × (other ≡ resized size end)) × ((IsOld (picked_leaf b) → ⊥) → other ≡ end)
    opened_end end other reads was_one was_two =
        (reads_kept b d end keeps reads, λ old. was_one (old_version old), λ young. was_two (young_version young))

  -- a journal of which all was read has the payloads
  pub all_held : (first now : Journal D) (end : End) (places : List Spot) (bodies : List (List ℕ)) → HasReplayedAll M first now end places bodies
      → Told (M.seen now.disk) (λ b. HasRead M first []) → HasPayloads M end places now
  all_held first now end places bodies all read b told = (bodies, all.records (read b told), all.held)

  -- a journal of version 2 of which all was read
  pub whole_journal : (first now : Journal D) (end : End) (places : List Spot) (bodies : List (List ℕ)) → HasReplayedAll M first now end places bodies → now.version ≡ Two → IsNone first.fold
      → Told (M.seen now.disk) (λ b. HasRead M first []) → IsJournalWith M end places now
  whole_journal first now end places bodies all two none read =
      let P : Version → Type 0 = λ v. now.gate ≡ length (front_of v bodies) in
      let place : now.gate ≡ length (front_of Two bodies) = subst P two all.place in
      record {
        is = record {
          version = two;
          no_fold = subst IsNone (sym all.fold) none;
          size = omega (arith, place, size_of_end bodies end all.leads);
          records = λ b told. (bodies, all.records (read b told), all.leads);
        };
        held = all_held first now end places bodies all read;
      }

  -- and its end is the one that was read
  pub read_end : (first now : Journal D) (end : End) (places : List Spot) (bodies : List (List ℕ)) → HasReplayedAll M first now end places bodies → now.version ≡ Two → HasRead M first []
      → Told (M.seen first.disk) (λ b. (x : End) × ReadsAs b x × (first.version ≡ One → (size : ℕ) × IsFoldedSize x size × (end ≡ resized size x)) × (first.version ≡ Two → end ≡ x))
  read_end first now end places bodies all two has b told =
      (end, (bodies, all.all has b told, all.leads), λ was. let differs : One ≡ Two = sym was ∙ sym all.version ∙ two in absurd cc, λ was. refl)

  -- of version 1, and the fold is short
  pub short_fold : (first now : Journal D) (end : End) (places : List Spot) (bodies : List (List ℕ)) → HasReplayedAll M first now end places bodies → now.version ≡ One
      → (size : ℕ) → size ≤ 29 + 4 * sum_by length bodies → size < 2 ^ 32
  short_fold first now end places bodies all one size most =
      let P : Version → Type 0 = λ v. now.gate ≡ length (front_of v bodies) in
      let Q : Version → Type 0 = λ v. now.gate < limit_of v in
      let place : now.gate ≡ length (front_of One bodies) = subst P one all.place in
      let within : now.gate < limit_of One = subst Q one all.within in
      omega (arith, place, within, front_len One bodies, most)

  -- and its fold gives the end with another size
  pub folded_end : (first now : Journal D) (end new : End) (places : List Spot) (bodies : List (List ℕ)) → HasReplayedAll M first now end places bodies → now.version ≡ One
      → ((size : ℕ) → IsFoldedSize end size → new ≡ resized size end) → HasRead M first []
      → Told (M.seen first.disk) (λ b. (x : End) × ReadsAs b x × (first.version ≡ One → (size : ℕ) × IsFoldedSize x size × (new ≡ resized size x)) × (first.version ≡ Two → new ≡ x))
  folded_end first now end new places bodies all one law has b told =
      let size = has_folded_size bodies end all.leads in
      (end, (bodies, all.all has b told, all.leads), λ was. (size.0, size.1, law size.0 size.1), λ two. let differs : One ≡ Two = sym one ∙ all.version ∙ two in absurd cc)

module _ {D : Type 0} (M : DiskMeaning D) where
  -- while all is read
  pub reread_run : (old new : D) (b : Image) → LeavesOnly M old new (Reopens b) → LeavesOnly M old new (ReopensAs b)
  reread_run old new b = weaken M old new (Reopens b) (ReopensAs b) (reopens_as b)

  -- and while the journal is folded
  pub refolded_run : HasOneBody → (version : Version) (old mid new : D) (b : Image) (bodies : List (List ℕ)) (end : End) (size : ℕ) → IsOld (picked_leaf b) → Lists bodies (picked_leaf b) → RecordsLead bodies empty_end end → IsFoldedSize end size
      → LeavesOnly M old mid (Reopens b) → FirstThen M mid new (InVersion version (OpensSettled bodies)) (λ (c : Image). InVersion version (OpensSettled bodies) c ⊎ IsAt c (resized size end))
      → LeavesOnly M old new (ReopensAs b)
  refolded_run one version old mid new b bodies end size is_old lists leads folded reads folds =
      then M old mid new (ReopensAs b) (reread_run old mid b reads)
      (first_all M mid new (InVersion version (OpensSettled bodies)) (λ (c : Image). InVersion version (OpensSettled bodies) c ⊎ IsAt c (resized size end)) (ReopensAs b)
      (λ c settled. settled_reopens b c is_old bodies lists settled.0)
      (λ c either. ⊎_elim (λ (settled : InVersion version (OpensSettled bodies) c). settled_reopens b c is_old bodies lists settled.0) (λ (at : IsAt c (resized size end)). folded_reopens b c is_old bodies lists one end size leads folded at) either)
      folds)

  -- while the leaf is settled
  pub settling_run : (old new : D) (may_leave : Image → Type 0) (b : Image) → FirstThen M old new may_leave (KeepsLeaf b) → FirstThen M old new may_leave (ReopensAs b)
  settling_run old new may_leave b =
      first_weaken M old new may_leave (KeepsLeaf b) may_leave (ReopensAs b) (λ c may. may) (λ c keeps. reopens_as b c (keeps_reopens b c keeps))

  -- and then brought up
  pub opening_run : (old mid new : D) (may_leave : Image → Type 0) (b d : Image) → KeepsLeaf b d → FirstThen M old mid may_leave (KeepsLeaf b) → LeavesOnly M mid new (ReopensAs d)
      → FirstThen M old new may_leave (ReopensAs b)
  opening_run old mid new may_leave b d keeps settles brings =
      first_then_next M old mid new may_leave (ReopensAs b) (settling_run old mid may_leave b settles)
      (weaken M mid new (ReopensAs d) (ReopensAs b) (λ c reopens. reopens_then b d c keeps reopens) brings)
