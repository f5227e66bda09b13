-- A journal that has all it had is that of the same endpoint.
use Rattle.std.proofs.Common.{◌≡◌, ℕ, ◌+◌, Bool, not, is_some, List, IsNone, ap, sym, subst, ◌∙◌}
use Rattle.std.proofs.lemmas.Option.{same_Some}
use Rattle.as4_disk.specs.Leaving.{Quiet}
use Rattle.as4_disk.specs.declared.disk.Disk.{Ghosts as DiskMeaning}
use Rattle.exchange_model.specs.End.{End}
use Rattle.inbox.specs.Spots.{Spot}
use Rattle.journal.specs.State.{HasFold, HasRecords}
use Rattle.journal.specs.Store.{is_second_of, leaf_of}
use Rattle.journal.specs.declared.journal.Journal.{Journal}
use Rattle.journal.specs.declared.version.Version.{Version}
use Rattle.msh_journal.specs.Keeping.{StaysJournal}
use Rattle.msh_journal.specs.Payloads.{HasPayloads, HoldsPayloads, IsJournalWith}
use Rattle.msh_journal.proofs.RunLemmas.{told_before}
use Rattle.msh_recovery.specs.Opens.{IsJournalOf}

module _ {D : Type 0} (M : DiskMeaning D) (old new : Journal D) where
  -- the journal of an endpoint, and with its payloads
  module _ (gate : new.gate ≡ old.gate) (version : new.version ≡ old.version) (closed : IsNone old.fold → IsNone new.fold) (tells : is_some (M.seen new.disk) ≡ is_some (M.seen old.disk))
      (records : (bodies : List (List ℕ)) → HasRecords M old bodies → HasRecords M new bodies) where
    pub journal_kept : (end : End) → IsJournalOf M end old → IsJournalOf M end new
    journal_kept end is = record {
      version = version ∙ is.version;
      no_fold = closed is.no_fold;
      size = is.size ∙ ap (λ (n : ℕ). n + 1) (sym gate);
      records = λ b told.
          let was = told_before (M.seen old.disk) (M.seen new.disk) b tells told in
          let had = is.records was.0 was.1 in
          (had.0, records had.0 had.1, had.2);
    }

    pub held_kept : (end : End) (places : List Spot) → HasPayloads M end places old → HasPayloads M end places new
    held_kept end places held b told =
        let was = told_before (M.seen old.disk) (M.seen new.disk) b tells told in
        let had = held was.0 was.1 in
        (had.0, records had.0 had.1, subst (λ (v : Version). HoldsPayloads v had.0 end places) (sym version) had.2)

    pub with_kept : (end : End) (places : List Spot) → IsJournalWith M end places old → IsJournalWith M end places new
    with_kept end places has = record { is = journal_kept end has.is; held = held_kept end places has.held }

  -- a read
  tells_still : StaysJournal M old new → is_some (M.seen new.disk) ≡ is_some (M.seen old.disk)
  tells_still stays = ap is_some stays.quiet.same

  closed_still : StaysJournal M old new → IsNone old.fold → IsNone new.fold
  closed_still stays none = subst IsNone (sym stays.fold) none

  pub stays_of : StaysJournal M old new → (end : End) → IsJournalOf M end old → IsJournalOf M end new
  stays_of stays = journal_kept stays.gate stays.version (closed_still stays) (tells_still stays) stays.records

  pub stays_with : StaysJournal M old new → (end : End) (places : List Spot) → IsJournalWith M end places old → IsJournalWith M end places new
  stays_with stays = with_kept stays.gate stays.version (closed_still stays) (tells_still stays) stays.records

  -- a read that keeps the records keeps an open fold, too
  pub a_read_keeps_a_fold : new.gate ≡ old.gate → new.version ≡ old.version → new.fold ≡ old.fold → M.seen new.disk ≡ M.seen old.disk
      → ((bodies : List (List ℕ)) → HasRecords M old bodies → HasRecords M new bodies) → (bodies folded : List (List ℕ)) → HasFold M old bodies folded → HasFold M new bodies folded
  a_read_keeps_a_fold gate version fold same records bodies folded has =
      let had : HasRecords M old bodies = record { rest = has.rest; settled = has.settled; place = has.place; within = has.within; ahead = has.ahead } in
      let now = records bodies had in
      let image : now.settled.image ≡ has.settled.image = same_Some _ _ (sym now.settled.told ∙ same ∙ has.settled.told) in
      let second : new.is_second ≡ old.is_second = sym now.settled.picked ∙ ap is_second_of image ∙ has.settled.picked in
      record {
        rest = now.rest;
        settled = now.settled;
        place = now.place;
        within = now.within;
        ahead = now.ahead;
        other = λ b told. ap (λ (s : Bool). b (leaf_of (not s))) second ∙ has.other b (sym same ∙ told);
        fold_place = fold ∙ has.fold_place;
        fold_within = has.fold_within;
      }

  pub stays_read : (new.gate ≡ old.gate) × (new.version ≡ old.version) × (new.fold ≡ old.fold) → Quiet M old.disk new.disk
      → ((bodies : List (List ℕ)) → HasRecords M old bodies → HasRecords M new bodies) → StaysJournal M old new
  stays_read same quiet records = record {
    gate = same.0;
    version = same.1;
    fold = same.2;
    records = records;
    folds = a_read_keeps_a_fold same.0 same.1 same.2 quiet.same records;
    quiet = quiet;
  }

-- the records of a journal with an open fold
pub fold_records : {D : Type 0} (M : DiskMeaning D) (journal : Journal D) (bodies folded : List (List ℕ)) → HasFold M journal bodies folded → HasRecords M journal bodies
fold_records M journal bodies folded has =
    record { rest = has.rest; settled = has.settled; place = has.place; within = has.within; ahead = has.ahead }
