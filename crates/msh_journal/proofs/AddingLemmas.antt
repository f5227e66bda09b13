-- A record that is appended to the journal of an endpoint.
use Rattle.std.proofs.Common.{◌≡◌, ℕ, ◌+◌, ◌∙◌, List, [], ◌∷◌, ◌++◌, Some, IsNone, is_some, length, arith, subst, sym}
use Rattle.as4_disk.specs.declared.disk.Disk.{Ghosts as DiskMeaning}
use Rattle.as4_disk.specs.Image.{Image}
use Rattle.as4_disk.specs.Leaving.{LeavesOnly}
use Rattle.as4_disk.proofs.RunLemmas.{weaken}
use Rattle.exchange_model.specs.End.{End, empty_end}
use Rattle.journal.specs.State.{HasRecords}
use Rattle.journal.specs.Store.{InVersion, OpensToOneOf}
use Rattle.journal.specs.declared.journal.Journal.{Journal}
use Rattle.journal.specs.declared.version.Version.{Version}
use Rattle.journal.specs.declared.version.Version.TheVariants.{Two}
use Rattle.inbox.specs.Spots.{Spot}
use Rattle.msh_journal.specs.Payloads.{HoldsPayloads, IsJournalWith}
use Rattle.msh_journal.specs.Reading.{RecordBrings}
use Rattle.msh_journal.proofs.PayloadLemmas.{brings_leads, payloads_more}
use Rattle.msh_recovery.specs.Opens.{IsAtOneOf, IsJournalOf}
use Rattle.msh_recovery.specs.Records.{RecordLeads}
use Rattle.msh_recovery.proofs.RecordLemmas.{lead_more}
use Rattle.msh_recovery.proofs.OpenLemmas.{one_of_opens}
use Rattle.msh_recovery.proofs.SizeLemmas.{record_size}
use Rattle.msh_journal.proofs.RunLemmas.{told_before}

module _ {D : Type 0} (M : DiskMeaning D) (old new : Journal D) (body : List ℕ) (end next : End) where
  pub added_kept : ((bodies : List (List ℕ)) → HasRecords M old bodies → HasRecords M new (bodies ++ body ∷ []))
      → (new.version ≡ old.version) × (new.fold ≡ old.fold) → new.gate ≡ old.gate + (length body + 9) → is_some (M.seen new.disk) ≡ is_some (M.seen old.disk)
      → IsJournalOf M end old → RecordLeads body end next → IsJournalOf M next new
  added_kept settled kept grows tells is leads = record {
    version = kept.0 ∙ is.version;
    no_fold = subst IsNone (sym kept.1) is.no_fold;
    size = omega (arith, is.size, grows, record_size body end next leads);
    records = λ image told.
        let was = told_before (M.seen old.disk) (M.seen new.disk) image tells told in
        let had = is.records was.0 was.1 in
        (had.0 ++ body ∷ [], settled had.0 had.1, lead_more had.0 body empty_end end next had.2 leads);
  }

  -- and what it delivers has its payloads in it
  pub added_held : ((bodies : List (List ℕ)) → HasRecords M old bodies → HasRecords M new (bodies ++ body ∷ []))
      → (new.version ≡ old.version) × (new.fold ≡ old.fold) → new.gate ≡ old.gate + (length body + 9) → is_some (M.seen new.disk) ≡ is_some (M.seen old.disk)
      → (gate : ℕ) (places after : List Spot) → gate ≡ old.gate → IsJournalWith M end places old → RecordBrings body gate end places next after → IsJournalWith M next after new
  added_held settled kept grows tells gate places after at has brings = record {
    is = added_kept settled kept grows tells has.is (brings_leads body gate end next places after brings);
    held = λ image told.
        let was = told_before (M.seen old.disk) (M.seen new.disk) image tells told in
        let had = has.held was.0 was.1 in
        let P : Version → Type 0 = λ v. HoldsPayloads v (had.0 ++ body ∷ []) next after in (
          had.0 ++ body ∷ [],
          settled had.0 had.1,
          subst P (sym kept.0) (payloads_more old.version had.0 body gate end next places after had.2 brings (at ∙ had.1.place)),
        );
  }

  pub added_run : ((bodies : List (List ℕ)) → HasRecords M old bodies → LeavesOnly M old.disk new.disk (InVersion Two (OpensToOneOf bodies body)))
      → IsJournalOf M end old → RecordLeads body end next → (image : Image) → M.seen old.disk ≡ Some image
      → LeavesOnly M old.disk new.disk (λ c. IsAtOneOf c end next)
  added_run any_moment is leads image told =
      let had = is.records image told in
      weaken M old.disk new.disk (InVersion Two (OpensToOneOf had.0 body)) (λ (c : Image). IsAtOneOf c end next)
      (λ c opens. one_of_opens had.0 body end next c had.2 leads opens) (any_moment had.0 had.1)
