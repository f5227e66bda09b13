-- What a disk opens to, from the records that it opens to.
use Rattle.std.proofs.Common.{◌≡◌, ◌⊎◌, inl, inr, ⊎_elim, ℕ, ◌<◌, List, [], ◌∷◌, ◌++◌, length, refl, sym, subst, ◌∙◌}
use Rattle.as4_disk.specs.declared.disk.Disk.{Ghosts as DiskMeaning}
use Rattle.as4_disk.specs.Image.{Image}
use Rattle.exchange_model.specs.End.{End, empty_end}
use Rattle.journal.specs.Leaf.{HasMagic, front_of, limit_of}
use Rattle.journal.specs.Store.{HasPending, InVersion, OpensSettled, OpensToOneOf, OpensWith as OpensRecordsWith, Reopens, picked_leaf}
use Rattle.journal.specs.declared.journal.Journal.{Journal}
use Rattle.journal.specs.declared.version.Version.TheVariants.{One, Two}
use Rattle.journal.proofs.JournalLaws.{as_two}
use Rattle.journal.proofs.LeafLemmas.{magics_differ}
use Rattle.journal.proofs.StoreLemmas.{closed_in, magic_in, settled_left}
use Rattle.msh_recovery.specs.Opens.{HasPendingEnd, IsAt, IsAtOneOf, IsAtWith, IsJournalOf, IsMigrated, IsOld, KeepsEnd, OpensAs, OpensOnly, OpensWith, ReopensAs}
use Rattle.msh_recovery.specs.Records.{RecordLeads, RecordsLead}
use Rattle.msh_recovery.proofs.RecordLemmas.{lead_more}

-- nothing is pending
pub settled_opens : (P : End → Type 0) (bodies : List (List ℕ)) (end : End) (image : Image) → RecordsLead bodies empty_end end → OpensSettled bodies image → OpensWith image end P
settled_opens P bodies end image leads settled =
    (bodies, record { records = settled.0; leads = leads; pending = λ body has. absurd (settled.1 body has) })

-- less is said of what is pending
pub opens_weaker : (P Q : End → Type 0) (image : Image) (end : End) → ((next : End) → P next → Q next) → OpensWith image end P → OpensWith image end Q
opens_weaker P Q image end implies (bodies, by) = (
  bodies,
  record {
    records = by.records;
    leads = by.leads;
    pending = λ body has.
        let found = by.pending body has in
        (found.0, found.1, implies found.0 found.2);
  },
)

pub at_weaker : (P Q : End → Type 0) (image : Image) (end : End) → ((next : End) → P next → Q next) → IsAtWith image end P → IsAtWith image end Q
at_weaker P Q image end implies (opens, young) = (opens_weaker P Q image end implies opens, young)

-- one record is pending at most
pub pending_only : (bodies : List (List ℕ)) (body : List ℕ) (end next : End) (image : Image) → RecordsLead bodies empty_end end → RecordLeads body end next
    → OpensRecordsWith bodies (λ other. other ≡ body) image → OpensWith image end (λ n. n ≡ next)
pending_only bodies body end next image leads more opens = (
  bodies,
  record {
    records = opens.0;
    leads = leads;
    pending = λ other has. (next, subst (λ (b : List ℕ). RecordLeads b end next) (sym (opens.1 other has)) more, refl);
  },
)

-- a leaf of version 2 isn't one of version 1
of_two : (image : Image) → HasMagic Two (picked_leaf image) → IsOld (picked_leaf image) → ⊥
of_two image magic old = magics_differ (sym magic ∙ old.1)

pub not_old : (bodies : List (List ℕ)) (rest : List ℕ) (image : Image) → picked_leaf image ≡ front_of Two bodies ++ rest → IsOld (picked_leaf image) → ⊥
not_old bodies rest image bytes = of_two image (magic_in Two bodies rest (picked_leaf image) bytes)

-- records of version 2 and nothing pending
pub settled_at : (bodies : List (List ℕ)) (end : End) (image : Image) → RecordsLead bodies empty_end end → InVersion Two (OpensSettled bodies) image → IsAt image end
settled_at bodies end image leads (settled, magic) =
    (settled_opens (λ n. ⊥) bodies end image leads settled, of_two image magic)

-- records of version 2 with a gate 0 behind them
pub is_at : (bodies : List (List ℕ)) (rest : List ℕ) (end : End) (image : Image) → length (front_of Two bodies) < limit_of Two → picked_leaf image ≡ front_of Two bodies ++ 0 ∷ rest → RecordsLead bodies empty_end end → IsAt image end
is_at bodies rest end image within bytes leads = settled_at bodies end image leads (closed_in Two bodies rest image within bytes)

-- a record is being added
pub one_of_opens : (bodies : List (List ℕ)) (body : List ℕ) (end next : End) (image : Image) → RecordsLead bodies empty_end end → RecordLeads body end next
    → InVersion Two (OpensToOneOf bodies body) image → IsAtOneOf image end next
one_of_opens bodies body end next image leads more (inl without, magic) =
    inl (pending_only bodies body end next image leads more without, of_two image magic)
one_of_opens bodies body end next image leads more (inr with_it, magic) =
    inr (settled_at (bodies ++ body ∷ []) next image (lead_more bodies body empty_end end next leads more) (with_it, magic))

-- what opens to records again opens to the end again
pub reopens_as : (before after : Image) → Reopens before after → ReopensAs before after
reopens_as before after reopens = record { version = reopens.version One; opens = opens }
  where
    opens : (end : End) → OpensAs before end
        → (OpensWith after end (HasPendingEnd before end) ⊎ IsMigrated before after end)
        ⊎ ((next : End) × HasPendingEnd before end next × (OpensOnly after next ⊎ IsMigrated before after next))
    opens end (bodies, by) =
        ⊎_elim
        (λ (same : OpensRecordsWith bodies (λ body. HasPending bodies body before) after).
        inl (inl (
          bodies,
          record {
            records = same.0;
            leads = by.leads;
            pending = λ body has.
                let found = by.pending body (same.1 body has) in
                (found.0, found.1, record { bodies = bodies; body = body; leads = by.leads; has = same.1 body has; on = found.1 });
          },
        )))
        (λ (more : (body : List ℕ) × HasPending bodies body before × OpensSettled (bodies ++ body ∷ []) after).
        let next = by.pending more.0 more.1 in
        inr (
          next.0,
          record { bodies = bodies; body = more.0; leads = by.leads; has = more.1; on = next.1 },
          inl (settled_opens (λ n. ⊥) (bodies ++ more.0 ∷ []) next.0 after (lead_more bodies more.0 empty_end end next.0 by.leads next.1) more.2),
        ))
        (reopens.records bodies by.records)

-- each crash of the journal of an end is at the end
pub kept_opens : {D : Type 0} (M : DiskMeaning D) (end : End) (journal : Journal D) → IsJournalOf M end journal → KeepsEnd M journal.disk end
kept_opens M end journal is image told c left =
    let found = is.records image told in
    let has = found.1 in
    let two = as_two M journal found.0 is.version has in
    is_at found.0 has.rest end c two.2 (settled_left M journal.disk journal.is_second (front_of Two found.0 ++ 0 ∷ has.rest) c two.0 left).2 found.2
