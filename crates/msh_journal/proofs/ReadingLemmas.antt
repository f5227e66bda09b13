-- What one record more that was read leads to, and what stands where it leads nowhere.
use Rattle.std.proofs.Common.{◌≡◌, inl, inr, ℕ, ◌+◌, ◌<◌, ◌≤◌, ◌^◌, List, [], ◌∷◌, ◌++◌, Some, length, refl, sym, ap, subst, ◌∙◌, arith}
use Rattle.as4_disk.specs.declared.disk.Disk.{Ghosts as DiskMeaning}
use Rattle.as4_disk.specs.Image.{Image}
use Rattle.as4_disk.specs.Leaving.{LeavesOnly}
use Rattle.as4_disk.proofs.RunLemmas.{no_call, then}
use Rattle.as4_flow.specs.Flow.{Told}
use Rattle.as4_effects.specs.Effects.{effects_body}
use Rattle.as4_effects.specs.declared.effect.Effect.{Effect}
use Rattle.exchange_model.specs.Apply.{record_len}
use Rattle.exchange_model.specs.End.{End, empty_end}
use Rattle.journal.specs.Leaf.{IsBroken, front_of, limit_of, width_of}
use Rattle.journal.specs.State.{HasRead}
use Rattle.journal.specs.Store.{Reopens, picked_leaf}
use Rattle.journal.specs.declared.journal.Journal.{Journal}
use Rattle.journal.specs.declared.version.Version.{Version}
use Rattle.journal.specs.declared.version.Version.TheVariants.{One, Two}
use Rattle.journal.proofs.BrokenLemmas.{cut_short_here}
use Rattle.journal.proofs.JournalLaws.{keeps_reopens, read_front}
use Rattle.journal.proofs.LeafLemmas.{front_none, length-front_more, length-magic}
use Rattle.journal.proofs.StoreLemmas.{settled_left, settled_told}
use Rattle.msh_recovery.specs.Records.{RecordLeads, RecordsLead}
use Rattle.msh_recovery.specs.Unfit.{IsNoJournal, IsUnfit}
use Rattle.msh_recovery.proofs.RecordLemmas.{lead_more}
use Rattle.msh_recovery.proofs.SizeLemmas.{front_len, size_of_end}
use Rattle.inbox.specs.Spots.{Spot}
use Rattle.msh_journal.specs.Payloads.{HoldsPayloads}
use Rattle.msh_journal.specs.Reading.{HasReplayed, ReadsOn}
use Rattle.msh_journal.proofs.PayloadLemmas.{brings_leads, payloads_more, payloads_none}

-- a record that the leaf has is within what an end's journal may have
pub room_led : (version : Version) (bodies : List (List ℕ)) (end : End) (gate len : ℕ) → RecordsLead bodies empty_end end → gate ≡ length (front_of version bodies)
    → gate + (1 + width_of version + len) < limit_of version → end.size + (len + 9) ≤ 2 ^ 32
room_led One bodies end gate len leads place within =
    omega (arith, place, within, front_len One bodies, front_len Two bodies, size_of_end bodies end leads)
room_led Two bodies end gate len leads place within = omega (arith, place, within, size_of_end bodies end leads)

pub len_of_record : (effects : List Effect) (body : List ℕ) → body ≡ effects_body effects → record_len effects ≡ length body + 9
unfolding record_len
len_of_record effects body bytes = ap (λ (b : List ℕ). length b + 9) (sym bytes)

module _ {D : Type 0} (M : DiskMeaning D) where
  -- before the first record
  pub read_none : (first : Journal D) → first.gate ≡ 8 → HasReplayed M first first empty_end [] []
  read_none first gate =
      let magic : length (front_of first.version []) ≡ 8 = ap (λ (l : List ℕ). length l) (front_none first.version) ∙ length-magic first.version in
      record {
        leads = refl;
        held = payloads_none first.version;
        version = refl;
        fold = refl;
        place = gate ∙ sym magic;
        within = first_place first.version first.gate gate;
        told = refl;
        read = λ has. has;
      }
    where
      first_place : (version : Version) (gate : ℕ) → gate ≡ 8 → gate < limit_of version
      first_place One gate is = omega (arith, is)
      first_place Two gate is = omega (arith, is)

  -- and one more
  pub read_on : (first old new : Journal D) (start end : End) (before after : List Spot) (bodies : List (List ℕ)) → HasReplayed M first old start before bodies
      → (on : ReadsOn M old new start before end after) → HasReplayed M first new end after (bodies ++ on.body ∷ [])
  read_on first old new start end before after bodies so_far on =
      let P : Version → Type 0 = λ v. new.gate ≡ length (front_of v (bodies ++ on.body ∷ [])) in
      let Q : Version → Type 0 = λ v. new.gate < limit_of v in
      let H : Version → Type 0 = λ v. HoldsPayloads v (bodies ++ on.body ∷ []) end after in
      let here : new.gate ≡ length (front_of old.version (bodies ++ on.body ∷ [])) =
      omega (arith, on.gate, so_far.place, length-front_more old.version bodies on.body) in
      record {
        leads = lead_more bodies on.body empty_end start end so_far.leads (brings_leads on.body old.gate start end before after on.brings);
        held = subst H (sym on.version) (payloads_more old.version bodies on.body old.gate start end before after so_far.held on.brings so_far.place);
        version = on.version ∙ so_far.version;
        fold = on.fold ∙ so_far.fold;
        place = subst P (sym on.version) here;
        within = subst Q (sym on.version) on.within;
        told = on.told ∙ so_far.told;
        read = λ has. on.read bodies (so_far.read has);
      }

  -- the next record is cut short
  pub cut_next : (old : Journal D) (bodies : List (List ℕ)) (at : ℕ) (end : End) (b : Image) → HasRead M old bodies → at ≡ old.gate → M.seen old.disk ≡ Some b → RecordsLead bodies empty_end end → IsBroken at (picked_leaf b) → IsNoJournal at (picked_leaf b)
  cut_next old bodies at end b has place told leads broken =
      let behind = has.next ∷ has.rest in
      let bytes = (settled_told M old.disk old.is_second (front_of old.version bodies ++ behind) b has.settled told).2 in
      let cut = cut_short_here at old.version bodies behind (picked_leaf b) broken bytes has.within (omega arith) (place ∙ has.place) in (
        broken.0,
        inr (inl (record { version = old.version; bodies = bodies; rest = cut.0; cut = cut.1; place = place ∙ has.place; end = end; leads = leads })),
      )

  -- the next record leads nowhere
  pub unfit_next : (old new : Journal D) (bodies : List (List ℕ)) (body : List ℕ) (at : ℕ) (end : End) (b : Image) → HasRead M old bodies → HasRead M new (bodies ++ body ∷ [])
      → new.version ≡ old.version → at ≡ old.gate → M.seen new.disk ≡ M.seen old.disk → M.seen old.disk ≡ Some b → RecordsLead bodies empty_end end → ((next : End) → RecordLeads body end next → ⊥) → IsUnfit at (picked_leaf b)
  unfit_next old new bodies body at end b has next version place same told leads none =
      let front = read_front M new (bodies ++ body ∷ []) b next (same ∙ told) in
      record {
        version = new.version;
        bodies = bodies;
        body = body;
        behind = front.0;
        bytes = front.1;
        within = front.2;
        place = place ∙ has.place ∙ ap (λ (v : Version). length (front_of v bodies)) (sym version);
        end = end;
        leads = leads;
        none = none;
      }

module _ {D : Type 0} (M : DiskMeaning D) where
  -- before the first record a crash leaves the leaf
  pub still_run : ((disk : D) (c : Image) → M.left_since disk (M.moment disk) c → M.may_leave disk c) → (first : Journal D) (b : Image) → HasRead M first [] → M.seen first.disk ≡ Some b
      → LeavesOnly M first.disk first.disk (Reopens b)
  still_run only_now first b has told =
      let leaf = front_of first.version [] ++ has.next ∷ has.rest in
      let here = (settled_told M first.disk first.is_second leaf b has.settled told).2 in
      no_call M first.disk (Reopens b)
      (λ c left. keeps_reopens b c (inl ((settled_left M first.disk first.is_second leaf c has.settled (only_now first.disk c left)).2 ∙ sym here)))

  -- and while one more is read
  pub run_on : (first old new : Journal D) (end : End) (places : List Spot) (bodies : List (List ℕ)) → HasReplayed M first old end places bodies
      → (HasRead M first [] → Told (M.seen first.disk) (λ b. LeavesOnly M first.disk old.disk (Reopens b)))
      → ((read : List (List ℕ)) → HasRead M old read → Told (M.seen old.disk) (λ b. LeavesOnly M old.disk new.disk (Reopens b)))
      → HasRead M first [] → Told (M.seen first.disk) (λ b. LeavesOnly M first.disk new.disk (Reopens b))
  run_on first old new end places bodies so_far run next has b told =
      then M first.disk old.disk new.disk (Reopens b) (run has b told) (next bodies (so_far.read has) b (so_far.told ∙ told))
