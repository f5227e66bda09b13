-- A record that is put behind the others.
use Rattle.std.proofs.Common.{◌≡◌, ◌≢◌, ℕ, ◌+◌, ◌<◌, ◌≤◌, ◌^◌, Bool, List, [], ◌∷◌, ◌++◌, Some, drop, length, refl, subst, ◌∙◌, arith}
use Rattle.as4_disk.specs.declared.disk.Disk.{Ghosts as DiskMeaning}
use Rattle.as4_disk.specs.Bytes.{IsOverwritten, Torn}
use Rattle.as4_disk.specs.Image.{Image, On}
use Rattle.exchange_model.specs.End.{End, empty_end}
use Rattle.journal.specs.Leaf.{frame_of, front_of, length_bytes, limit_of}
use Rattle.journal.specs.Store.{is_second_of, leaf_of, picked_leaf}
use Rattle.journal.specs.declared.journal.Journal.{Journal}
use Rattle.journal.specs.declared.version.Version.TheVariants.{Two}
use Rattle.journal.proofs.AddLemmas.{frame_tail, tail_of, torn_behind_gate, wrote_gate, wrote_tail}
use Rattle.journal.proofs.JournalLaws.{as_two}
use Rattle.journal.proofs.LeafLemmas.{length-front_more}
use Rattle.journal.proofs.StoreLemmas.{opened, pending_opens, picked_on, settled_left}
use Rattle.msh_recovery.specs.Opens.{IsAt, IsJournalOf, IsOld, OpensWith}
use Rattle.msh_recovery.specs.Puts.{Puts}
use Rattle.msh_recovery.specs.Records.{RecordLeads, RecordsLead}
use Rattle.msh_recovery.proofs.OpenLemmas.{is_at, not_old, pending_only}
use Rattle.msh_recovery.proofs.RecordLemmas.{lead_more}

-- the picked leaf is this one, and a crash left these records with a closed gate behind
module _ (is_second : Bool) (bodies : List (List ℕ)) (body rest : List ℕ) (gate : ℕ) (end next : End) (place : gate ≡ length (front_of Two bodies)) (within : length (front_of Two (bodies ++ body ∷ [])) < limit_of Two) (leads : RecordsLead bodies empty_end end) (more : RecordLeads body end next) where
  less : length (front_of Two bodies) < limit_of Two
  less = omega (arith, within, length-front_more Two bodies body)

  abbrev IsLeft : Image → Type 0
  IsLeft c = (is_second_of c ≡ is_second) × (picked_leaf c ≡ front_of Two bodies ++ 0 ∷ rest)

  put_before : (n : ℕ) (c d : Image) → IsLeft c → On (leaf_of is_second) (Torn (gate + 1) n) c d → IsAt d end
  put_before n c d left torn =
      let P : List ℕ → Type 0 = λ l. Torn (gate + 1) n l (picked_leaf d) in
      let on = picked_on (leaf_of is_second) is_second (Torn (gate + 1) n) c d refl left.0 torn in
      let behind = torn_behind_gate bodies body rest gate n (picked_leaf d) place (subst P left.1 on.1) in
      is_at bodies behind.0 end d less behind.1 leads

  -- both are written
  put_bytes : (byte : ℕ) (c d e : Image) → IsLeft c → On (leaf_of is_second) (IsOverwritten (gate + 1) (tail_of body)) c d → On (leaf_of is_second) (IsOverwritten gate (byte ∷ [])) d e
      → (after : List ℕ) × (picked_leaf e ≡ front_of Two bodies ++ byte ∷ (length_bytes Two (length body) ++ body ++ 0 ∷ after))
  put_bytes byte c d e left wrote then_gate =
      let first = picked_on (leaf_of is_second) is_second (IsOverwritten (gate + 1) (tail_of body)) c d refl left.0 wrote in
      let P : List ℕ → Type 0 = λ l. IsOverwritten (gate + 1) (tail_of body) l (picked_leaf d) in
      let mid = wrote_tail bodies body rest gate (picked_leaf d) place (subst P left.1 first.1) in
      let second = picked_on (leaf_of is_second) is_second (IsOverwritten gate (byte ∷ [])) d e refl first.0 then_gate in
      let Q : List ℕ → Type 0 = λ l. IsOverwritten gate (byte ∷ []) l (picked_leaf e) in
      (mid.0, wrote_gate bodies body rest gate byte mid.0 (picked_leaf e) place (subst Q mid.1 second.1))

  put_opened : (c d e : Image) → IsLeft c → On (leaf_of is_second) (IsOverwritten (gate + 1) (tail_of body)) c d → On (leaf_of is_second) (IsOverwritten gate (1 ∷ [])) d e → IsAt e next
  put_opened c d e left wrote then_gate =
      let found = put_bytes 1 c d e left wrote then_gate in
      is_at (bodies ++ body ∷ []) found.0 next e within (found.1 ∙ opened Two bodies body found.0 0) (lead_more bodies body empty_end end next leads more)

  put_closed : (byte : ℕ) (c d e : Image) → byte ≢ 1 → IsLeft c → On (leaf_of is_second) (IsOverwritten (gate + 1) (tail_of body)) c d → On (leaf_of is_second) (IsOverwritten gate (byte ∷ [])) d e
      → OpensWith e end (λ n. n ≡ next) × (IsOld (picked_leaf e) → ⊥)
  put_closed byte c d e closed left wrote then_gate =
      let found = put_bytes byte c d e left wrote then_gate in
      let behind = length_bytes Two (length body) ++ body ++ 0 ∷ found.0 in (
        pending_only bodies body end next e leads more
            (pending_opens Two bodies body behind byte e (record { bytes = found.1; closed = closed; within = less }) (record { within = within; after = found.0; bytes = refl })),
        not_old bodies (byte ∷ behind) e found.1,
      )

pub put : {D : Type 0} (M : DiskMeaning D) (journal : Journal D) (end next : End) (body : List ℕ) → IsJournalOf M end journal → RecordLeads body end next → end.size + (length body + 9) ≤ 2 ^ 32
    → (image : Image) → M.seen journal.disk ≡ Some image → Puts (M.may_leave journal.disk) (leaf_of journal.is_second) journal.gate (drop 1 (frame_of body)) end next
put M journal end next body is leads room image told =
    let found = is.records image told in
    let bodies = found.0 in
    let has = found.1 in
    let two = as_two M journal bodies is.version has in
    let within : length (front_of Two (bodies ++ body ∷ [])) < limit_of Two = omega (arith, room, is.size, two.1, length-front_more Two bodies body) in
    let at : (c : Image) → M.may_leave journal.disk c → (is_second_of c ≡ journal.is_second) × (picked_leaf c ≡ front_of Two bodies ++ 0 ∷ has.rest) =
    λ c left. (let was = settled_left M journal.disk journal.is_second (front_of Two bodies ++ 0 ∷ has.rest) c two.0 left in (was.0, was.2)) in
    let tail = drop 1 (frame_of body) in
    let P : Image → Image → List ℕ → Type 0 = λ c d l. On (leaf_of journal.is_second) (IsOverwritten (journal.gate + 1) l) c d in
    record {
      before = λ c d left torn. put_before journal.is_second bodies body has.rest journal.gate end next two.1 within found.2 leads (length tail) c d (at c left) torn;
      opened = λ c d e left wrote then_gate. put_opened journal.is_second bodies body has.rest journal.gate end next two.1 within found.2 leads c d e (at c left) (subst (P c d) (frame_tail body) wrote) then_gate;
      closed = λ byte c d e closed left wrote then_gate. put_closed journal.is_second bodies body has.rest journal.gate end next two.1 within found.2 leads byte c d e closed (at c left) (subst (P c d) (frame_tail body) wrote) then_gate;
    }
