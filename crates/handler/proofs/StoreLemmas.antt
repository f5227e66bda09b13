-- What becomes of a store.
use Rattle.std.proofs.Common.{◌≡◌, ◌⊎◌, ◌≤◌, ℕ, Bool, true, List, Option, Some, None, is_some, option_map, refl, ap, subst, ◌∙◌, inl, inr}
use Rattle.std.proofs.Math.Path.{fun_ext}
use Rattle.as4_disk.specs.Image.{Image}
use Rattle.as4_disk.specs.Leaving.{FirstThen}
use Rattle.as4_disk.specs.declared.disk.Disk.{Ghosts as DiskMeaning}
use Rattle.as4_disk.specs.declared.part.Part.{Part}
use Rattle.as4_disk.specs.declared.part.Part.TheVariants.{Selector}
use Rattle.as4_flow.specs.Flow.{Told}
use Rattle.as4_host.specs.Files.{bytes_in, made, part_of}
use Rattle.as4_host.specs.declared.host.Host.{Ghosts as HostMeaning}
use Rattle.exchange_model.specs.End.{End}
use Rattle.handler.specs.Hosts.{file_of}
use Rattle.handler.specs.Opening.{OpensOffice, OpensStore, SettlesStore}
use Rattle.handler.specs.Stores.{BecomesBy, LeavesStore, Stores}
use Rattle.handler.specs.Working.{IsClosed}
use Rattle.mode_values.specs.declared.mode.Mode.{Mode}
use Rattle.msh_recovery.specs.Opens.{ReopensAs}
use Rattle.office.specs.Calls.{LeadsWhere}
use Rattle.office.specs.Left.{IsLeft}
use Rattle.office.specs.State.{OfficeState}
use Rattle.office.specs.declared.call.Call.{Call}
use Rattle.pass_book.specs.States.{PassState}

-- a file that is made has the bytes that it had
pub made_bytes : (file : Option (Option (List ℕ))) → bytes_in (made file) ≡ bytes_in file
made_bytes None = refl
made_bytes (Some None) = refl
made_bytes (Some (Some bytes)) = refl

-- what a disk reads, if each of its parts is known
seen_as : (seen : Option Image) (image : Image) → ((q : Part) → part_of q seen ≡ Some (image q)) → seen ≡ Some image
seen_as None image parts = let wrong : part_of Selector None ≡ Some (image Selector) = parts Selector in absurd cc
seen_as (Some read) image parts = ap Some (fun_ext (λ q. let same : Some (read q) ≡ Some (image q) = parts q in cc))

pub still_seen : {X : Type 0} (seen : Option X) → is_some seen ≡ true → (x : X) × (seen ≡ Some x)
still_seen None is = absurd cc
still_seen (Some x) is = (x, refl)

module _ {H Store Door Dialer Time Dice DoorIn DoorOut DialerIn DialerOut : Type 0} (M : HostMeaning H Store Door Dialer Time Dice DoorIn DoorOut DialerIn DialerOut) where
  -- the files of the journal have the same bytes

  pub leaves_same : (may_be : List Mode → Type 0) (journal : List ℕ) (old new : H)
      → ((q : Part) → bytes_in (M.file new (file_of journal q)) ≡ bytes_in (M.file old (file_of journal q))) → LeavesStore M may_be journal old new
  leaves_same may_be journal old new same before stored = (before, λ q. same q ∙ stored q, inl (λ q. refl))

  pub leaves_from : (may_be : List Mode → Type 0) (journal : List ℕ) (old middle new : H)
      → ((q : Part) → bytes_in (M.file middle (file_of journal q)) ≡ bytes_in (M.file old (file_of journal q)))
      → LeavesStore M may_be journal middle new → LeavesStore M may_be journal old new
  leaves_from may_be journal old middle new same leaves before stored = leaves before (λ q. same q ∙ stored q)

  pub leaves_to : (may_be : List Mode → Type 0) (journal : List ℕ) (old middle new : H)
      → ((q : Part) → bytes_in (M.file new (file_of journal q)) ≡ bytes_in (M.file middle (file_of journal q)))
      → LeavesStore M may_be journal old middle → LeavesStore M may_be journal old new
  leaves_to may_be journal old middle new same leaves before stored =
      let left = leaves before stored in (left.0, λ q. same q ∙ left.1 q, left.2)

  pub leaves_by : (few many : List Mode → Type 0) (journal : List ℕ) (old new : H) → ((modes : List Mode) → few modes → many modes)
      → LeavesStore M few journal old new → LeavesStore M many journal old new
  leaves_by few many journal old new within leaves before stored =
      let left = leaves before stored in (
        left.0,
        left.1,
        elim left.2 as (λ _. BecomesBy many before left.0) [
          | inl same ↦ inl same
          | inr other ↦ elim other as (λ _. BecomesBy many before left.0) [
            | inl reopens ↦ inr (inl reopens)
            | inr worked ↦ inr (inr (worked.0, worked.1, within worked.0 worked.2, worked.3))
          ]
        ],
      )

  module _ (S : DiskMeaning Store) where
    -- a disk of a store that is observable reads what its files have
    pub reads_stored : (journal : List ℕ) (old new : H) (disk : Store) (before : Image) → OpensStore M S journal old new disk → Stores M journal old before → S.seen disk ≡ Some before
    reads_stored journal old new disk before opens stored = seen_as (S.seen disk) before (λ q. opens.seen q ∙ stored q)

    -- the files of a store that was settled have what its disk reads
    pub settled_bytes : (journal : List ℕ) (old new : H) (disk : Store) (after : Image) → SettlesStore M S journal old new disk → S.seen disk ≡ Some after → Stores M journal new after
    settled_bytes journal old new disk after settles is q =
        ap bytes_in (settles.kept q ∙ ap (λ seen. option_map Some (part_of q seen)) is)

    -- what a crash in an opening leaves of a disk that reads so
    left_by_opening : ((d : Store) → Told (S.seen d) (S.may_leave d)) → ((d : Store) (t : ℕ) (c : Image) → t ≤ S.moment d → S.may_leave d c → S.left_since d t c) → (disk later : Store) (before after : Image) → FirstThen S disk later (S.may_leave disk) (ReopensAs before) → S.seen later ≡ Some after
        → S.may_leave disk after ⊎ ReopensAs before after
    left_by_opening reads_now counts_now disk later before after (inl run) is =
        inl (run.each after (counts_now later (S.moment disk) after run.later (reads_now later after is)))
    left_by_opening reads_now counts_now disk later before after (inr (between, first, last)) is =
        inr (last.each after (counts_now later (S.moment between) after last.later (reads_now later after is)))

    -- an opening of an office that failed
    pub leaves_unopened : ((d : Store) → Told (S.seen d) (S.may_leave d)) → ((d : Store) (t : ℕ) (c : Image) → t ≤ S.moment d → S.may_leave d c → S.left_since d t c) → (journal : List ℕ) (old middle new : H) (disk later : Store)
        → OpensStore M S journal old middle disk → SettlesStore M S journal middle new later
        → Told (S.seen disk) (λ b. FirstThen S disk later (S.may_leave disk) (ReopensAs b)) → is_some (S.seen later) ≡ is_some (S.seen disk)
        → LeavesStore M (λ modes. ⊥) journal old new
    leaves_unopened reads_now counts_now journal old middle new disk later opens settles moment tells before stored =
        let was = reads_stored journal old middle disk before opens stored in
        let now = still_seen (S.seen later) (tells ∙ ap is_some was) in (
          now.0,
          settled_bytes journal middle new later now.0 settles now.1,
          elim (left_by_opening reads_now counts_now disk later before now.0 (moment before was) now.1) as (λ _. BecomesBy (λ modes. ⊥) before now.0) [
            | inl stays ↦ inl (opens.only before was now.0 stays)
            | inr reopens ↦ inr (inl reopens)
          ],
        )

    -- an office that worked
    pub leaves_worked : ((d : Store) → Told (S.seen d) (S.may_leave d)) → (may_be : List Mode → Type 0) (modes : List Mode) (journal : List ℕ) (old middle last new : H) (first disk : Store) (office : OfficeState Store) (pass : PassState Call)
        (calls : List Call) (end : End) → may_be modes → OpensStore M S journal old middle first → OpensOffice S first modes office pass
        → IsClosed S office calls end disk → SettlesStore M S journal last new disk → LeavesStore M may_be journal old new
    leaves_worked reads_now may_be modes journal old middle last new first disk office pass calls end may opens office_opens closed settles before stored =
        let was = reads_stored journal old middle first before opens stored in
        let told : is_some (S.seen office.disk) ≡ true = office_opens.tells ∙ ap is_some was in
        let now = still_seen (S.seen disk) (closed.tells ∙ told) in (
          now.0,
          settled_bytes journal last new disk now.0 settles now.1,
          inr (inr (
            modes,
            calls,
            may,
            record {
              start = office.end;
              begins = office_opens.begins before was;
              end = end;
              leads = subst (λ (b : Bool). LeadsWhere b modes office.end calls end) told
                  (subst (λ m. LeadsWhere (is_some (S.seen office.disk)) m office.end calls end) office_opens.modes_are closed.leads);
              left = subst (λ m. IsLeft m end calls now.0) office_opens.modes_are (closed.left now.0 now.1 now.0 (reads_now disk now.0 now.1));
            },
          )),
        )
