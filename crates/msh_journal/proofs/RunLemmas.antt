-- Runs of device calls behind one another.
use Rattle.std.proofs.Common.{◌≡◌, inl, inr, Option, Some, None, is_some, refl}
use Rattle.as4_disk.specs.declared.disk.Disk.{Ghosts as DiskMeaning}
use Rattle.as4_disk.specs.Image.{Image}
use Rattle.as4_disk.specs.Leaving.{FirstThen, LeavesOnly, Quiet}
use Rattle.as4_disk.proofs.RunLemmas.{no_call, then, weaken}

module _ {D : Type 0} (M : DiskMeaning D) where
  -- a run of the first kind in front of one of both
  pub then_first : (old mid new : D) (P Q : Image → Type 0) → LeavesOnly M old mid P → FirstThen M mid new P Q → FirstThen M old new P Q
  then_first old mid new P Q before (inl first) = inl (then M old mid new P before first)
  then_first old mid new P Q before (inr both) =
      inr (both.0, then M old mid both.0 P before both.1, both.2)

  -- a run of the second kind behind one of both
  pub first_then_next : (old mid new : D) (P Q : Image → Type 0) → FirstThen M old mid P Q → LeavesOnly M mid new Q → FirstThen M old new P Q
  first_then_next old mid new P Q (inl first) next = inr (mid, first, next)
  first_then_next old mid new P Q (inr both) next =
      inr (both.0, both.1, then M both.0 mid new Q both.2 next)

  -- both kinds have what is wanted
  pub first_all : (old new : D) (P Q R : Image → Type 0) → ((c : Image) → P c → R c) → ((c : Image) → Q c → R c) → FirstThen M old new P Q → LeavesOnly M old new R
  first_all old new P Q R one two (inl first) = weaken M old new P R one first
  first_all old new P Q R one two (inr both) =
      then M old both.0 new R (weaken M old both.0 P R one both.1) (weaken M both.0 new Q R two both.2)

-- before the first call nothing was written
pub quiet_none : {D : Type 0} (M : DiskMeaning D) → ((disk : D) (c : Image) → M.left_since disk (M.moment disk) c → M.may_leave disk c) → (disk : D) → Quiet M disk disk
quiet_none M only_now disk =
    record { same = refl; within = λ c left. left; run = no_call M disk (M.may_leave disk) (only_now disk) }

-- what tells now told before
pub told_before : {X : Type 0} (old new : Option X) (image : X) → is_some new ≡ is_some old → new ≡ Some image → (was : X) × (old ≡ Some was)
told_before (Some was) new image same told = (was, λ i. Some was)
told_before None new image same told = absurd cc
