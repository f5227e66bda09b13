-- How runs of device calls begin, join and end.
use Rattle.std.proofs.Common.{◌≡◌, ◌⊎◌, inl, inr, ⊎_elim, ℕ, ◌≤◌, ◌∙◌, arith}
use Rattle.as4_disk.specs.declared.disk.Disk.{Ghosts as DiskMeaning}
use Rattle.as4_disk.specs.Image.{Image}
use Rattle.as4_disk.specs.Leaving.{FirstThen, LeavesOnly, Quiet}
use Rattle.as4_disk.specs.Runs.{Elapses, Within}

module _ {D : Type 0} (M : DiskMeaning D) where
  -- before the first call
  pub no_call : (old : D) (P : Image → Type 0) → ((c : Image) → M.left_since old (M.moment old) c → P c) → LeavesOnly M old old P
  no_call old P here = record { later = omega arith; each = here; before = λ t c le left. inl left }

  -- one call is a run
  pub one_call : (old new : D) (P may_leave : Image → Type 0) → Elapses (M.moment old) (M.moment new) (M.left_since old) (M.left_since new) may_leave → ((c : Image) → M.left_since old (M.moment old) c → P c) → ((c : Image) → may_leave c → P c) → LeavesOnly M old new P
  one_call old new P may_leave time at_start at_end = record {
    later = time.later;
    each = λ c left. ⊎_elim (at_start c) (at_end c) (time.nothing_else (M.moment old) c (omega arith) left);
    before = λ t c le left. ⊎_elim (λ was. inl was) (λ now. inr (at_end c now)) (time.nothing_else t c le left);
  }

  -- a run, and then another
  pub then : (old mid new : D) (P : Image → Type 0) → LeavesOnly M old mid P → LeavesOnly M mid new P → LeavesOnly M old new P
  then old mid new P first next = record {
    later = omega (arith, first.later, next.later);
    each = λ c left. ⊎_elim (first.each c) (λ has. has) (next.before (M.moment old) c first.later left);
    before = λ t c le left. ⊎_elim (first.before t c le) (λ has. inr has) (next.before t c (omega (arith, le, first.later)) left);
  }

  -- a run leaves what has less, too
  pub weaken : (old new : D) (P Q : Image → Type 0) → ((c : Image) → P c → Q c) → LeavesOnly M old new P → LeavesOnly M old new Q
  weaken old new P Q implies run = record {
    later = run.later;
    each = λ c left. implies c (run.each c left);
    before = λ t c le left. ⊎_elim (λ was. inl was) (λ has. inr (implies c has)) (run.before t c le left);
  }

  -- what may be left at its end has P
  pub at_end : (old new : D) (P may_leave : Image → Type 0) → ((t : ℕ) (c : Image) → t ≤ M.moment new → may_leave c → M.left_since new t c) → LeavesOnly M old new P → (c : Image) → may_leave c → P c
  at_end old new P may_leave counts_now run c now = run.each c (counts_now (M.moment old) c run.later now)

  -- a run of the first kind, and then one of the second
  pub first_then : (old mid new : D) (P Q : Image → Type 0) → LeavesOnly M old mid P → LeavesOnly M mid new Q → FirstThen M old new P Q
  first_then old mid new P Q first next = inr (mid, first, next)

  -- more of the second kind
  pub first_then_more : (old mid new : D) (P Q : Image → Type 0) → FirstThen M old mid P Q → LeavesOnly M mid new P → LeavesOnly M mid new Q → FirstThen M old new P Q
  first_then_more old mid new P Q (inl first) still next = inl (then old mid new P first still)
  first_then_more old mid new P Q (inr both) still next = inr (both.0, both.1, then both.0 mid new Q both.2 next)

  -- in all, each image has one or the other
  pub either : (old new : D) (P Q : Image → Type 0) → FirstThen M old new P Q → LeavesOnly M old new (λ c. P c ⊎ Q c)
  either old new P Q (inl first) = weaken old new P (λ c. P c ⊎ Q c) (λ c has. inl has) first
  either old new P Q (inr both) =
      then old both.0 new (λ c. P c ⊎ Q c)
      (weaken old both.0 P (λ c. P c ⊎ Q c) (λ c has. inl has) both.1)
      (weaken both.0 new Q (λ c. P c ⊎ Q c) (λ c has. inr has) both.2)

  -- a read, and a sync whatever it answers
  pub quiet_call : (old new : D) → M.seen new ≡ M.seen old → Within (M.may_leave old) (M.may_leave new) → Elapses (M.moment old) (M.moment new) (M.left_since old) (M.left_since new) (M.may_leave new) → ((c : Image) → M.left_since old (M.moment old) c → M.may_leave old c) → Quiet M old new
  quiet_call old new same within time only_now = record {
    same = same;
    within = within;
    run = one_call old new (M.may_leave old) (M.may_leave new) time only_now within;
  }

  -- one quiet run, and then another
  pub quiet_then : (old mid new : D) → Quiet M old mid → Quiet M mid new → Quiet M old new
  quiet_then old mid new first next = record {
    same = next.same ∙ first.same;
    within = λ c left. first.within c (next.within c left);
    run = then old mid new (M.may_leave old) first.run (weaken mid new (M.may_leave mid) (M.may_leave old) first.within next.run);
  }
