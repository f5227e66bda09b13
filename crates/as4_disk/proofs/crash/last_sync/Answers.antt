use Rattle.std.proofs.Common.{◌+◌, ℕ, take, sym, ◌∙◌, subst}
use Rattle.as4_disk.specs.Picks.{EndWithLastSync}
use Rattle.as4_disk.proofs.CrashLemmas.{ends_none, ends_more_synced, ends_more_other}
use Rattle.as4_disk.proofs.crash.last_sync.Goals as goal
use Rattle.as4_disk.proofs.crash.last_sync.Goals.{then-is_sync_of, else-is_sync_of}

pub loop-i-init : goal.loop-i-init
loop-i-init c = ends_none c.args.part

pub loop-i-preserved : goal.loop-i-preserved
loop-i-preserved c =
    let Ends : ℕ → Type 0 = λ count. EndWithLastSync c.args.part (take (c.loop-i.i + 1) c.args.changes.now) count in
    elim c.if-is_sync_of.branch [
      | then-is_sync_of w ↦
          subst Ends (sym w.synced-is)
          (ends_more_synced c.args.changes.now c.loop-i.i c.index-changes-i.result c.loop-i-test.true c.index-changes-i.is c.args.part (sym c.is_sync_of.ensures ∙ w.if-is_sync_of.true))
      | else-is_sync_of w ↦
          subst Ends (sym w.synced-is)
          (ends_more_other c.args.changes.now c.loop-i.i c.index-changes-i.result c.loop-i-test.true c.index-changes-i.is c.args.part c.loop-i.synced c.loop-i.invariant (sym c.is_sync_of.ensures ∙ w.if-is_sync_of.false))
    ]
