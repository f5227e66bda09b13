-- What turns of workers add up to whose guests send several requests each.
use Rattle.std.specs.Prelude.{◌+◌, ◌*◌, ◌≤◌, ℕ}
use mathlib.Core.List.{IsPrefix}
use Rattle.workers.specs.Bounds.{most_calls}
use Rattle.workers.specs.declared.job.Job.{Job}
use Rattle.workers.specs.declared.job.Job.TheVariants as job
use Rattle.workers.specs.declared.job.Worker.{Worker}

-- the most calls of the office that one turn makes
abbrev pub most_kept_calls : ℕ → Job → ℕ
most_kept_calls limit job.Peer = limit
most_kept_calls limit job.Local = limit
most_kept_calls limit other = most_calls other

-- The calls that the pass has seen go on, its share rises by as many calls as the turns may make at most, and no more turns
-- are counted as starved than were made.
pub record GrowsKept {W L C N : Type 0} (limit turns : ℕ) (old new : Worker W L C N) : Type 0 where
  pub list : IsPrefix old.pass.list new.pass.list
  pub share : old.pass.share ≤ new.pass.share
  pub most : new.pass.share ≤ old.pass.share + turns * most_kept_calls limit old.job
  pub starved : old.starved ≤ new.starved
  pub starved_most : new.starved ≤ old.starved + turns
