-- What workers keep and add whose guests send several requests each.
use Rattle.std.proofs.Common.{◌≡◌, ◌+◌, ◌*◌, ◌≤◌, ℕ, zero, suc, Bool, true, false, Option, Some, None, inl, inr, refl, sym, ap, subst, ◌∙◌}
use Rattle.as4_disk.specs.declared.disk.Disk.{Ghosts as DiskMeaning}
use Rattle.as4_doors.specs.declared.door.DoorKind.{DoorKind}
use Rattle.as4_flow.specs.declared.clock.Clock.{Ghosts as ClockMeaning}
use Rattle.as4_flow.specs.declared.nonces.Nonces.{Ghosts as NoncesMeaning}
use Rattle.as4_host.specs.declared.door.Door.{Ghosts as DoorMeaning}
use Rattle.as4_host.specs.declared.link.Link.{Ghosts as LinkMeaning}
use Rattle.as4_keep.specs.KeptBounds.{GrowsKept, most_kept_calls}
use Rattle.as4_keep.specs.KeptTurns.{MakesItsKeptTurns, TakesKeptTurns, TakesTurnAt}
use Rattle.sessions.specs.declared.naming.Opening.{Ghosts as OpeningMeaning}
use Rattle.workers.specs.Bounds.{Grows, door_of, most_calls}
use Rattle.workers.specs.Turns.{Finishes}
use Rattle.workers.specs.declared.job.Job.{Job}
use Rattle.workers.specs.declared.job.Job.TheVariants as job
use Rattle.workers.specs.declared.job.Worker.{Worker}
use Rattle.workers.specs.declared.turn.Turn.{Turn}
use Rattle.workers.specs.declared.turn.Turn.TheVariants as turn

-- with one request for each guest a turn makes at most the calls that it makes in `workers`
most_once : (j : Job) → most_kept_calls 1 j ≡ most_calls j
most_once job.Peer = refl
most_once job.Local = refl
most_once job.Push = refl
most_once (job.Pull mode) = refl
most_once job.Tick = refl

pub grows_once : {W L C N : Type 0} (turns : ℕ) (old new : Worker W L C N) → Grows turns old new → GrowsKept 1 turns old new
grows_once turns old new grows = record {
  list = grows.list;
  share = grows.share;
  most = subst (λ n. new.pass.share ≤ old.pass.share + turns * n) (sym (most_once old.job)) grows.most;
  starved = grows.starved;
  starved_most = grows.starved_most;
}

module _ {D J W In Out L From To C N : Type 0} (M : DiskMeaning D) (O : OpeningMeaning J) (G : DoorMeaning W In Out) (K : LinkMeaning L From To) (T : ClockMeaning C) (R : NoncesMeaning N) (limit : ℕ) where
  finish_job : (end : Turn) (middle new : Worker W L C N) → Finishes M O G K T R end middle new → new.job ≡ middle.job
  finish_job turn.Worked middle new same = ap (λ (w : Worker W L C N). w.job) same
  finish_job turn.Idle middle new rests = ap (λ (w : Worker W L C N). w.job) rests.same
  finish_job turn.Starved middle new rests = ap (λ (w : Worker W L C N). w.job) rests.same
  finish_job turn.Closed middle new same = ap (λ (w : Worker W L C N). w.job) same

  turn_job : (o : Option DoorKind) (old new : Worker W L C N) (goes : Bool) → TakesTurnAt M O G K T R limit o old new goes → new.job ≡ old.job
  turn_job (Some kind) old new goes takes = finish_job takes.end takes.middle new takes.finishes ∙ takes.keeps.job
  turn_job None old new goes takes = finish_job takes.end takes.middle new takes.finishes ∙ takes.makes.job

  turns_job : (n : ℕ) (old new : Worker W L C N) → TakesKeptTurns M O G K T R limit n old new → new.job ≡ old.job
  turns_job zero old new same = ap (λ (w : Worker W L C N). w.job) same
  turns_job (suc n) old new (middle, first, last) = turn_job (door_of middle.job) middle new true last ∙ turns_job n old middle first

  -- a worker keeps its job
  pub kept_job : (old new : Worker W L C N) → MakesItsKeptTurns M O G K T R limit old new → new.job ≡ old.job
  kept_job old new (inl all) = turns_job old.turns old new all
  kept_job old new (inr (n, middle, fewer, first, last)) = turn_job (door_of middle.job) middle new false last ∙ turns_job n old middle first
