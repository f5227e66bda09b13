-- What a worker keeps over its turns.
use Rattle.std.proofs.Common.{◌≡◌, ℕ, zero, suc, Bool, true, false, Option, None, inl, inr, refl, ap, ◌∙◌}
use Rattle.as4_disk.specs.declared.disk.Disk.{Ghosts as DiskMeaning}
use Rattle.as4_flow.specs.declared.clock.Clock.{Ghosts as ClockMeaning}
use Rattle.as4_flow.specs.declared.nonces.Nonces.{Ghosts as NoncesMeaning}
use Rattle.as4_host.specs.declared.door.Door.{Ghosts as DoorMeaning}
use Rattle.as4_host.specs.declared.link.Link.{Ghosts as LinkMeaning}
use Rattle.sessions.specs.declared.naming.Opening.{Ghosts as OpeningMeaning}
use Rattle.workers.specs.Bounds.{IsKept, door_of}
use Rattle.workers.specs.Turns.{Does, MakesItsTurns, TakesTurn, TakesTurns}
use Rattle.workers.specs.declared.job.Job.{Job}
use Rattle.workers.specs.declared.job.Job.TheVariants as job
use Rattle.workers.specs.declared.job.Worker.{Worker}
use Rattle.workers.specs.declared.turn.Turn.{Turn}
use Rattle.workers.proofs.TurnLemmas.{finished}

module _ {W L C N : Type 0} where
  kept_then : (old middle new : Worker W L C N) → IsKept old middle → IsKept middle new → IsKept old new
  kept_then old middle new first last =
      (last.0 ∙ first.0, λ none. last.1 (ap door_of first.0 ∙ none) ∙ first.1 none)

  kept_same : (old new : Worker W L C N) → new ≡ old → IsKept old new
  kept_same old new same = (ap (λ (w : Worker W L C N). w.job) same, λ _. ap (λ (w : Worker W L C N). w.door) same)

module _ {D J W In Out L From To C N : Type 0} (M : DiskMeaning D) (O : OpeningMeaning J) (G : DoorMeaning W In Out) (K : LinkMeaning L From To) (T : ClockMeaning C) (R : NoncesMeaning N) where
  does_keep : (job : Job) (old new : Worker W L C N) (end : Turn) → Does M O G K T R job old new end → door_of job ≡ None → new.door ≡ old.door
  does_keep job.Peer old new end does none = absurd cc
  does_keep job.Local old new end does none = absurd cc
  does_keep job.Push old new end does none = does.door
  does_keep (job.Pull mode) old new end does none = does.door
  does_keep job.Tick old new end does none = does.door

  turn_keeps : (old new : Worker W L C N) (goes : Bool) → TakesTurn M O G K T R old new goes → IsKept old new
  turn_keeps old new goes takes =
      let left = finished M O G K T R takes.end takes.middle new takes.finishes in (
        left.job ∙ takes.makes.job,
        λ none. left.door ∙ does_keep old.job old takes.middle takes.end takes.makes.does none,
      )

  turns_keep : (n : ℕ) (old new : Worker W L C N) → TakesTurns M O G K T R n old new → IsKept old new
  turns_keep zero old new takes = kept_same old new takes
  turns_keep (suc n) old new (middle, first, last) =
      kept_then old middle new (turns_keep n old middle first) (turn_keeps middle new true last)

  -- a worker keeps its job, and one that isn't at a door keeps what it has for one
  pub worked_keeps : (old new : Worker W L C N) → MakesItsTurns M O G K T R old new → IsKept old new
  worked_keeps old new (inl all) = turns_keep old.turns old new all
  worked_keeps old new (inr (n, middle, fewer, first, last)) =
      kept_then old middle new (turns_keep n old middle first) (turn_keeps middle new false last)
