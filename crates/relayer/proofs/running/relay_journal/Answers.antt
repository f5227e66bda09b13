use Rattle.std.proofs.Common.{inl, inr, sym, subst, refl}
use Rattle.relayer.specs.Ends.{IsJudged}
use Rattle.relayer.specs.Running.{RelaysBy}
use Rattle.relayer.proofs.HostLemmas.{leaves_all, touches_all}
use Rattle.relayer.proofs.running.relay_journal.Given.{Over}
use Rattle.relayer.proofs.running.relay_journal.Goals as goal
use Rattle.relayer.proofs.running.relay_journal.Goals.{in-Ok, in-Err}

-- what was done
done : (g : Over) (c : goal.After-judged g) → RelaysBy g.H.Host g.H.Store.Disk g.H.Time.Clock g.H.Dice.Nonces c.args.modes.now c.args.journal.now c.args.mode.now c.args.count c.args.host.now c.match-read_modes.host
    (g.O.Sink.taken c.args.output.now) (g.O.Sink.taken c.match-read_modes.output) c.match-read_modes.end
done g c =
    let B = RelaysBy g.H.Host g.H.Store.Disk g.H.Time.Clock g.H.Dice.Nonces c.args.modes.now c.args.journal.now c.args.mode.now c.args.count c.args.host.now in
    let taken = g.O.Sink.taken c.args.output.now in
    elim c.match-read_modes.branch [
      | in-Ok w ↦ subst (λ h. B h taken (g.O.Sink.taken c.match-read_modes.output) c.match-read_modes.end) (sym w.host-is)
          (subst (λ o. B w.prepare-end.new.host taken (g.O.Sink.taken o) c.match-read_modes.end) (sym w.output-is)
          (subst (λ e. B w.prepare-end.new.host taken (g.O.Sink.taken w.prepare-end.new.output) e) (sym w.end-is)
          (inr (w.in-Ok.modes, c.read_modes.new.host, w.in-Ok.ensures.modes, w.in-Ok.ensures.reads, w.prepare-end.ensures.relays))))
      | in-Err w ↦ subst (λ h. B h taken (g.O.Sink.taken c.match-read_modes.output) c.match-read_modes.end) (sym w.host-is)
          (subst (λ o. B c.read_modes.new.host taken (g.O.Sink.taken o) c.match-read_modes.end) (sym w.output-is)
          (subst (λ e. B c.read_modes.new.host taken taken e) (sym w.end-is)
          (inl (w.in-Err.end, w.in-Err.ensures.cause, w.in-Err.ensures.reads, w.unread-end.ensures, refl))))
    ]

pub returns-clause-relays : goal.returns-clause-relays
returns-clause-relays g c = (
  c.match-read_modes.end,
  done g c,
  subst (λ n. IsJudged c.match-read_modes.end n (g.H.Host.fault_count c.match-read_modes.host) c.judged.result) c.faults-before.ensures
      (subst (λ n. IsJudged c.match-read_modes.end c.faults-before.result n c.judged.result) c.faults.ensures c.judged.ensures),
)

pub returns-clause-touches : goal.returns-clause-touches
returns-clause-touches g c =
    touches_all g.H.Host c.args.journal.now g.H.Store.Disk g.H.Time.Clock g.H.Dice.Nonces c.args.modes.now c.args.mode.now c.args.count c.args.host.now c.match-read_modes.host
    (g.O.Sink.taken c.args.output.now) (g.O.Sink.taken c.match-read_modes.output) c.match-read_modes.end (done g c)

pub returns-clause-store : goal.returns-clause-store
returns-clause-store g c =
    leaves_all g.H.Host c.args.journal.now g.H.Store.Disk g.H.Time.Clock g.H.Dice.Nonces g.met.H.Store.Disk.reads_now c.args.modes.now c.args.mode.now c.args.count c.args.host.now c.match-read_modes.host
    (g.O.Sink.taken c.args.output.now) (g.O.Sink.taken c.match-read_modes.output) c.match-read_modes.end (done g c)
