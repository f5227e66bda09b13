use Rattle.std.proofs.Common.{◌≡◌, ap, inl, inr, sym, subst}
use Rattle.handler.specs.Endings.{IsJudged}
use Rattle.handler.specs.Handling.{Ends, Serves}
use Rattle.handler.specs.Stores.{Stores}
use Rattle.handler.specs.declared.ending.HandlerEnd.TheVariants.{Served}
use Rattle.handler.proofs.HandlingLemmas.{ends_cause, ends_guests, ends_line, ends_serves, ends_silent, ends_store, ends_touch, judged_cause, judged_served, judged_unserved}
use Rattle.handler.proofs.ServedLemmas.{delivers}
use Rattle.handler.proofs.handling.handle.Given.{Over}
use Rattle.handler.proofs.handling.handle.Goals as goal
use Rattle.handler.proofs.handling.handle.Goals.{in-Ok, in-Err}

-- what was done
ended : (g : Over) (c : goal.After-judged g)
    → Ends g.H.Host g.H.Entrance.Door g.H.Dialer.Link g.H.Store.Disk g.H.Time.Clock g.H.Dice.Nonces c.args.setup (g.E.Sink.taken c.args.errors.now) (g.E.Sink.taken c.match-read_modes.errors) c.args.host.now c.match-read_modes.host c.match-read_modes.end
ended g c =
    let M = g.H.Host in
    let G = g.H.Entrance.Door in
    let K = g.H.Dialer.Link in
    let S = g.H.Store.Disk in
    let T = g.H.Time.Clock in
    let R = g.H.Dice.Nonces in
    let told = g.E.Sink.taken c.args.errors.now in
    elim c.match-read_modes.branch [
      | in-Ok w ↦
          let later = g.E.Sink.taken w.prepare-end.new.errors in
          subst (λ x. Ends M G K S T R c.args.setup told (g.E.Sink.taken x) c.args.host.now c.match-read_modes.host c.match-read_modes.end) (sym w.errors-is)
          (subst (λ h. Ends M G K S T R c.args.setup told later c.args.host.now h c.match-read_modes.end) (sym w.host-is)
          (subst (λ e. Ends M G K S T R c.args.setup told later c.args.host.now w.prepare-end.new.host e) (sym w.end-is)
          (inr (w.in-Ok.modes, c.read_modes.new.host, w.in-Ok.ensures.modes, w.in-Ok.ensures.reads, w.prepare-end.ensures.ends))))
      | in-Err w ↦
          let later = g.E.Sink.taken c.match-read_modes.errors in
          subst (λ h. Ends M G K S T R c.args.setup told later c.args.host.now h c.match-read_modes.end) (sym w.host-is)
          (subst (λ e. Ends M G K S T R c.args.setup told later c.args.host.now c.read_modes.new.host e) (sym w.end-is)
          (inl (w.in-Err.ensures.reads, w.in-Err.ensures.cause, ap g.E.Sink.taken w.errors-is)))
    ]

-- the end was judged by the host's counts
judged_by : (g : Over) (c : goal.After-judged g) → IsJudged c.match-read_modes.end (g.H.Host.fault_count c.args.host.now) (g.H.Host.fault_count c.match-read_modes.host) c.judged.result
judged_by g c =
    subst (λ n. IsJudged c.match-read_modes.end n (g.H.Host.fault_count c.match-read_modes.host) c.judged.result) c.faults-before.ensures
    (subst (λ n. IsJudged c.match-read_modes.end c.faults-before.result n c.judged.result) c.faults.ensures c.judged.ensures)

has_served : (g : Over) (c : goal.After-judged g) → c.judged.result ≡ Served
    → Serves g.H.Host g.H.Entrance.Door g.H.Dialer.Link g.H.Store.Disk g.H.Time.Clock g.H.Dice.Nonces c.args.setup (g.E.Sink.taken c.args.errors.now) (g.E.Sink.taken c.match-read_modes.errors) c.args.host.now c.match-read_modes.host
has_served g c is =
    let served = judged_served (g.H.Host.fault_count c.args.host.now) (g.H.Host.fault_count c.match-read_modes.host) c.match-read_modes.end c.judged.result (judged_by g c) is in
    ends_serves g.H.Host g.H.Entrance.Door g.H.Dialer.Link g.H.Store.Disk g.H.Time.Clock g.H.Dice.Nonces c.args.setup (g.E.Sink.taken c.args.errors.now) (g.E.Sink.taken c.match-read_modes.errors) c.args.host.now c.match-read_modes.host
    (subst (Ends g.H.Host g.H.Entrance.Door g.H.Dialer.Link g.H.Store.Disk g.H.Time.Clock g.H.Dice.Nonces c.args.setup (g.E.Sink.taken c.args.errors.now) (g.E.Sink.taken c.match-read_modes.errors) c.args.host.now c.match-read_modes.host) served (ended g c))

pub returns-clause-ends : goal.returns-clause-ends
returns-clause-ends g c = (c.match-read_modes.end, ended g c, judged_by g c)

pub returns-clause-touches : goal.returns-clause-touches
returns-clause-touches g c =
    ends_touch g.H.Host g.H.Entrance.Door g.H.Dialer.Link g.H.Store.Disk g.H.Time.Clock g.H.Dice.Nonces c.args.setup (g.E.Sink.taken c.args.errors.now) (g.E.Sink.taken c.match-read_modes.errors) c.args.host.now c.match-read_modes.host c.match-read_modes.end (ended g c)

pub returns-clause-store : goal.returns-clause-store
returns-clause-store g c =
    ends_store g.H.Host g.H.Entrance.Door g.H.Dialer.Link g.H.Store.Disk g.H.Time.Clock g.H.Dice.Nonces c.args.setup (g.E.Sink.taken c.args.errors.now) (g.E.Sink.taken c.match-read_modes.errors) c.a_disk_reads_what_a_crash_may_leave.ensures c.args.host.now c.match-read_modes.host c.match-read_modes.end (ended g c)

pub returns-clause-cause : goal.returns-clause-cause
returns-clause-cause g c =
    judged_cause (g.H.Host.file c.args.host.now c.args.setup.modes.now) (Stores g.H.Host c.args.setup.journal.now c.args.host.now)
    (g.H.Host.fault_count c.args.host.now) (g.H.Host.fault_count c.match-read_modes.host) c.match-read_modes.end c.judged.result (judged_by g c)
    (ends_cause g.H.Host g.H.Entrance.Door g.H.Dialer.Link g.H.Store.Disk g.H.Time.Clock g.H.Dice.Nonces c.args.setup (g.E.Sink.taken c.args.errors.now) (g.E.Sink.taken c.match-read_modes.errors) c.args.host.now c.match-read_modes.host c.match-read_modes.end (ended g c))

pub returns-clause-guests : goal.returns-clause-guests
returns-clause-guests g c unserved a =
    ends_guests g.H.Host g.H.Entrance.Door g.H.Dialer.Link g.H.Store.Disk g.H.Time.Clock g.H.Dice.Nonces c.args.setup (g.E.Sink.taken c.args.errors.now) (g.E.Sink.taken c.match-read_modes.errors) c.args.host.now c.match-read_modes.host c.match-read_modes.end (ended g c)
    (judged_unserved (g.H.Host.fault_count c.args.host.now) (g.H.Host.fault_count c.match-read_modes.host) c.match-read_modes.end c.judged.result (judged_by g c) unserved) a

pub returns-clause-line : goal.returns-clause-line
returns-clause-line g c =
    ends_line g.H.Host g.H.Entrance.Door g.H.Dialer.Link g.H.Store.Disk g.H.Time.Clock g.H.Dice.Nonces c.args.setup (g.E.Sink.taken c.args.errors.now) (g.E.Sink.taken c.match-read_modes.errors) c.args.host.now c.match-read_modes.host c.match-read_modes.end (ended g c)

pub returns-clause-silent : goal.returns-clause-silent
returns-clause-silent g c unserved =
    ends_silent g.H.Host g.H.Entrance.Door g.H.Dialer.Link g.H.Store.Disk g.H.Time.Clock g.H.Dice.Nonces c.args.setup (g.E.Sink.taken c.args.errors.now) (g.E.Sink.taken c.match-read_modes.errors) c.args.host.now c.match-read_modes.host c.match-read_modes.end (ended g c)
    (judged_unserved (g.H.Host.fault_count c.args.host.now) (g.H.Host.fault_count c.match-read_modes.host) c.match-read_modes.end c.judged.result (judged_by g c) unserved)

pub returns-clause-serves : goal.returns-clause-serves
returns-clause-serves g c is = has_served g c is

pub returns-clause-delivers : goal.returns-clause-delivers
returns-clause-delivers g c is quiet few apart peers locals before told_peers told_locals stored =
    delivers g.H.Host g.H.Entrance.Door g.H.Dialer.Link g.H.Store.Disk g.H.Time.Clock g.H.Dice.Nonces c.args.setup (g.E.Sink.taken c.args.errors.now) (g.E.Sink.taken c.match-read_modes.errors) c.a_disk_reads_what_a_crash_may_leave.ensures
    (record {
      one_request = c.one_request.ensures;
      stops = c.calls_split.ensures.stop;
      splits = c.calls_split.ensures.split;
      receipted = c.what_came_stays_from_any_start.ensures.receipted;
      taken = c.what_comes_is_taken.ensures;
      belongs = c.what_is_sent_belongs_to_its_event.ensures;
    })
    c.args.host.now c.match-read_modes.host peers locals before (has_served g c is) quiet c.requires.keep.1 few apart told_peers told_locals stored
