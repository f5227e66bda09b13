use Rattle.std.proofs.Common.{◌∷◌, refl, inl, inr, sym, subst}
use Rattle.auditor.specs.Auditing.{AuditsBy}
use Rattle.auditor.proofs.ReadingLemmas.{picked_before, reads_files, reads_modes, reads_then, unpicked_before}
use Rattle.auditor.proofs.auditing.audit_journal.Goals as goal
use Rattle.auditor.proofs.auditing.audit_journal.Goals.{in-Ok-read_picked, in-Err-read_picked}
use Rattle.handler.specs.Hosts.{files_of}

pub returns-in-Err-clause-reads : goal.returns-in-Err-clause-reads
returns-in-Err-clause-reads g c = reads_modes g.H.Host c.args.modes.now c.args.journal.now c.args.host.now c.read_modes.new.host c.in-Err.ensures.reads

pub returns-clause-audits : goal.returns-clause-audits
returns-clause-audits g c =
    let A = AuditsBy g.H.Host c.args.modes.now c.args.journal.now c.args.form c.args.host.now c.read_picked.new.host (g.O.Sink.taken c.args.output.now) in
    let same = c.in-Ok.ensures.reads.files in
    let count = c.in-Ok.ensures.faults (λ wrong. cc) in
    elim c.match-read_picked.branch [
      | in-Ok-read_picked w ↦ subst (λ o. A (g.O.Sink.taken o) c.match-read_picked.end) (sym w.output-is) (subst (λ e. A (g.O.Sink.taken w.audit_leaf-end.new.output) e) (sym w.end-is)
          (inr (
            c.in-Ok.modes,
            c.in-Ok.ensures.modes,
            inr (
              w.in-Ok-read_picked.leaf,
              picked_before g.H.Host c.args.journal.now w.in-Ok-read_picked.leaf c.args.host.now c.read_modes.new.host same w.in-Ok-read_picked.ensures.leaf,
              rw (← w.bytes.ensures) w.audit_leaf-end.ensures.audits,
            ),
          )))
      | in-Err-read_picked w ↦ subst (λ o. A (g.O.Sink.taken o) c.match-read_picked.end) (sym w.output-is) (subst (λ e. A (g.O.Sink.taken c.args.output.now) e) (sym w.end-is)
          (inr (
            c.in-Ok.modes,
            c.in-Ok.ensures.modes,
            inl (
              unpicked_before g.H.Host c.args.journal.now c.args.host.now c.read_modes.new.host (g.H.Host.fault_count c.read_picked.new.host) w.in-Err-read_picked.end same count w.in-Err-read_picked.ensures.unread,
              refl,
            ),
          )))
    ]

pub returns-clause-reads : goal.returns-clause-reads
returns-clause-reads g c =
    reads_then g.H.Host (c.args.modes.now ∷ files_of c.args.journal.now) c.args.host.now c.read_modes.new.host c.read_picked.new.host
    (reads_modes g.H.Host c.args.modes.now c.args.journal.now c.args.host.now c.read_modes.new.host c.in-Ok.ensures.reads)
    (reads_files g.H.Host c.args.modes.now c.args.journal.now c.read_modes.new.host c.read_picked.new.host c.read_picked.ensures.reads)
