use Rattle.handler.proofs.handling.a_disk_reads_what_a_crash_may_leave.Goals as goal

pub returns : goal.returns
returns g c = g.met.D.Disk.reads_now
