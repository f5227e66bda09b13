use Rattle.std.specs.Prelude.{is_ok}
use Rattle.std.proofs.lemmas.Result.{on_ok_weaker}
use Rattle.as4_disk.specs.declared.change.Change.TheVariants.{Synced}
use Rattle.as4_disk.proofs.MemoryLemmas.{went_time, went, ok_grew, synced_reads, synced_crash, synced_durable, synced_others}
use Rattle.as4_disk.proofs.memory.MemoryDiskDisk.sync.Goals as goal

pub returns-clause-durable : goal.returns-clause-durable
returns-clause-durable c =
    on_ok_weaker c.change.result (synced_durable c.args.part c.args.self.now c.change.new.self)
    (ok_grew (Synced c.args.part) c.args.self.now c.change.new.self c.change.result c.change.ensures.makes)

pub returns-clause-seen : goal.returns-clause-seen
returns-clause-seen c =
    synced_reads c.args.part c.args.self.now c.change.new.self (went (Synced c.args.part) c.args.self.now c.change.new.self (is_ok c.change.result) c.change.ensures.makes)

pub returns-clause-crash : goal.returns-clause-crash
returns-clause-crash c =
    synced_crash c.args.part c.args.self.now c.change.new.self (went (Synced c.args.part) c.args.self.now c.change.new.self (is_ok c.change.result) c.change.ensures.makes)

pub returns-clause-time : goal.returns-clause-time
returns-clause-time c =
    went_time (Synced c.args.part) c.args.self.now c.change.new.self (went (Synced c.args.part) c.args.self.now c.change.new.self (is_ok c.change.result) c.change.ensures.makes)

pub returns-clause-others : goal.returns-clause-others
returns-clause-others c =
    synced_others c.args.part c.args.self.now c.change.new.self (went (Synced c.args.part) c.args.self.now c.change.new.self (is_ok c.change.result) c.change.ensures.makes)
