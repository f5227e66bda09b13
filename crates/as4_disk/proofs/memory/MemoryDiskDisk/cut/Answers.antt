use Rattle.std.specs.Prelude.{is_ok}
use Rattle.std.proofs.lemmas.Result.{on_ok_weaker}
use Rattle.as4_disk.specs.declared.change.Change.TheVariants.{WasCut}
use Rattle.as4_disk.proofs.MemoryLemmas.{went_time, went, ok_grew, cut_by, cut_crash}
use Rattle.as4_disk.proofs.memory.MemoryDiskDisk.cut.Goals as goal

pub returns-clause-written : goal.returns-clause-written
returns-clause-written c =
    on_ok_weaker c.change.result (cut_by c.args.part c.args.self.now c.change.new.self c.args.len)
    (ok_grew (WasCut c.args.part c.args.len) c.args.self.now c.change.new.self c.change.result c.change.ensures.makes)

pub returns-clause-crash : goal.returns-clause-crash
returns-clause-crash c =
    cut_crash c.args.part c.args.self.now c.change.new.self c.args.len (went (WasCut c.args.part c.args.len) c.args.self.now c.change.new.self (is_ok c.change.result) c.change.ensures.makes)

pub returns-clause-time : goal.returns-clause-time
returns-clause-time c =
    let change = WasCut c.args.part c.args.len in
    went_time change c.args.self.now c.change.new.self (went change c.args.self.now c.change.new.self (is_ok c.change.result) c.change.ensures.makes)
