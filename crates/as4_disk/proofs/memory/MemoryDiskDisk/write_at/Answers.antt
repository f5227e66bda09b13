use Rattle.std.specs.Prelude.{is_ok}
use Rattle.std.proofs.Common.{◌≡◌, List, ℕ, ◌∙◌, subst}
use Rattle.std.proofs.lemmas.Result.{on_ok_weaker}
use Rattle.as4_disk.specs.Memory.{MakesChange}
use Rattle.as4_disk.specs.declared.change.Change.TheVariants.{Wrote}
use Rattle.as4_disk.proofs.MemoryLemmas.{went_time, went, ok_grew, written_by, written_crash}
use Rattle.as4_disk.proofs.memory.MemoryDiskDisk.write_at.Goals as goal

pub returns-clause-makes : goal.returns-clause-makes
returns-clause-makes c =
    let same : c.of-bytes.result ≡ c.args.bytes.now = c.of-bytes.ensures ∙ c.in-Ok.ensures.items in
    subst (λ (bytes : List ℕ). MakesChange (Wrote c.args.part c.args.at bytes) c.args.self.now c.change.new.self (is_ok c.change.result)) same c.change.ensures.makes

pub returns-clause-written : goal.returns-clause-written
returns-clause-written c =
    on_ok_weaker c.change.result (written_by c.args.part c.args.self.now c.change.new.self c.args.at c.args.bytes.now)
    (ok_grew (Wrote c.args.part c.args.at c.args.bytes.now) c.args.self.now c.change.new.self c.change.result (returns-clause-makes c))

pub returns-clause-crash : goal.returns-clause-crash
returns-clause-crash c =
    written_crash c.args.part c.args.self.now c.change.new.self c.args.at c.args.bytes.now
    (went (Wrote c.args.part c.args.at c.args.bytes.now) c.args.self.now c.change.new.self (is_ok c.change.result) (returns-clause-makes c))

pub returns-clause-time : goal.returns-clause-time
returns-clause-time c =
    let change = Wrote c.args.part c.args.at c.of-bytes.result in
    went_time change c.args.self.now c.change.new.self (went change c.args.self.now c.change.new.self (is_ok c.change.result) c.change.ensures.makes)
