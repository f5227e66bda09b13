use Rattle.msh_core.proofs.FoldSizeLemmas.{delivered_sum}
use Rattle.msh_core.proofs.folding.delivered_size.Goals as goal

pub returns-in-Entry : goal.returns-in-Entry
returns-in-Entry c =
    let held = rw c.in-Entry.is at c.read.ensures in
    delivered_sum c.args.sum c.saturating_add.result c.saturating_add-in-Entry.result c.in-Entry.header.now c.in-Entry.gate c.in-Entry.length
    c.args.tables.now.end.confirmed c.args.tables.now.places c.args.tables.now.end.inbox c.args.place c.requires.measured c.requires.waits
    held.1 held.2 c.saturating_add.ensures c.saturating_add-in-Entry.ensures
