use Rattle.msh_journal.proofs.OpenEntryLemmas.{added_kept, open_room}
use Rattle.msh_journal.proofs.folding.add_folding.Goals as goal

pub add_open-added-requires-clause-room : goal.add_open-added-requires-clause-room
add_open-added-requires-clause-room g c =
    let shown = c.requires.shown in
    let is_open = rw c.in-Open.is at shown.4 in
    open_room shown.0 shown.1 shown.2 shown.3 c.in-Open.id c.in-Open.gate c.in-Open.length is_open c.args.journal.now.fold shown.6

pub returns-in_ok-add_known-in-Known-clause-kept : goal.returns-in_ok-add_known-in-Known-clause-kept
returns-in_ok-add_known-in-Known-clause-kept g c =
    added_kept g.D.Disk c.args.journal.now c.add_known.new.journal c.in-Known.effect c.in_ok-add_known-in-Known.ensures.added
