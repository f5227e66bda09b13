use Rattle.pass_book.proofs.StepLemmas.{adds}
use Rattle.pass_book.proofs.steps.append_named.Goals as goal

pub fetch_add-requires : goal.fetch_add-requires
fetch_add-requires g c = (c.requires.seat.here, c.requires.seat.word, rw c.requires.entry (adds _ _ c.args.seat.now.me c.args.entry.now c.requires.keeper c.requires.room c.requires.stake))
