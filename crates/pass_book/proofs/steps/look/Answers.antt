use Rattle.pass_book.proofs.StepLemmas.{looks}
use Rattle.pass_book.proofs.steps.look.Goals as goal

pub load-requires : goal.load-requires
load-requires g c = (c.requires.seat.here, c.requires.seat.word, looks _ _ c.args.seat.now.me)
