use Rattle.std.proofs.Common.{arith}
use Rattle.pass_book.proofs.StepLemmas.{splits}
use Rattle.pass_book.proofs.steps.split_all.Goals as goal

pub split_seat-requires : goal.split_seat-requires
split_seat-requires g c = (c.requires.seat.here, c.requires.seat.word, splits _ c.args.seat.now.me.0 _ _ (omega arith) (omega arith) (λ idle. idle) (λ _. omega arith))
