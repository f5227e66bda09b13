use Rattle.pass_book.proofs.StepLemmas.{absorbs}
use Rattle.pass_book.proofs.steps.absorb.Goals as goal

pub join_seat-requires : goal.join_seat-requires
join_seat-requires g c = (c.requires.seat.here, c.requires.other.here, c.requires.other.slots, c.requires.seat.word, absorbs _ c.args.seat.now.me.0 _ c.args.other.me.0 c.requires.plain)
