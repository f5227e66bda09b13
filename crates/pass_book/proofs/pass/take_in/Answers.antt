use Rattle.pass_book.specs.Seats.{view_of}
use Rattle.pass_book.proofs.Beginnings.{begin_merged}
use Rattle.pass_book.proofs.pass.take_in.Goals as goal

pub returns-clause-one : goal.returns-clause-one
returns-clause-one g c = rw c.look.ensures.same (begin_merged (view_of c.args.seat.now) (view_of c.args.other) _ _ c.merge.ensures.both c.look.ensures.seen).0

pub returns-clause-other : goal.returns-clause-other
returns-clause-other g c = rw c.look.ensures.same (begin_merged (view_of c.args.seat.now) (view_of c.args.other) _ _ c.merge.ensures.both c.look.ensures.seen).1
