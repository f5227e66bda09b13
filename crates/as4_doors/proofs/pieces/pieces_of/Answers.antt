use Rattle.as4_doors.proofs.PieceLemmas.{one_more, the_last}
use Rattle.as4_doors.proofs.pieces.pieces_of.Goals as goal

pub pieces-preserved : goal.pieces-preserved
pieces-preserved c =
    one_more c.push.new.self.items c.pieces.list.items _ c.in-Some.piece.now c.pieces.rest.now c.in-Some.more.now c.args.target.now
    c.in_ok-push.ensures.items c.in_ok-decoded.ensures c.in-Some.ensures.found c.in-Some.ensures.first c.pieces.invariant

pub returns : goal.returns
returns c =
    the_last c.push-2.new.self.items c.pieces.list.items _ c.pieces.rest.now c.args.target.now
    c.in_ok-push-2.ensures.items c.in_ok-decoded-2.ensures c.in_default.ensures.none c.pieces.invariant
