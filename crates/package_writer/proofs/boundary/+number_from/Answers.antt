use Rattle.std.proofs.Common.{arith, sym}
use Rattle.package_writer.proofs.NumberLemmas.{has_room}
use Rattle.package_writer.proofs.boundary.+number_from.Goals as goal

pub overflow_mul-number : goal.overflow_mul-number
overflow_mul-number t c =
    let room = has_room c.args.number c.args.places 0 (omega (arith, c.if-places-eq0.false)) c.requires (omega arith) in
    omega (arith, room.0)

pub overflow_add-number : goal.overflow_add-number
overflow_add-number t c =
    let room = has_room c.args.number c.args.places 0 (omega (arith, c.if-places-eq0.false)) c.requires (omega arith) in
    omega (arith, room.0, c.from.ensures, c.in_ok-digit.ensures)

pub number_from-requires : goal.number_from-requires
number_from-requires t c =
    let room = has_room c.args.number c.args.places c.from.result (omega (arith, c.if-places-eq0.false)) c.requires (omega (arith, c.from.ensures, c.in_ok-digit.ensures)) in
    (omega (arith, c.decreases, c.if-places-eq0.false), room.1)
