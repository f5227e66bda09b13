use Rattle.std.proofs.Common.{◌<◌, length, sym, arith}
use Rattle.std.proofs.lemmas.Result.{on_ok_weaker}
use Rattle.msh_core.proofs.PlanLemmas.{last_has, last_there}
use Rattle.msh_core.proofs.applying.reserve_last.Goals as goal

pub reserve-requires : goal.reserve-requires
reserve-requires c =
    let none = c.if-len-eq0.false in
    let some : 0 < length c.items-items.result.now = omega (arith, none) in
    record {
      there = rw c.index-items-len.is (rw c.items-items.ensures
          (last_there c.args.effects.now c.args.tables.now.end c.index-items-len.result c.requires.fit c.requires.one_room
          (rw c.items-items.ensures at some)));
    }

pub returns-clause-room : goal.returns-clause-room
returns-clause-room c =
    on_ok_weaker c.reserve.result
    (λ room. last_has c.args.effects.now c.reserve.new.self.rooms c.reserve.new.self.end.sent c.index-items-len.result c.requires.one_room
    (rw (sym c.items-items.ensures) (rw (sym c.index-items-len.is) room)))
    c.reserve.ensures.ok
