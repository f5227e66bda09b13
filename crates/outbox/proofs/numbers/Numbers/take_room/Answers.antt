use Rattle.outbox.specs.Numbering.{id_of}
use Rattle.outbox.proofs.NumberingLemmas.{numbered_too}
use Rattle.outbox.proofs.numbers.Numbers.take_room.Goals as goal

pub returns-clause-more : goal.returns-clause-more
returns-clause-more c = λ sent s are room new.
    let more = numbered_too c.args.self.now.ids.keys sent s are.ids are.few (are.place (id_of s) room) new in
    record { ids = more.0; few = more.1; place = λ id none. absurd (cc) }
