use Rattle.std.proofs.Common.{◌<◌, length, refl, rules}
use Rattle.exchange_model.specs.Questions.{is_pending}
use Rattle.exchange_model.specs.Apply.{marked}
use Rattle.outbox.proofs.NumberedLemmas.{changed_at}
use Rattle.outbox.proofs.StandLemmas.{held_short, set_stands}
use Rattle.outbox.proofs.marking.settle.Goals as goal

pub bounds-sent-number : goal.bounds-sent-number
bounds-sent-number c = held_short is_pending _ _ c.requires.stand c.requires.pending

pub offset_bounds-sent-number : goal.offset_bounds-sent-number
offset_bounds-sent-number c =
    let short : c.args.number < length c.args.sent.now = held_short is_pending _ _ c.requires.stand c.requires.pending in
    search rules

pub returns-clause-after : goal.returns-clause-after
returns-clause-after c =
    changed_at c.args.number (marked c.args.mark) c.args.sent.now c.index-sent-number.result c.requires.stand.numbered
    (held_short is_pending _ _ c.requires.stand c.requires.pending)

pub returns-clause-stand : goal.returns-clause-stand
returns-clause-stand c =
    let short : c.args.number < length c.args.sent.now = held_short is_pending _ _ c.requires.stand c.requires.pending in
    set_stands c.args.number c.args.sent.now _ c.index-sent-number.result short refl
    (c.requires.stand.dated c.args.number c.index-sent-number.result short) c.requires.stand
