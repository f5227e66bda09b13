use Rattle.std.proofs.Common.{◌<◌, ◌≤◌, length, get_or, refl, sym, ap, ◌∙◌, ◌≡◌, rules}
use Rattle.std.proofs.lemmas.Option.{get_or_from_slice_get}
use Rattle.exchange_model.proofs.NumberedLemmas.{place}
use Rattle.outbox.specs.Failing.{failing_at}
use Rattle.exchange_model.specs.Questions.{is_waiting}
use Rattle.exchange_model.specs.Apply.{tried}
use Rattle.outbox.proofs.NumberedLemmas.{changed_at}
use Rattle.outbox.proofs.StandLemmas.{held_short, held_passes, waiting_tries, set_stands}
use Rattle.outbox.proofs.marking.mark_tried.Goals as goal

pub bounds-sent-number : goal.bounds-sent-number
bounds-sent-number c = held_short is_waiting _ _ c.requires.stand c.requires.waiting

pub offset_bounds-sent-number : goal.offset_bounds-sent-number
offset_bounds-sent-number c =
    let short : c.args.number < length c.args.sent.now = held_short is_waiting _ _ c.requires.stand c.requires.waiting in
    search rules

pub overflow_add-one : goal.overflow_add-one
overflow_add-one c =
    let few : (get_or c.args.sent.now c.args.number c.index-sent-number.result).tries ≤ 1000 =
    waiting_tries (get_or c.args.sent.now c.args.number c.index-sent-number.result) (held_passes is_waiting c.args.number c.args.sent.now c.index-sent-number.result c.requires.stand c.requires.waiting) in
    search rules

pub returns-clause-after : goal.returns-clause-after
returns-clause-after c =
    changed_at c.args.number (tried c.args.moment) c.args.sent.now c.index-sent-number.result c.requires.stand.numbered
    (held_short is_waiting _ _ c.requires.stand c.requires.waiting)

pub returns-clause-stand : goal.returns-clause-stand
returns-clause-stand c =
    set_stands c.args.number c.args.sent.now _ c.index-sent-number.result
    (held_short is_waiting _ _ c.requires.stand c.requires.waiting) refl c.requires.dated c.requires.stand

pub returns-clause-fails : goal.returns-clause-fails
returns-clause-fails c = λ one found.
    let there : get_or c.args.sent.now c.args.number c.index-sent-number.result ≡ one =
    get_or_from_slice_get c.args.sent.now c.args.number one c.index-sent-number.result
    (sym (place c.args.number c.args.sent.now c.requires.stand.numbered) ∙ found) in
    c.fails_at.ensures ∙ ap (λ s. failing_at (tried c.args.moment s)) there
