use Rattle.std.proofs.Common.{◌≡◌, sym, ◌∙◌}
use Rattle.std.specs.Prelude.{option_copied, slice_get}
use Rattle.exchange_model.proofs.NumberedLemmas.{place}
use Rattle.outbox.proofs.StandLemmas.{looked_up, dated_found}
use Rattle.outbox.proofs.outbox.Outbox.at.Goals as goal

pub returns-clause-value : goal.returns-clause-value
returns-clause-value c =
    let value : option_copied c.get.result ≡ slice_get c.self.inside.sent.items c.args.number =
    rw c.deref.ensures.value at (looked_up c.get.result c.args.number c.deref.result.now c.get.ensures.lookup) in
    rw (← c.self.view_is) (value ∙ sym (place c.args.number c.self.inside.sent.items c.self.invariant.0.numbered))

pub returns-clause-dated : goal.returns-clause-dated
returns-clause-dated c =
    let value : option_copied c.get.result ≡ slice_get c.self.inside.sent.items c.args.number =
    rw c.deref.ensures.value at (looked_up c.get.result c.args.number c.deref.result.now c.get.ensures.lookup) in
    dated_found c.get.result c.args.number c.self.inside.sent.items c.self.invariant.0 value
