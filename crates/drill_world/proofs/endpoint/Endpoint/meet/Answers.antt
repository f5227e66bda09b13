use Rattle.std.proofs.Common.{◌≡◌, ◌++◌, if◌then◌else◌, refl, sym, ◌∙◌}
use Rattle.drill_world.proofs.EndpointLemmas.{can_come_after}
use Rattle.exchange_model.specs.World.{sends}
use Rattle.drill_world.proofs.endpoint.Endpoint.meet.Goals as goal

-- the step is made
pub invariant_of-self-in-Ok-reply_line : goal.invariant_of-self-in-Ok-reply_line
invariant_of-self-in-Ok-reply_line c =
    let old = c.self.inside.office in
    let answer = c.in-Ok-handle.ensures.handles.answer in (
      can_come_after c.what_is_sent_may_come.ensures old.modes old.end c.args.event answer.outcome c.args.lost
          c.self.inside.said.items c.keep.new.said.items answer.step c.self.invariant.0 (c.keep.ensures ∙ rw (c.in-Ok.ensures.items, answer.reply) refl),
      c.in-Ok-handle.ensures.pass.0 ∙ c.self.invariant.1 ∙ sym c.in-Ok-handle.ensures.book,
    )

pub returns-in-Ok-reply_line-clause-meets : goal.returns-in-Ok-reply_line-clause-meets
returns-in-Ok-reply_line-clause-meets c =
    let answer = c.in-Ok-handle.ensures.handles.answer in
    let said : c.keep.new.said.items ≡ (if c.args.lost then c.self.inside.said.items else c.self.inside.said.items ++ sends answer.outcome.reply) =
    c.keep.ensures ∙ rw (c.in-Ok.ensures.items, answer.reply) refl in
    rw (← c.self.view_is) (record {
      outcome = answer.outcome;
      step = answer.step;
      says = c.in-Ok-reply_line.ensures ∙ rw (answer.reply, c.as_slice.ensures.value, c.in-Ok.ensures.items) refl;
      leads = rw (answer.end, said) refl;
    })
