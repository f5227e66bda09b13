use Rattle.std.proofs.Common.{IsTrue, refl}
use Rattle.exchange_model.specs.Apply.{is_fit, is_one}
use Rattle.exchange_model.specs.Questions.{is_pending, sent_at}
use Rattle.as4_effects.specs.declared.mark.Mark.TheVariants as mark
use Rattle.msh_state.proofs.StepLemmas.{settled_step}
use Rattle.msh_state.proofs.tables.EndTables.receipt.Goals as goal

pub invariant_of-self : goal.invariant_of-self
unfolding is_fit
invariant_of-self c =
    let fit : IsTrue (is_one is_pending (sent_at c.args.number c.self.inside.outbox.sent)) = rw (← c.self.view_is) at c.requires.fit in (
      settled_step c.args.number mark.Receipted _ _ _ _ refl c.self.invariant.0 c.len-numbered.ensures.numbered fit c.take_out.ensures.waiting c.mark_receipted.ensures.sent,
      c.self.invariant.1,
      c.self.invariant.2,
      c.self.invariant.3,
    )
