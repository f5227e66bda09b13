use Rattle.std.proofs.Common.{◌∙◌, sym}
use Rattle.msh_state.proofs.StepLemmas.{waits_nowhere, waits_there}
use Rattle.msh_state.proofs.applying.take_out.Goals as goal

pub remove-requires : goal.remove-requires
remove-requires c =
    record {
      there = waits_there c.args.number c.args.outbox.now.sent _ c.args.queue.now c.in-Some.due c.requires.step c.len-numbered.ensures.numbered
          (sym c.waits.ensures ∙ c.if-waits.true) (sym c.in-Some.is ∙ c.due.ensures) c.requires.queue;
    }

pub returns-else-waits-clause-waiting : goal.returns-else-waits-clause-waiting
returns-else-waits-clause-waiting c =
    waits_nowhere c.args.number c.args.outbox.now.sent _ c.requires.step c.len-numbered.ensures.numbered (sym c.waits.ensures ∙ c.if-waits.false)
