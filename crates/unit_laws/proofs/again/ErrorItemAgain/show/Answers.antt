use Rattle.unit_laws.proofs.SignalAgain.{error_again}
use Rattle.unit_laws.proofs.SignalKept.{error_kept}
use Rattle.unit_laws.proofs.again.ErrorItemAgain.show.Goals as goal

pub returns-clause-again : goal.returns-clause-again
returns-clause-again c = error_again c.args.self.now (record {
  code = c.show.ensures.again;
  origin = c.show-2.ensures.again;
  category = c.show-3.ensures.again;
  about = c.show-4.ensures.again;
  short = c.show-5.ensures.again;
  description = c.show-6.ensures.again;
  detail = c.show-7.ensures.again;
})

pub returns-clause-kept : goal.returns-clause-kept
returns-clause-kept c = error_kept c.args.self.now (record {
  code = c.show.ensures.kept;
  origin = c.show-2.ensures.kept;
  category = c.show-3.ensures.kept;
  about = c.show-4.ensures.kept;
  short = c.show-5.ensures.kept;
  description = c.show-6.ensures.kept;
  detail = c.show-7.ensures.kept;
})
