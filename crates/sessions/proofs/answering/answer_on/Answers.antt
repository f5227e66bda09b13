use Rattle.std.proofs.Common.{Err, ap, ℕ, List}
use Rattle.as4_doors.specs.WrittenText.{written_text}
use Rattle.as4_doors.specs.declared.written.Written.{Written}
use Rattle.office.specs.declared.fault.OfficeFault.TheVariants.{NoMemory}
use Rattle.sessions.specs.declared.ended.Ended.{Ended}
use Rattle.sessions.proofs.answering.answer_on.Goals as goal

-- there was no memory for the step
pub returns-in-Err-clause-answers : goal.returns-in-Err-clause-answers
returns-in-Err-clause-answers g c = record {
  result = Err NoMemory;
  handles = c.in-Err.ensures.starved c.args.pass.now;
  tells = (ap (λ (r : Ended × Written). r.0) c.unavailable.ensures, ap (λ (r : Ended × Written). written_text r.1) c.unavailable.ensures);
}

pub returns-in-Err-clause-book : goal.returns-in-Err-clause-book
returns-in-Err-clause-book g c = (c.in-Err.ensures.starved c.args.pass.now).keeps.book
