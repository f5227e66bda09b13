use Rattle.std.proofs.Common.{Err, refl}
use Rattle.office.specs.declared.fault.OfficeFault.TheVariants.{NoMemory}
use Rattle.sessions.proofs.sending.send_on.Goals as goal

-- there was no memory for the step
pub returns-in-Err-clause-sends : goal.returns-in-Err-clause-sends
returns-in-Err-clause-sends g c = record { result = Err NoMemory; handles = c.in-Err.ensures.starved c.args.pass.now; tells = refl }

pub returns-in-Err-clause-book : goal.returns-in-Err-clause-book
returns-in-Err-clause-book g c = (c.in-Err.ensures.starved c.args.pass.now).keeps.book
