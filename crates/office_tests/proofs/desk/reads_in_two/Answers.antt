use Rattle.office_tests.proofs.desk.reads_in_two.Goals as goal

pub returns-in-Err-clause-office : goal.returns-in-Err-clause-office
returns-in-Err-clause-office c = (c.in-Err.ensures.starved c.args.pass.now).keeps.book
