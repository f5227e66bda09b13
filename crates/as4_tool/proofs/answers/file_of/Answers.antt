use Rattle.as4_tool.proofs.answers.file_of.Goals as goal

pub returns-clause-file : goal.returns-clause-file
returns-clause-file c = (c.in-Some.signal, c.in-Some.is, c.in_ok-file.ensures)
