use Rattle.tree_reader.specs.Views.{state_of}
use Rattle.tree_reader.proofs.EndLemmas.{end_reads}
use Rattle.tree_reader.proofs.read.advance.Goals as goal

pub returns-in-Some : goal.returns-in-Some
returns-in-Some c =
    end_reads c.args.reading.now c.args.bytes.now c.in-Some.behind.now (state_of c.read_known_end.new.reading) c.in-Some.ensures.inside c.requires c.in-Some.ensures.tag c.in_ok-read_known_end.ensures
