use Rattle.pass_book.proofs.StepLemmas.{opens}
use Rattle.pass_book.proofs.keeper.Keeper.new.Goals as goal

pub of_words-requires : goal.of_words-requires
of_words-requires g c = opens
