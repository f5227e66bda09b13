use Rattle.std.proofs.Common.{◌∷◌, ◌++◌, [], refl}
use Rattle.journal_tests.proofs.ready.fold_to_one.Goals as goal

pub fold_add-requires-clause-settled : goal.fold_add-requires-clause-settled
fold_add-requires-clause-settled c v told =
    let has = c.in-Ok.ensures.records _ refl in
    (has.0, [], c.in-Ok-fold_start.ensures.open has.0 has.1)

pub fold_finish-requires-clause-settled : goal.fold_finish-requires-clause-settled
fold_finish-requires-clause-settled c v told =
    let has = c.in-Ok.ensures.records _ refl in
    (has.0, [] ++ c.args.frame.now ∷ [], c.in-Ok-fold_add.ensures.added has.0 [] (c.in-Ok-fold_start.ensures.open has.0 has.1))
