use Rattle.std.proofs.Common.{arith, refl}
use Rattle.pass_book.proofs.StepLemmas.{splits}
use Rattle.pass_book.proofs.steps.split_named.Goals as goal

pub split_seat-requires : goal.split_seat-requires
split_seat-requires g c =
    let part = c.requires.part in
    let stake = c.requires.stake in
    (c.requires.seat.here, c.requires.seat.word, splits _ c.args.seat.now.me.0 0 g.B.NamesStake.stake (omega arith) (omega arith) (λ _ _. refl) (λ none. absurd (omega arith)))
