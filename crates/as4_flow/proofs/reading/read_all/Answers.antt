use Rattle.std.proofs.Common.{ℕ, ◌++◌, take, arith, length-append}
use Rattle.std.proofs.lemmas.List.{length-take}
use Rattle.as4_flow.proofs.FlowLemmas.{before_more}
use Rattle.as4_flow.proofs.reading.read_all.Goals as goal

-- a piece that found no memory was read all the same
pub returns-in_err-append-in-Gave-clause-front : goal.returns-in_err-append-in-Gave-clause-front
returns-in_err-append-in-Gave-clause-front g c =
    let piece = take c.in-Gave.n c.read.new.room in (
      c.pieces.bytes.items ++ piece,
      omega (arith, length-append {A = ℕ}, length-take {A = ℕ}, c.in-Gave.ensures.some, c.read.auto.room),
      before_more _ _ _ _ _ c.pieces.invariant.so_far c.in-Gave.ensures.bytes,
    )
