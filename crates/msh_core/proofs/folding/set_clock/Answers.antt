use Rattle.std.proofs.Common.{◌≡◌, ◌<◌, inl, inr, arith}
use Rattle.msh_core.proofs.FoldLemmas.{clock_none, clock_some}
use Rattle.msh_core.proofs.folding.set_clock.Goals.{then-place-gt0-via-then-place-gt0, then-place-gt0-via-else-place-gt0+then-moment-eq0}
use Rattle.msh_core.proofs.folding.set_clock.Goals as goal

pub returns-then-place-gt0 : goal.returns-then-place-gt0
returns-then-place-gt0 c =
    let value = c.moment-moment.ensures.value in
    let dated = c.moment-moment.ensures.dated in
    elim c.then-place-gt0.branch [
      | then-place-gt0-via-then-place-gt0 w ↦ clock_none c.args.tables.now.end.moment c.args.place (omega (arith, value, dated))
          (inr (let more = w.if-place-gt0.true in omega (arith, more)))
      | then-place-gt0-via-else-place-gt0+then-moment-eq0 w ↦
          clock_none c.args.tables.now.end.moment c.args.place (omega (arith, value, dated))
          (inl (let zero = w.if-moment-eq0.true in omega (arith, value, zero)))
    ]

pub returns : goal.returns
returns c =
    let first : c.args.place ≡ 0 = let none = c.if-place-gt0.false in omega (arith, none) in
    let set : 0 < c.args.tables.now.end.moment =
    let some = c.if-moment-eq0.false in let value = c.moment-moment.ensures.value in omega (arith, some, value) in
    clock_some c.args.tables.now.end.moment c.args.place _ c.moment-moment.ensures.value set first
