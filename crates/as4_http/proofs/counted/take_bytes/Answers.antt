use Rattle.std.proofs.Common.{List, ℕ, refl, sym, subst, arith}
use Rattle.std.proofs.lemmas.Result.{on_ok_weaker}
use Rattle.as4_flow.specs.Flow.{before}
use Rattle.as4_http.specs.Came.{Came, IsShorter}
use Rattle.as4_http.proofs.AskedLemmas.{asks_nothing, asks_counted}
use Rattle.as4_http.proofs.CameLemmas.{came_behind}
use Rattle.as4_http.proofs.counted.take_bytes.Goals as goal

pub returns-clause-ok : goal.returns-clause-ok
returns-clause-ok g c =
    on_ok_weaker c.read_bytes.result (λ came.
    subst (λ (l : List ℕ). Came c.args.n c.args.body.now c.read_bytes.new.body (before c.args.intake.now (g.S.Source.left c.args.source.now)) (before l (g.S.Source.left c.read_bytes.new.source))) (sym c.skip.ensures)
    (came_behind c.args.n c.min-at_hand.result c.args.body.now c.append.new.self c.read_bytes.new.body c.args.intake.now c.bytes.result.now (g.S.Source.left c.args.source.now) (g.S.Source.left c.read_bytes.new.source) (omega arith) c.bytes.ensures c.in_ok-append.ensures.ok came)) c.read_bytes.ensures.ok

pub returns-in_err-append-clause-asks : goal.returns-in_err-append-clause-asks
returns-in_err-append-clause-asks g c = asks_nothing (IsShorter c.args.n) c.args.intake.now _ _ refl

pub returns-clause-asks : goal.returns-clause-asks
returns-clause-asks g c = asks_counted c.args.n c.min-at_hand.result c.args.intake.now _ _ (omega arith) c.read_bytes.ensures.asks
