use Rattle.std.proofs.Common.{◌≡◌, sym, ◌∙◌, ap, subst, arith}
use Rattle.as4_http.specs.Came.{IsShorter}
use Rattle.as4_http.specs.Refused.{MayBecome}
use Rattle.as4_http.specs.Bodies.{HasNoBody, IsBody, IsLong}
use Rattle.as4_http.specs.Chunks.{HasNoChunked, IsWholeChunked}
use Rattle.as4_http.specs.Limits.{the_limits}
use Rattle.as4_http.specs.Asked.{AsksForBody}
use Rattle.as4_http.proofs.AskedLemmas.{asks_nothing, body_asks, rest_asks}
use Rattle.as4_http.proofs.BodyLemmas.{short_body, chunked_body, chunked_may, rest_body, rest_shows}
use Rattle.as4_http.proofs.PassedLemmas.{too_long_exit}
use Rattle.as4_http.proofs.RefusedLemmas.{refused_exit, refuses_as, stop_exit}
use Rattle.as4_http.proofs.body.take_body.Goals as goal
use Rattle.as4_http.proofs.body.take_body.Goals.{in-Empty, in-Counted-2+in_ok-take_bytes-in-Counted-2, in-Chunked+in_ok-take_chunks-in-Chunked, in-ToEnd+in_ok-take_rest-in-ToEnd}

pub returns-in_err-take_bytes-in-Counted-2-clause-refused :
    goal.returns-in_err-take_bytes-in-Counted-2-clause-refused
returns-in_err-take_bytes-in-Counted-2-clause-refused g c =
    let refusal = c.in_err-take_bytes-in-Counted-2.field-0.0 in
    let same : c.in-Counted.n ≡ c.in-Counted-2.n = cc (sym c.in-Counted.is ∙ c.in-Counted-2.is) in
    stop_exit (HasNoBody c.args.framing) (MayBecome (IsBody c.args.framing)) (IsShorter c.in-Counted-2.n) _ (g.S.Source.left c.take_bytes.new.source) c.from_residual.result refusal c.from_residual.ensures.1 c.in_err-take_bytes-in-Counted-2.ensures.stop
    (short_body c.args.framing c.in-Counted-2.n c.in-Counted-2.is (omega (arith, same, c.if-n.false))) c.in_err-take_bytes-in-Counted-2.ensures.none

pub returns-in_err-take_chunks-in-Chunked-clause-refused :
    goal.returns-in_err-take_chunks-in-Chunked-clause-refused
returns-in_err-take_chunks-in-Chunked-clause-refused g c =
    refused_exit c.from_residual-in_err-take_chunks-in-Chunked.result c.in_err-take_chunks-in-Chunked.field-0.0 c.from_residual-in_err-take_chunks-in-Chunked.ensures.1
    (refuses_as HasNoChunked (HasNoBody c.args.framing) (MayBecome IsWholeChunked) (MayBecome (IsBody c.args.framing)) _ _ (chunked_body c.args.framing c.in-Chunked.is) (chunked_may c.args.framing c.in-Chunked.is)) c.in_err-take_chunks-in-Chunked.ensures.refused

pub returns-in_err-take_rest-in-ToEnd-clause-refused : goal.returns-in_err-take_rest-in-ToEnd-clause-refused
returns-in_err-take_rest-in-ToEnd-clause-refused g c =
    refused_exit c.from_residual-in_err-take_rest-in-ToEnd.result c.in_err-take_rest-in-ToEnd.field-0.0 c.from_residual-in_err-take_rest-in-ToEnd.ensures.1
    (refuses_as IsLong (HasNoBody c.args.framing) (λ _. ⊥) (MayBecome (IsBody c.args.framing)) _ _ (rest_body c.args.framing c.in-ToEnd.is) (λ stream none. absurd none)) c.in_err-take_rest-in-ToEnd.ensures.refused

pub returns-in_err-take_rest-in-ToEnd-clause-passed : goal.returns-in_err-take_rest-in-ToEnd-clause-passed
returns-in_err-take_rest-in-ToEnd-clause-passed g c =
    too_long_exit c.from_residual-in_err-take_rest-in-ToEnd.result c.in_err-take_rest-in-ToEnd.field-0.0 c.from_residual-in_err-take_rest-in-ToEnd.ensures.1
    (λ is. rest_shows c.args.framing _ _ c.in_err-take_rest-in-ToEnd.field-0.0 c.in-ToEnd.is is c.in_err-take_rest-in-ToEnd.ensures.refused)

pub returns-in_err-take_bytes-in-Counted-2-clause-asks :
    goal.returns-in_err-take_bytes-in-Counted-2-clause-asks
returns-in_err-take_bytes-in-Counted-2-clause-asks g c =
    let same : c.in-Counted.n ≡ c.in-Counted-2.n = cc (sym c.in-Counted.is ∙ c.in-Counted-2.is) in
    body_asks (IsShorter c.in-Counted-2.n) c.args.framing c.args.intake.now _ _ (λ bytes short. (short_body c.args.framing c.in-Counted-2.n c.in-Counted-2.is (omega (arith, same, c.if-n.false)) bytes short).0) c.in_err-take_bytes-in-Counted-2.ensures.asks

pub returns-in_err-take_chunks-in-Chunked-clause-asks :
    goal.returns-in_err-take_chunks-in-Chunked-clause-asks
returns-in_err-take_chunks-in-Chunked-clause-asks g c =
    body_asks (HasNoChunked the_limits) c.args.framing c.args.intake.now _ _ (chunked_body c.args.framing c.in-Chunked.is the_limits) c.in_err-take_chunks-in-Chunked.ensures.asks

pub returns-in_err-take_rest-in-ToEnd-clause-asks : goal.returns-in_err-take_rest-in-ToEnd-clause-asks
returns-in_err-take_rest-in-ToEnd-clause-asks g c =
    rest_asks c.args.framing c.args.intake.now _ _ c.in-ToEnd.is c.in_err-take_rest-in-ToEnd.ensures.asks

pub returns-clause-asks : goal.returns-clause-asks
returns-clause-asks g c =
    let framing = c.args.framing in
    let held = c.args.intake.now in
    let old = g.S.Source.left c.args.source.now in
    elim c.match-framing.branch [
      | in-Empty w ↦ body_asks (HasNoBody framing the_limits) framing held old _ (λ bytes none. none) (asks_nothing (HasNoBody framing the_limits) held old _ (ap g.S.Source.left (sym w.source-is)))
      | in-Counted-2+in_ok-take_bytes-in-Counted-2 w ↦
          let same : w.in-Counted.n ≡ w.in-Counted-2.n = cc (sym w.in-Counted.is ∙ w.in-Counted-2.is) in
          subst (AsksForBody framing held old) (ap g.S.Source.left (sym w.source-is))
          (body_asks (IsShorter w.in-Counted-2.n) framing held old _ (λ bytes short. (short_body framing w.in-Counted-2.n w.in-Counted-2.is (omega (arith, same, w.if-n.false)) bytes short).0) w.in_ok-take_bytes-in-Counted-2.ensures.asks)
      | in-Chunked+in_ok-take_chunks-in-Chunked w ↦ subst (AsksForBody framing held old) (ap g.S.Source.left (sym w.source-is)) (body_asks (HasNoChunked the_limits) framing held old _ (chunked_body framing w.in-Chunked.is the_limits) w.in_ok-take_chunks-in-Chunked.ensures.asks)
      | in-ToEnd+in_ok-take_rest-in-ToEnd w ↦ subst (AsksForBody framing held old) (ap g.S.Source.left (sym w.source-is)) (rest_asks framing held old _ w.in-ToEnd.is w.in_ok-take_rest-in-ToEnd.ensures.asks)
    ]
