use Rattle.std.proofs.Common.{inl, Err, ap, subst}
use Rattle.as4_http.specs.Refused.{MayBecome, Refuses}
use Rattle.as4_http.specs.Bodies.{HasNoBody, IsBody}
use Rattle.as4_http.specs.Limits.{Limits, the_limits}
use Rattle.as4_http.specs.Passed.{PassesBody, PassesResponse}
use Rattle.as4_http.specs.ResponseStarts.{HasNoResponseHead, EndsInResponseHead}
use Rattle.as4_http.specs.Responses.{HasNoResponse, HasNoResponseWithin, IsCutResponse}
use Rattle.as4_http.specs.declared.refusal.HttpRefusal.TheVariants.{Bad, TooLong}
use Rattle.as4_http.proofs.AskedLemmas.{asks_as}
use Rattle.as4_http.proofs.PassedLemmas.{refusal_exit, shows_behind, too_long_exit}
use Rattle.as4_http.proofs.RefusedLemmas.{refused_exit, refuses_as, refuses_behind, refused_told, refused_cut, refused_as}
use Rattle.as4_http.proofs.ResponseLemmas.{head_decides, response_asks, no_head, no_body, cut_body, body_passes, response_begins}
use Rattle.as4_http.proofs.intake.Intake.read_response.Goals as goal

pub returns-in_err-start-clause-only : goal.returns-in_err-start-clause-only
returns-in_err-start-clause-only g c =
    refused_told HasNoResponseWithin IsCutResponse _ _ c.from_residual.result
    (refused_exit c.from_residual.result c.in_err-start.field-0.0 c.from_residual.ensures.1 (refuses_as HasNoResponseHead HasNoResponseWithin EndsInResponseHead IsCutResponse _ _ no_head (λ stream. inl)) c.in_err-start.ensures.refused)

pub returns-in_err-start-clause-begun : goal.returns-in_err-start-clause-begun
returns-in_err-start-clause-begun g c =
    refused_cut HasNoResponseWithin IsCutResponse _ _ c.from_residual.result
    (refused_exit c.from_residual.result c.in_err-start.field-0.0 c.from_residual.ensures.1 (refuses_as HasNoResponseHead HasNoResponseWithin EndsInResponseHead IsCutResponse _ _ no_head (λ stream. inl)) c.in_err-start.ensures.refused)

pub returns-in_err-start-clause-bad : goal.returns-in_err-start-clause-bad
returns-in_err-start-clause-bad g c =
    refused_as (Refuses HasNoResponseWithin IsCutResponse _ _) c.from_residual.result Bad
    (refused_exit c.from_residual.result c.in_err-start.field-0.0 c.from_residual.ensures.1 (refuses_as HasNoResponseHead HasNoResponseWithin EndsInResponseHead IsCutResponse _ _ no_head (λ stream. inl)) c.in_err-start.ensures.refused)

pub returns-in_err-start-clause-too_long : goal.returns-in_err-start-clause-too_long
returns-in_err-start-clause-too_long g c =
    refused_as (Refuses HasNoResponseWithin IsCutResponse _ _) c.from_residual.result TooLong
    (refused_exit c.from_residual.result c.in_err-start.field-0.0 c.from_residual.ensures.1 (refuses_as HasNoResponseHead HasNoResponseWithin EndsInResponseHead IsCutResponse _ _ no_head (λ stream. inl)) c.in_err-start.ensures.refused)

pub returns-in_err-body-clause-only : goal.returns-in_err-body-clause-only
returns-in_err-body-clause-only g c =
    let start = c.in_ok-start.start in
    let head = c.in_ok-start.ensures.ok in
    refused_told HasNoResponseWithin IsCutResponse _ _ c.from_residual-in_err-body.result
    (refused_exit c.from_residual-in_err-body.result c.in_err-body.field-0.0 c.from_residual-in_err-body.ensures.1 (refuses_behind (HasNoBody start.framing) HasNoResponseWithin (MayBecome (IsBody start.framing)) IsCutResponse _ _ _ _ head.taken (λ limits behind. no_body start head.head limits behind head.valid head.says) (cut_body start head.head head.valid head.small head.says)) c.in_err-body.ensures.refused)

pub returns-in_err-body-clause-begun : goal.returns-in_err-body-clause-begun
returns-in_err-body-clause-begun g c =
    let start = c.in_ok-start.start in
    let head = c.in_ok-start.ensures.ok in
    refused_cut HasNoResponseWithin IsCutResponse _ _ c.from_residual-in_err-body.result
    (refused_exit c.from_residual-in_err-body.result c.in_err-body.field-0.0 c.from_residual-in_err-body.ensures.1 (refuses_behind (HasNoBody start.framing) HasNoResponseWithin (MayBecome (IsBody start.framing)) IsCutResponse _ _ _ _ head.taken (λ limits behind. no_body start head.head limits behind head.valid head.says) (cut_body start head.head head.valid head.small head.says)) c.in_err-body.ensures.refused)

pub returns-in_err-body-clause-bad : goal.returns-in_err-body-clause-bad
returns-in_err-body-clause-bad g c =
    let start = c.in_ok-start.start in
    let head = c.in_ok-start.ensures.ok in
    refused_as (Refuses HasNoResponseWithin IsCutResponse _ _) c.from_residual-in_err-body.result Bad
    (refused_exit c.from_residual-in_err-body.result c.in_err-body.field-0.0 c.from_residual-in_err-body.ensures.1 (refuses_behind (HasNoBody start.framing) HasNoResponseWithin (MayBecome (IsBody start.framing)) IsCutResponse _ _ _ _ head.taken (λ limits behind. no_body start head.head limits behind head.valid head.says) (cut_body start head.head head.valid head.small head.says)) c.in_err-body.ensures.refused)

pub returns-in_err-body-clause-too_long : goal.returns-in_err-body-clause-too_long
returns-in_err-body-clause-too_long g c =
    let start = c.in_ok-start.start in
    let head = c.in_ok-start.ensures.ok in
    refused_as (Refuses HasNoResponseWithin IsCutResponse _ _) c.from_residual-in_err-body.result TooLong
    (refused_exit c.from_residual-in_err-body.result c.in_err-body.field-0.0 c.from_residual-in_err-body.ensures.1 (refuses_behind (HasNoBody start.framing) HasNoResponseWithin (MayBecome (IsBody start.framing)) IsCutResponse _ _ _ _ head.taken (λ limits behind. no_body start head.head limits behind head.valid head.says) (cut_body start head.head head.valid head.small head.says)) c.in_err-body.ensures.refused)

pub returns-in_err-body-clause-passed : goal.returns-in_err-body-clause-passed
returns-in_err-body-clause-passed g c =
    let start = c.in_ok-start.start in
    let head = c.in_ok-start.ensures.ok in
    too_long_exit c.from_residual-in_err-body.result c.in_err-body.field-0.0 c.from_residual-in_err-body.ensures.1
    (λ is. shows_behind (PassesBody start.framing) PassesResponse _ _ _ _ head.taken (body_passes start head.head head.valid head.small head.says) (c.in_err-body.ensures.passed (ap Err is)))

pub returns-clause-found : goal.returns-clause-found
returns-clause-found g c =
    response_begins c.in_ok-start.start c.in_ok-body.body _ _ _ c.in_ok-start.ensures.ok c.in_ok-body.ensures.ok

pub returns-in_err-start-clause-asks : goal.returns-in_err-start-clause-asks
returns-in_err-start-clause-asks g c =
    inl (asks_as (HasNoResponseHead the_limits) HasNoResponse c.args.self _ _ (no_head the_limits) c.in_err-start.ensures.asks)

pub returns-in_err-body-clause-asks : goal.returns-in_err-body-clause-asks
returns-in_err-body-clause-asks g c =
    response_asks c.in_ok-start.start c.args.self c.read_response_head.new.intake _ _ _ c.in_ok-start.ensures.ok c.in_ok-start.ensures.asks c.in_err-body.ensures.asks

pub returns-clause-asks : goal.returns-clause-asks
returns-clause-asks g c =
    response_asks c.in_ok-start.start c.args.self c.read_response_head.new.intake _ _ _ c.in_ok-start.ensures.ok c.in_ok-start.ensures.asks c.in_ok-body.ensures.asks

pub returns-in_err-body-clause-bad_head : goal.returns-in_err-body-clause-bad_head
returns-in_err-body-clause-bad_head g c =
    let start = c.in_ok-start.start in
    refusal_exit Bad c.from_residual-in_err-body.result c.in_err-body.field-0.0 c.from_residual-in_err-body.ensures.1
    (λ is. head_decides (λ bytes. (limits : Limits) → HasNoBody start.framing limits bytes) start _ _ _ c.in_ok-start.ensures.ok (subst (Refuses (HasNoBody start.framing) (MayBecome (IsBody start.framing)) _ _) is c.in_err-body.ensures.refused))
