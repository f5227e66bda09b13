use Rattle.std.proofs.Common.{◌≡◌}
use Rattle.as4_http.specs.Limits.{the_limits}
use Rattle.sessions.specs.Answering.{Answers}
use Rattle.sessions.specs.Sessions.{DrawsBoth}
use Rattle.sessions.specs.Shared.{AnswersUnder}
use Rattle.sessions.proofs.HandledLemmas.{is_handled}
use Rattle.sessions.proofs.laws.a_request_is_handled.Goals as goal

pub returns-clause-lent : goal.returns-clause-lent
returns-clause-lent g c old new pass_old pass_new clock clock_later nonces nonces_later door streams end stream rest request what ends tells told begins asks =
    is_handled (Answers g.D.Disk old new pass_old pass_new) ((new ≡ old) × (pass_new ≡ pass_old))
    (DrawsBoth g.C.Clock g.N.Nonces clock clock_later nonces nonces_later)
    ((clock_later ≡ clock) × (nonces_later ≡ nonces))
    (λ s a b r q first second. (c.one_request.ensures the_limits the_limits s a b r q first second).0) c.strangers_ask_nothing.ensures.asks c.refused_or_asked.ensures
    door streams end stream rest request what ends tells told begins asks

pub returns-clause-shared : goal.returns-clause-shared
returns-clause-shared g c pass_old pass_new clock clock_later nonces nonces_later door streams end stream rest request what ends tells told begins asks =
    is_handled (AnswersUnder g.D.Disk g.J.Opening pass_old pass_new) (pass_new ≡ pass_old)
    (DrawsBoth g.C.Clock g.N.Nonces clock clock_later nonces nonces_later)
    ((clock_later ≡ clock) × (nonces_later ≡ nonces))
    (λ s a b r q first second. (c.one_request.ensures the_limits the_limits s a b r q first second).0) c.strangers_ask_nothing.ensures.asks c.refused_or_asked.ensures
    door streams end stream rest request what ends tells told begins asks
