use Rattle.std.specs.Prelude.{codes}
use Rattle.as4_http.proofs.ReadBackLemmas.{response_back, closed_bytes, kept_bytes}
use Rattle.as4_http.proofs.responses.response_read_back.Goals as goal

pub returns-clause-closed : goal.returns-clause-closed
returns-clause-closed c = λ status media body rest written is within. response_back status media (codes "close") body rest written is closed_bytes within

pub returns-clause-kept : goal.returns-clause-kept
returns-clause-kept c = λ status media body rest written is within. response_back status media (codes "keep-alive") body rest written is kept_bytes within
