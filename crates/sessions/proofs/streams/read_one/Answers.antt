use Rattle.std.proofs.Common.{◌≡◌, ℕ, List, Option, Err, ap, subst}
use Rattle.as4_flow.specs.Flow.{Told, before}
use Rattle.as4_http.specs.Requests.{BeginsRequest}
use Rattle.as4_http.specs.declared.refusal.HttpRefusal.TheVariants as http
use Rattle.sessions.proofs.SessionLemmas.{nothing_held, why_unread}
use Rattle.sessions.proofs.streams.read_one.Goals as goal

pub returns-in-Ok-clause-read : goal.returns-in-Ok-clause-read
returns-in-Ok-clause-read g c taken later writes later_writes =
    let left = g.S.Source.left c.args.source.now in
    let rest = g.S.Source.left c.read_request.new.source in record {
      held = c.in-Ok.intake;
      begins = subst (λ (told : Option (List ℕ)). Told told (λ (stream : List ℕ). Told (before c.in-Ok.intake rest) (BeginsRequest stream c.in-Ok.request)))
          (nothing_held c.new.result left c.new.ensures) c.in-Ok.ensures.found;
      quiet = c.in-Ok.ensures.quiet (λ is. absurd cc);
    }

pub returns-in-Err-clause-none : goal.returns-in-Err-clause-none
returns-in-Err-clause-none g c taken later writes later_writes =
    let refusal = c.in-Err.refusal in
    let e = c.in-Err.ensures in record {
      refusal = refusal;
      ended = c.unread.ensures.ended;
      written = c.unread.ensures.written;
      why = why_unread refusal (g.S.Source.left c.args.source.now) (g.S.Source.left c.read_request.new.source) taken later
          (g.S.Source.faults c.args.source.now) (g.S.Source.faults c.read_request.new.source) writes later_writes c.new.result c.new.ensures e.only
          (λ is. e.begun (ap Err is)) (λ is. e.cut (ap Err is)) (λ is. e.bad (ap Err is)) (λ is. e.bad_head (ap Err is)) (λ is. e.too_long (ap Err is))
          (λ is. e.passed (ap Err is)) (λ is. e.fault (ap Err is));
      quiet = λ other. e.quiet (λ is. other (let same : refusal ≡ http.ReadFault = cc in same));
    }
