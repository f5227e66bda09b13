use Rattle.std.proofs.Common.{Ok, ap}
use Rattle.conformance.specs.Plays.{IsTranscript}
use Rattle.conformance.proofs.VerdictLemmas.{verdict_told}
use Rattle.conformance.proofs.play.PlayRow.line.Goals as goal

pub returns : goal.returns
returns c =
    let play = c.args.self.now in
    verdict_told (IsTranscript play.script.now play.want.now) play.name.now c.in_ok-is_right.is_right c.verdict.result c.verdict.ensures.text c.verdict.ensures.differs
    (λ yes. c.in_ok-is_right.ensures.right (ap Ok yes)) (λ no. c.in_ok-is_right.ensures.wrong (ap Ok no))
