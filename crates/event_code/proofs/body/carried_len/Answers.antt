use Rattle.std.proofs.Common.{arith}
use Rattle.as4_effects.specs.Effects.{submission_body}
use Rattle.event_code.proofs.BodyLemmas.{counted_exactly, standing_length}
use Rattle.event_code.proofs.body.carried_len.Goals as goal

pub returns-clause-exact : goal.returns-clause-exact
returns-clause-exact c =
    let s = c.args.carried.now.submission in
    omega (arith, counted_exactly _ (submission_body s) c.add_len.ensures s.fits, standing_length c.args.carried.now, c.mark_len.ensures.exact)

pub returns-clause-more : goal.returns-clause-more
returns-clause-more c =
    let s = c.args.carried.now.submission in
    omega (arith, counted_exactly _ (submission_body s) c.add_len.ensures s.fits, c.mark_len.ensures.limited)
