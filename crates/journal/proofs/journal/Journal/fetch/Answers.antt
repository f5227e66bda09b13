use Rattle.std.proofs.Common.{subst, arith}
use Rattle.journal.specs.declared.reading.Next.{Next}
use Rattle.journal.proofs.FetchLemmas.{within_behind, IsRecordOf, fetched}
use Rattle.journal.proofs.journal.Journal.fetch.Goals as goal

pub returns-in-Ok-Record-clause-found : goal.returns-in-Ok-Record-clause-found
returns-in-Ok-Record-clause-found g c before body after has place =
    let P : Next → Type 0 = IsRecordOf body in
    subst P c.in-Ok-Record.field-0-is (fetched g.D.Disk c.args.self.now c.leaf_part-part.result c.args.gate c.in-Ok-Record.field-0 before after body has place c.leaf_part-part.ensures (λ b told. c.in-Ok-Record.ensures.next b told tt))

pub returns-in-Ok-Closed-clause-found : goal.returns-in-Ok-Closed-clause-found
returns-in-Ok-Closed-clause-found g c before body after has place =
    let P : Next → Type 0 = IsRecordOf body in
    absurd (subst P c.in-Ok-Closed.field-0-is (fetched g.D.Disk c.args.self.now c.leaf_part-part.result c.args.gate c.in-Ok-Closed.field-0 before after body has place c.leaf_part-part.ensures (λ b told. c.in-Ok-Closed.ensures.next b told tt)))

pub returns-in-Ok-Broken-clause-found : goal.returns-in-Ok-Broken-clause-found
returns-in-Ok-Broken-clause-found g c before body after has place =
    let P : Next → Type 0 = IsRecordOf body in
    absurd (subst P c.in-Ok-Broken.field-0-is (fetched g.D.Disk c.args.self.now c.leaf_part-part.result c.args.gate c.in-Ok-Broken.field-0 before after body has place c.leaf_part-part.ensures (λ b told. c.in-Ok-Broken.ensures.next b told tt)))

pub returns-then-gate-limit-clause-found : goal.returns-then-gate-limit-clause-found
returns-then-gate-limit-clause-found g c before body after has place =
    let bound = within_behind c.args.self.now.version before after body has.rest c.args.gate place has.within in
    absurd (omega (arith, bound, c.if-gate-limit.true, c.limit.ensures))
