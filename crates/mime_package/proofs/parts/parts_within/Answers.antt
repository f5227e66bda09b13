use Rattle.std.proofs.Common.{arith, map, ◌∙◌, sym}
use Rattle.mime_fields.specs.Lent.{part_value}
use Rattle.mime_package.proofs.StepLemmas.{loop_refuses, loop_ends, loop_goes_on, loop_full}
use Rattle.mime_package.proofs.parts.parts_within.Goals as goal

pub returns-in-Ok-Some-Last : goal.returns-in-Ok-Some-Last
returns-in-Ok-Some-Last c =
    let read = rw (c.in-Ok-Some-Last.field-0-is, c.in-Ok-Some-Last.field-0-0-is) at c.in-Ok-Some-Last.ensures in
    c.loop-index.invariant
    ∙ loop_ends (map part_value c.loop-index.parts.items) (map part_value c.next_part.new.parts.items) c.loop-index.index c.args.search.now.boundary.now c.loop-index.rest.now (omega arith) (sym read)

pub returns-in-Ok-None : goal.returns-in-Ok-None
returns-in-Ok-None c =
    let read = rw c.in-Ok-None.field-0-is at c.in-Ok-None.ensures in
    c.loop-index.invariant ∙ loop_refuses (map part_value c.loop-index.parts.items) c.loop-index.index c.args.search.now.boundary.now c.loop-index.rest.now (omega arith) (sym read)

pub loop-index-preserved : goal.loop-index-preserved
loop-index-preserved c =
    let read = rw (c.in-Ok-Some-Next.field-0-is, c.in-Ok-Some-Next.field-0-0-is) at c.in-Ok-Some-Next.ensures in
    c.loop-index.invariant
    ∙ loop_goes_on (map part_value c.loop-index.parts.items) (map part_value c.next_part.new.parts.items) c.loop-index.index c.args.search.now.boundary.now c.loop-index.rest.now c.in-Ok-Some-Next.behind.now (omega arith)
    (sym read)

pub returns : goal.returns
returns c =
    c.loop-index.invariant ∙ loop_full (map part_value c.loop-index.parts.items) c.loop-index.index c.args.search.now.boundary.now c.loop-index.rest.now (omega arith)
