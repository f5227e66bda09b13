use Rattle.std.proofs.Common.{arith}
use Rattle.as4_http.specs.Passed.{long_line, large_chunk}
use Rattle.as4_http.proofs.ChunkLineLemmas.{ended_long, ended_passes, ended_over, ended_passes_body}
use Rattle.as4_http.proofs.LineEndLemmas.{may_whole, ended_line, ended_never}
use Rattle.as4_http.proofs.chunk_line.unended_line.Goals as goal

pub returns-in-Ok-Complete-clause-denied : goal.returns-in-Ok-Complete-clause-denied
returns-in-Ok-Complete-clause-denied c =
    let found = rw c.in-Ok-Complete.field-0-is at c.in-Ok-Complete.ensures.complete in
    ended_long c.args.line.now c.end_line.result.now c.shortest_end.result.now c.in-Ok-Complete.len c.in-Ok-Complete.field-0-0-1 c.args.passed c.requires.none c.end_line.ensures c.shortest_end.ensures found c.if-len-gt-MAX_CHUNK_LINE.true

pub returns-in-Ok-Complete-2-clause-denied : goal.returns-in-Ok-Complete-2-clause-denied
returns-in-Ok-Complete-2-clause-denied c =
    let found = rw c.in-Ok-Complete.field-0-is at c.in-Ok-Complete.ensures.complete in
    ended_over c.args.line.now c.end_line.result.now c.shortest_end.result.now c.in-Ok-Complete.len c.in-Ok-Complete.field-0-0-1 c.args.passed c.end_line.ensures c.shortest_end.ensures found (omega (arith, c.if-size-room.true))

pub returns-in-Ok-Complete-3-clause-cut : goal.returns-in-Ok-Complete-3-clause-cut
returns-in-Ok-Complete-3-clause-cut c =
    let found = rw c.in-Ok-Complete.field-0-is at c.in-Ok-Complete.ensures.complete in
    λ is. may_whole c.args.line.now c.end_line.result.now c.shortest_end.result.now c.in-Ok-Complete.len c.in-Ok-Complete.field-0-0-1 c.args.passed c.requires.none c.requires.may c.end_line.ensures c.shortest_end.ensures found (omega (arith, c.if-len-gt-MAX_CHUNK_LINE.false)) (omega (arith, c.if-size-room.false))

pub returns-in-Ok-Partial-clause-cut : goal.returns-in-Ok-Partial-clause-cut
returns-in-Ok-Partial-clause-cut c =
    let partial = rw c.in-Ok-Partial.field-0-is at c.in-Ok-Partial.ensures.partial in
    absurd (ended_line c.args.line.now c.end_line.result.now c.shortest_end.result.now c.requires.none c.requires.may c.end_line.ensures c.shortest_end.ensures partial)

pub returns-in-Err-clause-cut : goal.returns-in-Err-clause-cut
returns-in-Err-clause-cut c =
    absurd (ended_never c.args.line.now c.end_line.result.now c.shortest_end.result.now c.requires.none c.requires.may c.end_line.ensures c.shortest_end.ensures c.in-Err.ensures.invalid)

pub returns-in-Ok-Complete-clause-passed : goal.returns-in-Ok-Complete-clause-passed
returns-in-Ok-Complete-clause-passed c =
    let found = rw c.in-Ok-Complete.field-0-is at c.in-Ok-Complete.ensures.complete in
    λ is. long_line (ended_passes c.args.line.now c.end_line.result.now c.shortest_end.result.now c.in-Ok-Complete.len c.in-Ok-Complete.field-0-0-1 c.requires.none c.requires.may c.end_line.ensures c.shortest_end.ensures found c.if-len-gt-MAX_CHUNK_LINE.true)

pub returns-in-Ok-Complete-2-clause-passed : goal.returns-in-Ok-Complete-2-clause-passed
returns-in-Ok-Complete-2-clause-passed c =
    let found = rw c.in-Ok-Complete.field-0-is at c.in-Ok-Complete.ensures.complete in
    λ is. large_chunk (ended_passes_body c.args.line.now c.end_line.result.now c.shortest_end.result.now c.in-Ok-Complete.len c.in-Ok-Complete.field-0-0-1 c.args.passed c.requires.may c.end_line.ensures c.shortest_end.ensures found (omega (arith, c.if-size-room.true)))
