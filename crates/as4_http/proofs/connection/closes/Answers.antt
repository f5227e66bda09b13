use Rattle.std.proofs.Common.{false, true, sym}
use Rattle.as4_http.proofs.ConnectionLemmas.{closes_none, closes_at, closes_front}
use Rattle.as4_http.proofs.connection.closes.Goals as goal

pub loop-header-init : goal.loop-header-init
loop-header-init c = closes_none

pub returns-then-is_closing : goal.returns-then-is_closing
returns-then-is_closing c =
    sym (closes_front c.args.buf.now c.args.headers.now _ (closes_at c.args.buf.now c.args.headers.now c.loop-header.header-index _ c.of.result.now c.of-in-loop-header.result.now c.is_closing.result true c.loop-header-test.true c.loop-header.invariant c.of.ensures c.of-in-loop-header.ensures c.is_closing.ensures c.if-is_closing.true))

pub loop-header-preserved : goal.loop-header-preserved
loop-header-preserved c =
    closes_at c.args.buf.now c.args.headers.now c.loop-header.header-index _ c.of.result.now c.of-in-loop-header.result.now c.is_closing.result false c.loop-header-test.true c.loop-header.invariant c.of.ensures c.of-in-loop-header.ensures c.is_closing.ensures c.if-is_closing.false
