use Rattle.std.proofs.Common.{◌≡◌, false, take, map}
use Rattle.httparse.specs.Spans.{header_bytes}
use Rattle.as4_http.specs.Connection.{closes}
use Rattle.as4_http.proofs.connection.closes.Given as goal

abbrev pub invariant-loop-header : goal.invariant-loop-header
invariant-loop-header l = closes (map (header_bytes l.buf) (take l.header-index l.headers)) ≡ false
