use Rattle.std.proofs.Common.{◌≡◌, take, map}
use Rattle.std.specs.Option.{option_to_list, option_copied}
use Rattle.httparse.specs.Spans.{header_bytes}
use Rattle.as4_http.specs.Fields.{values_in}
use Rattle.as4_http.proofs.fields.only_value.Given as goal

abbrev pub invariant-loop-header : goal.invariant-loop-header
invariant-loop-header l =
    values_in l.name (map (header_bytes l.buf) (take l.header-index l.headers)) ≡ option_to_list (option_copied l.only)
