use Rattle.std.proofs.Common.{◌-◌, arith}
use Rattle.as4_http.proofs.GatheredLemmas.{read_came}
use Rattle.as4_http.proofs.gathered.read_behind.Goals as goal

pub returns-clause-came : goal.returns-clause-came
returns-clause-came g c =
    read_came c.read.result c.args.room.now c.read.new.room c.args.len (c.min-stop.result - c.args.len) _ _ (omega arith) c.read.ensures.some c.read.ensures.bytes
