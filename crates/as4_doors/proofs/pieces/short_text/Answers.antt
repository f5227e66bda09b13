use Rattle.std.proofs.Common.{ap, length, arith}
use Rattle.as4_doors.proofs.PieceLemmas.{not_short}
use Rattle.as4_doors.proofs.pieces.short_text.Goals as goal

pub returns-in-Ok-2 : goal.returns-in-Ok-2
returns-in-Ok-2 c = λ other is. not_short c.args.piece.now _ other is c.in-Ok.ensures.found (omega (arith, c.if-bytes-le-MAX_SHORT.false, ap length c.bytes.ensures.value))
