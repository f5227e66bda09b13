use Rattle.std.proofs.Common.{inl, refl, sym, ◌∙◌, arith}
use Rattle.drill_script.proofs.FrontLemmas.{BeginsLong_told}
use Rattle.byte_forms.proofs.PartedLemmas.{Lacks_none}
use Rattle.drill_script.proofs.lines.LineReader.next.Goals as goal

pub pieces-init : goal.pieces-init
pieces-init g c = record {
  within = omega arith;
  lacks = Lacks_none 10;
  whole = refl;
  grew = omega arith;
  quiet = refl;
  short = inl refl;
  ahead = λ within. within;
}

pub returns-in-TooLong-clause-too_long : goal.returns-in-TooLong-clause-too_long
returns-in-TooLong-clause-too_long g c long bytes is =
    BeginsLong_told c.pieces.self (g.S.Source.left c.pieces.source) c.in-TooLong.ensures bytes (sym c.pieces.invariant.whole ∙ is)
