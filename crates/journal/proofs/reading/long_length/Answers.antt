use Rattle.std.proofs.Common.{sym, arith}
use Rattle.std.proofs.lemmas.Nat.{be_bytes_8}
use Rattle.journal.specs.Leaf.{length_bytes}
use Rattle.journal.proofs.reading.long_length.Goals as goal

pub returns : goal.returns
unfolding length_bytes
returns c = record {
  bytes_are = sym (be_bytes_8 c.args.bytes.now c.from_be_bytes.result c.requires (λ i. omega (arith, c.type_inv.bytes i)) c.from_be_bytes.ensures);
  fits = omega arith;
}
