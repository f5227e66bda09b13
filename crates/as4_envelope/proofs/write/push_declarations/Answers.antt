use Rattle.std.proofs.Common.{append_assoc}
use Rattle.as4_envelope.specs.Tree.{declarations}
use Rattle.as4_envelope.proofs.write.push_declarations.Goals as goal

pub returns : goal.returns
unfolding declarations
returns c = rw (c.in_ok-push_attribute-2.ensures, c.in_ok-push_attribute.ensures) (simp append_assoc)
