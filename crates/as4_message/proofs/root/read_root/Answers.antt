use Rattle.std.proofs.Common.{inl, refl}
use Rattle.as4_message.proofs.root.read_root.Goals as goal

pub returns-in-Err-Markup-clause-meaning : goal.returns-in-Err-Markup-clause-meaning
returns-in-Err-Markup-clause-meaning c = inl (refl, λ tree spelled. rw c.in-Err-Markup.field-0-is at (c.in-Err-Markup.ensures.only tree spelled))

pub returns-in-Err-TooDeep-clause-meaning : goal.returns-in-Err-TooDeep-clause-meaning
returns-in-Err-TooDeep-clause-meaning c = inl (refl, λ tree spelled. rw c.in-Err-TooDeep.field-0-is at (c.in-Err-TooDeep.ensures.only tree spelled))
