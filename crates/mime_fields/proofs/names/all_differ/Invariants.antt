use Rattle.mime_fields.proofs.ApartLemmas.{NextDiffer, items_of}
use Rattle.mime_fields.proofs.names.all_differ.Given as goal

-- the names so far differ, each from the next
abbrev pub invariant-loop-at : goal.invariant-loop-at
invariant-loop-at l = NextDiffer items_of l.names l.at
