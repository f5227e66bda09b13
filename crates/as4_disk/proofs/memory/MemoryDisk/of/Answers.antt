use Rattle.std.proofs.Common.{List, sym, ap, subst, ◌∙◌}
use Rattle.as4_disk.specs.declared.change.Change.{Change}
use Rattle.as4_disk.specs.Changes.{bytes_by, LeftOf}
use Rattle.as4_disk.specs.Files.{image_of}
use Rattle.as4_disk.proofs.MemoryLemmas.{bytes_by-nil, LeftOf-nil}
use Rattle.as4_disk.proofs.memory.MemoryDisk.of.Goals as goal

pub returns-clause-read : goal.returns-clause-read
returns-clause-read c q =
    ap (λ (changes : List Change). bytes_by q changes (image_of c.args.files q)) c.new.ensures.items ∙ bytes_by-nil q (image_of c.args.files q)

pub returns-clause-only : goal.returns-clause-only
returns-clause-only c image left =
    LeftOf-nil c.args.files image (subst (λ (changes : List Change). LeftOf c.args.files changes image) c.new.ensures.items left)

pub invariant_of-result : goal.invariant_of-result
invariant_of-result c = (
  λ q. sym (ap (λ (changes : List Change). bytes_by q changes (image_of c.args.files q)) c.new.ensures.items ∙ bytes_by-nil q (image_of c.args.files q)),
  λ none. c.new.ensures.items,
)
