use Rattle.std.proofs.Common.{◌∙◌, ℕ, List, Option}
use Rattle.as4_disk.specs.declared.part.Part.TheVariants.{Selector, Leaf0, Leaf1}
use Rattle.as4_host.specs.declared.table.Row.{Row}
use Rattle.as4_host.specs.Files.{path_of}
use Rattle.as4_host.specs.HostInMemory.{file_at}
use Rattle.as4_host.proofs.KnownLemmas.{still_made, made_then, may_then}
use Rattle.as4_host.proofs.memory_files.make_files.Goals as goal

pub returns-clause-there : goal.returns-clause-there
returns-clause-there c Leaf0 some =
    let at = λ (rows : List (Row (Option (List ℕ)))). file_at rows (path_of c.args.paths Leaf0) in
    let made = still_made (at c.args.files.now.items) (at c.make_file.new.files.items) (at c.make_file-2.new.files.items) (c.make_file.ensures.there some) (c.make_file-2.ensures.each _) in
    still_made (at c.args.files.now.items) (at c.make_file-2.new.files.items) (at c.make_file-3.new.files.items) made (c.make_file-3.ensures.each _)
returns-clause-there c Leaf1 some =
    let at = λ (rows : List (Row (Option (List ℕ)))). file_at rows (path_of c.args.paths Leaf1) in
    let made = made_then (at c.args.files.now.items) (at c.make_file.new.files.items) (at c.make_file-2.new.files.items) (c.make_file.ensures.each _) (c.make_file-2.ensures.there (c.make_file.ensures.rows _ ∙ some)) in
    still_made (at c.args.files.now.items) (at c.make_file-2.new.files.items) (at c.make_file-3.new.files.items) made (c.make_file-3.ensures.each _)
returns-clause-there c Selector some =
    let at = λ (rows : List (Row (Option (List ℕ)))). file_at rows (path_of c.args.paths Selector) in
    let before = may_then (at c.args.files.now.items) (at c.make_file.new.files.items) (at c.make_file-2.new.files.items) (c.make_file.ensures.each _) (c.make_file-2.ensures.each _) in
    made_then (at c.args.files.now.items) (at c.make_file-2.new.files.items) (at c.make_file-3.new.files.items) before (c.make_file-3.ensures.there (c.make_file-2.ensures.rows _ ∙ c.make_file.ensures.rows _ ∙ some))

pub returns-clause-elsewhere : goal.returns-clause-elsewhere
returns-clause-elsewhere c p other =
    c.make_file-3.ensures.elsewhere p (other Selector)
    ∙ c.make_file-2.ensures.elsewhere p (other Leaf1)
    ∙ c.make_file.ensures.elsewhere p (other Leaf0)
