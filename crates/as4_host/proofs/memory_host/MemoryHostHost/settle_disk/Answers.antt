use Rattle.std.proofs.Common.{Some, sym, ◌∙◌, ap}
use Rattle.std.proofs.lemmas.List.Elements.{All-contains}
use Rattle.as4_host.specs.Files.{path_of}
use Rattle.as4_host.proofs.KnownLemmas.{HasRows}
use Rattle.as4_host.proofs.memory_host.MemoryHostHost.settle_disk.Goals as goal

pub returns-clause-kept : goal.returns-clause-kept
returns-clause-kept c q alone =
    let inside = c.self.inside in
    let named = c.requires inside.names.items (ap Some (sym (ap (λ host. host.names) c.self.view_is))) q in
    let rows = All-contains (HasRows inside.files.items inside.doors.items) inside.names.items (path_of c.args.paths q) c.self.invariant named in
    ap Some (c.settle_files.ensures.there q rows.0 alone ∙ ap Some (c.into_files.ensures q))
