use Rattle.std.proofs.Common.{[], Some, sym, ◌∙◌, ap}
use Rattle.std.specs.Prelude.{is_some, unwrap_or}
use Rattle.as4_host.specs.Files.{path_of}
use Rattle.as4_host.specs.Rows.{value_at}
use Rattle.as4_host.specs.HostInMemory.{file_at}
use Rattle.as4_host.proofs.KnownLemmas.{same_file, made_is, known_path}
use Rattle.as4_host.proofs.memory_host.MemoryHostHost.open_disk.Goals as goal

pub returns-clause-made : goal.returns-clause-made
returns-clause-made c q =
    let path = path_of c.args.paths q in
    let files_are = ap (λ host. host.files) c.self-2.view_is in
    let same = ap (λ files. file_at files path) files_are ∙ same_file _ _ c.call.ensures.files path in
    let some = ap (λ files. is_some (value_at files path)) files_are ∙ known_path c.args.paths _ _ c.in_default-call.ensures.known q in
    ap Some (c.make_files.ensures.there q some ∙ ap (λ file. Some (unwrap_or file [])) same) ∙ sym (made_is (file_at c.args.self.now.files path))
