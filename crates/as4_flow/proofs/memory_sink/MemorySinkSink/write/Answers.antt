use Rattle.std.proofs.Common.{◌≡◌, ◌+◌, ◌-◌, ◌++◌, length, take, min, ◌∙◌, ap, arith, vec_capacity}
use Rattle.std.proofs.lemmas.Grind.{common_steps}
use Rattle.as4_flow.specs.InMemory.{after_write}
use Rattle.as4_flow.specs.declared.sink.Put.TheVariants.{Took}
use Rattle.as4_flow.specs.contracts.memory_sink.MemorySink.{the_view}
use Rattle.as4_flow.proofs.InMemoryLemmas.{drop_used, is_after_took}
use Rattle.as4_flow.proofs.memory_sink.MemorySinkSink.write.Goals as goal

pub returns-clause-state : goal.returns-clause-state
returns-clause-state c =
    let n = c.next_size-n.result in
    let room = vec_capacity c.extend_from_slice.new.self - length c.extend_from_slice.new.self.items in
    let bytes_are : c.extend_from_slice.new.self.items ≡ c.self.inside.bytes.items ++ take n c.args.piece.now = grind (arith, common_steps) in
    let next_used : c.min-self-inside.result ≡ min (c.self.inside.used + 1) (length c.self.inside.pieces.items) = omega arith in
    let pieces_are = drop_used c.self.inside.pieces.items c.self.inside.used c.min-self-inside.result next_used in
    is_after_took (the_view c.self.inside) n c.args.piece.now _ _ room _ bytes_are pieces_are c.saturating_add-self-inside.ensures
    ∙ ap (λ sink. after_write (Took n) c.args.piece.now room sink) c.self.view_is
