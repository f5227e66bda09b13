use Rattle.std.proofs.Common.{◌≡◌, ℕ, List, Some, ◌+◌, ◌-◌, ◌≤◌, length, take, drop, min, sym, ◌∙◌, ap, arith}
use Rattle.std.proofs.lemmas.List.{take_rest, drop-drop}
use Rattle.as4_flow.specs.InMemory.{after_read}
use Rattle.as4_flow.specs.declared.source.Got.TheVariants.{Gave}
use Rattle.as4_flow.specs.contracts.memory_source.MemorySource.{the_view}
use Rattle.as4_flow.proofs.InMemoryLemmas.{piece_size_within, left_given, drop_used, is_after_gave}
use Rattle.as4_flow.proofs.memory_source.MemorySourceSource.read.Goals as goal

pub returns-clause-bytes : goal.returns-clause-bytes
returns-clause-bytes c =
    let all = c.self.inside.bytes.items in
    let given = c.self.inside.given in
    let n = c.next_size-n.result in
    let left_is : take (length c.deref-2.result.now - given) (drop given c.deref-2.result.now) ≡ drop given all =
    take_rest c.deref-2.result.now given ∙ ap (λ (bytes : List ℕ). drop given bytes) c.deref-2.ensures.value in
    let piece_is : c.copy_from_slice.new.self ≡ take n (drop given all) =
    c.copy_from_slice.ensures.after ∙ ap (λ (left : List ℕ). take n left) left_is in
    let within : n ≤ length (drop given all) =
    omega (arith, piece_size_within, c.next_size-n.ensures, c.min.ensures, ap length left_is) in
    ap Some (sym (ap (λ v. v.bytes) c.self.view_is) ∙ left_given all c.copy_from_slice.new.self (drop n c.args.room.now) given n within piece_is)

pub returns-clause-state : goal.returns-clause-state
returns-clause-state c =
    let n = c.next_size-n.result in
    let bytes_are = sym (drop-drop n c.self.inside.given c.self.inside.bytes.items) in
    let next_used : c.min-self-inside.result ≡ min (c.self.inside.used + 1) (length c.self.inside.pieces.items) = omega arith in
    let pieces_are = drop_used c.self.inside.pieces.items c.self.inside.used c.min-self-inside.result next_used in
    is_after_gave (the_view c.self.inside) n _ _ _ bytes_are pieces_are c.saturating_add-self-inside.ensures ∙ ap (λ source. after_read (Gave n) source) c.self.view_is
