use Rattle.std.proofs.Common.{ℕ, ◌+◌, List, Some, ap, sym, ◌∙◌, arith}
use Rattle.as4_effects.specs.declared.queue.Queue.TheVariants as queue
use Rattle.channels.specs.Keeping.{queue_at}
use Rattle.channels.proofs.QueueLemmas.{no_name, name_keeps, new_name}
use Rattle.channels.proofs.places.new_heap.Goals as goal

pub add-requires : goal.add-requires
add-requires c =
    record {
      new = no_name c.args.names.now c.args.heaps.now.count c.bytes.result.now c.requires.enough
          (λ heap found. c.requires.new heap (found ∙ ap (λ (name : List ℕ). Some (queue.Channel name)) c.bytes.ensures.value ∙ ap Some (sym c.in-Channel.is)));
    }

pub returns-in_ok-add-in-Channel-clause-heap : goal.returns-in_ok-add-in-Channel-clause-heap
returns-in_ok-add-in-Channel-clause-heap c = (
  ap (λ (n : ℕ). queue_at c.add.new.self (n + 1)) c.len-heap.ensures.value
      ∙ new_name c.args.names.now c.add.new.self c.bytes.result.now c.in_ok-add-in-Channel.ensures.ok
      ∙ ap (λ (name : List ℕ). Some (queue.Channel name)) c.bytes.ensures.value
      ∙ ap Some (sym c.in-Channel.is),
  omega (arith, c.in_ok-make_heaps-in-Channel.ensures.ok),
)

pub returns-in_ok-add-in-Channel-clause-names : goal.returns-in_ok-add-in-Channel-clause-names
returns-in_ok-add-in-Channel-clause-names c =
    name_keeps c.args.names.now c.add.new.self c.bytes.result.now
    (no_name c.args.names.now c.args.heaps.now.count c.bytes.result.now c.requires.enough
    (λ heap found. c.requires.new heap (found ∙ ap (λ (name : List ℕ). Some (queue.Channel name)) c.bytes.ensures.value ∙ ap Some (sym c.in-Channel.is))))
    c.in_ok-add-in-Channel.ensures.ok
