use Rattle.std.proofs.Common.{◌≡◌, Some, ap, sym, ◌∙◌, arith}
use Rattle.as4_effects.specs.declared.queue.Queue.{Queue}
use Rattle.channels.specs.Keeping.{queue_at}
use Rattle.channels.proofs.QueueLemmas.{one_heap, named_heap}
use Rattle.channels.proofs.places.heap_of.Goals as goal
use Rattle.channels.proofs.places.heap_of.Goals.{in-Push, in-Channel+in_ok-heap-in-Channel}

pub returns-then-heap-count-clause-only : goal.returns-then-heap-count-clause-only
returns-then-heap-count-clause-only c =
    let names = c.args.names.now in
    let q = c.args.queue.now in
    let found : queue_at names c.match-queue.heap ≡ Some q =
    elim c.match-queue.branch [
      | in-Push w ↦ ap (queue_at names) w.heap-is ∙ ap (λ (q : Queue). Some q) (sym w.in-Push.is)
      | in-Channel+in_ok-heap-in-Channel w ↦ named_heap names c.match-queue.heap w.in_ok-heap-in-Channel.field-0 w.bytes.result.now w.in-Channel.mpc q w.heap-is w.in_ok-heap-in-Channel.ensures.found w.bytes.ensures.value w.in-Channel.is
    ] in
    λ heap is there. ap Some (one_heap names c.match-queue.heap heap q c.requires.distinct found is)

pub returns-else-heap-count-clause-only : goal.returns-else-heap-count-clause-only
returns-else-heap-count-clause-only c =
    let names = c.args.names.now in
    let q = c.args.queue.now in
    let found : queue_at names c.match-queue.heap ≡ Some q =
    elim c.match-queue.branch [
      | in-Push w ↦ ap (queue_at names) w.heap-is ∙ ap (λ (q : Queue). Some q) (sym w.in-Push.is)
      | in-Channel+in_ok-heap-in-Channel w ↦ named_heap names c.match-queue.heap w.in_ok-heap-in-Channel.field-0 w.bytes.result.now w.in-Channel.mpc q w.heap-is w.in_ok-heap-in-Channel.ensures.found w.bytes.ensures.value w.in-Channel.is
    ] in
    λ heap is there.
    let same = one_heap names c.match-queue.heap heap q c.requires.distinct found is in
    absurd (omega (arith, same, there, c.if-heap-count.false, c.count-count.ensures.value))
