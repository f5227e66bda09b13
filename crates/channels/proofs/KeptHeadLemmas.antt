-- The head of a queue, by the heap of the queue.
use Rattle.std.proofs.Common.{◌≡◌, ◌≢◌, ℕ, ◌<◌, List, Option, Some, None, sym, ap, ◌∙◌}
use Rattle.std.proofs.lemmas.Option.{none-some}
use Rattle.as4_effects.specs.declared.queue.Queue.{Queue}
use Rattle.channels.specs.Keeping.{queue_at, waiting_in, number_if_due, IsKept}
use Rattle.channels.specs.Queues.{waiting_at, without, head_in}
use Rattle.channels.specs.declared.waiting.Waiting.{Waiting}
use Rattle.channels.proofs.HeadLemmas.{head_is}
use Rattle.channels.proofs.QueueLemmas.{one_heap}
use Rattle.channels.proofs.RisingLemmas.{without_rises, without_here, without_others}
use Rattle.channels.proofs.ViewLemmas.{in_rises, stands, waits_in}
use Rattle.due_heap.specs.Heaps.{Heaps, HasPair, HasPairBut, IsLeastOf}

-- a submission that waits in the queue of a heap is in the heap
in_heap : (names : List (List ℕ)) (heaps : Heaps) (q : Queue) (heap : ℕ) (v : Waiting) → IsKept names heaps → queue_at names heap ≡ Some q → waiting_at v.number (waiting_in names heaps) ≡ Some v → v.queue ≡ q → HasPair heaps heap (v.due, v.number)
in_heap names heaps q heap v kept is waits same =
    let s = stands names heaps v waits in
    s.place ∙ ap (λ h. Some (record { heap = h; due = v.due })) (one_heap names s.heap heap q kept.distinct (s.queue ∙ ap (λ (x : Queue). Some x) same) is)

-- nothing waits in a queue without a heap
in_none : (names : List (List ℕ)) (heaps : Heaps) (q : Queue) (v : Waiting) → IsKept names heaps → ((heap : ℕ) → queue_at names heap ≡ Some q → heap < heaps.count → ⊥) → waiting_at v.number (waiting_in names heaps) ≡ Some v → v.queue ≡ q → ⊥
in_none names heaps q v kept none waits same =
    let s = stands names heaps v waits in
    none s.heap (s.queue ∙ ap (λ (x : Queue). Some x) same) (kept.there v.number (record { heap = s.heap; due = v.due }) s.place)

-- without a number, each waiting one has another number
other_number : (number : ℕ) (xs : List Waiting) (v : Waiting) → waiting_at v.number (without number xs) ≡ Some v → v.number ≢ number
other_number number xs v waits same =
    none-some v (sym (without_here number xs) ∙ sym (ap (λ n. waiting_at n (without number xs)) same) ∙ waits)

pub head_of_heap : (names : List (List ℕ)) (heaps : Heaps) (q : Queue) (heap moment : ℕ) (r : Option (ℕ × ℕ)) → IsKept names heaps → queue_at names heap ≡ Some q → IsLeastOf (HasPair heaps heap) r → number_if_due moment r ≡ head_in q moment (waiting_in names heaps)
head_of_heap names heaps q heap moment r kept is least =
    head_is (HasPair heaps heap) q moment (waiting_in names heaps) r (in_rises names heaps)
    (λ v waits same. in_heap names heaps q heap v kept is waits same)
    (λ x has. waits_in names heaps q heap x.0 x.1 is has)
    least

pub head_of_none : (names : List (List ℕ)) (heaps : Heaps) (q : Queue) (moment : ℕ) → IsKept names heaps → ((heap : ℕ) → queue_at names heap ≡ Some q → heap < heaps.count → ⊥) → None ≡ head_in q moment (waiting_in names heaps)
head_of_none names heaps q moment kept none =
    head_is (λ x. ⊥) q moment (waiting_in names heaps) None (in_rises names heaps)
    (λ v waits same. in_none names heaps q v kept none waits same)
    (λ x never. absurd never)
    (λ x never. never)

pub head_without_of_heap : (names : List (List ℕ)) (heaps : Heaps) (q : Queue) (heap moment number : ℕ) (r : Option (ℕ × ℕ)) → IsKept names heaps → queue_at names heap ≡ Some q → IsLeastOf (HasPairBut heaps heap number) r → number_if_due moment r ≡ head_in q moment (without number (waiting_in names heaps))
head_without_of_heap names heaps q heap moment number r kept is least =
    let xs = waiting_in names heaps in
    head_is (HasPairBut heaps heap number) q moment (without number xs) r (without_rises 0 number xs (in_rises names heaps))
    (λ v waits same.
    let other = other_number number xs v waits in
    (in_heap names heaps q heap v kept is (sym (without_others number v.number xs other) ∙ waits) same, other))
    (λ x has. without_others number x.1 xs has.1 ∙ waits_in names heaps q heap x.0 x.1 is has.0)
    least

pub head_without_of_none : (names : List (List ℕ)) (heaps : Heaps) (q : Queue) (moment number : ℕ) → IsKept names heaps → ((heap : ℕ) → queue_at names heap ≡ Some q → heap < heaps.count → ⊥) → None ≡ head_in q moment (without number (waiting_in names heaps))
head_without_of_none names heaps q moment number kept none =
    let xs = waiting_in names heaps in
    head_is (λ x. ⊥) q moment (without number xs) None (without_rises 0 number xs (in_rises names heaps))
    (λ v waits same. in_none names heaps q v kept none (sym (without_others number v.number xs (other_number number xs v waits)) ∙ waits) same)
    (λ x never. absurd never)
    (λ x never. never)
