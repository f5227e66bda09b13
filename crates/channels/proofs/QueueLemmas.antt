-- The heap of each queue.
use Rattle.std.proofs.Common.{◌≡◌, ◌≢◌, ℕ, zero, suc, ◌+◌, ◌-◌, ◌≤◌, List, [], ◌∷◌, ◌++◌, Option, Some, None, length, get_or, slice_get, option_map, add-one, refl, sym, ap, ◌∙◌, arith}
use Rattle.std.proofs.lemmas.List.{length_push}
use Rattle.std.proofs.lemmas.Option.{same_Some, none-some, slice_get_within, slice_get-get_or}
use Rattle.as4_effects.specs.declared.queue.Queue.{Queue}
use Rattle.as4_effects.specs.declared.queue.Queue.TheVariants as queue
use Rattle.channels.specs.Keeping.{queue_at, KeepsNames, AreDistinct}
use Rattle.channels.proofs.NameLemmas.{distinct_added}
use Rattle.due_heap.proofs.PlaceLemmas.{get-push_last, get-push_other}

-- the name of a queue, where it is a channel
record IsChannel (q : Queue) (found : Option (List ℕ)) : Type 0 where
  mpc : List ℕ
  is : q ≡ queue.Channel mpc
  name : found ≡ Some mpc

is_channel : (q : Queue) (name : Option (List ℕ)) → option_map queue.Channel name ≡ Some q → IsChannel q name
is_channel q None found = absurd (none-some q found)
is_channel q (Some mpc) found = record { mpc = mpc; is = sym (same_Some (queue.Channel mpc) q found); name = refl }

-- a heap with a queue is that of the push queue, or has a name
pub queue_within : (names : List (List ℕ)) (heap : ℕ) (q : Queue) → queue_at names heap ≡ Some q → heap ≤ length names
queue_within names zero q found = omega arith
queue_within names (suc at) q found =
    let channel = is_channel q (slice_get names at) found in
    let within = slice_get_within names at channel.mpc channel.name in
    omega arith

-- and each such heap has a queue
pub queue_known : (names : List (List ℕ)) (heap : ℕ) → heap ≤ length names → (q : Queue) × (queue_at names heap ≡ Some q)
queue_known names zero within = (queue.Push, refl)
queue_known [] (suc at) within = absurd (omega arith)
queue_known (name ∷ names) (suc at) within =
    (queue.Channel (get_or (name ∷ names) at name), ap (option_map queue.Channel) (slice_get-get_or (name ∷ names) at name (omega arith)))

-- a queue has one heap
pub one_heap : (names : List (List ℕ)) (heap other : ℕ) (q : Queue) → AreDistinct names → queue_at names heap ≡ Some q → queue_at names other ≡ Some q → heap ≡ other
one_heap names zero zero q distinct found also = refl
one_heap names zero (suc j) q distinct found also =
    let channel = is_channel q (slice_get names j) also in
    let pushed : queue.Push ≡ queue.Channel channel.mpc = same_Some queue.Push q found ∙ channel.is in
    absurd (cc)
one_heap names (suc i) zero q distinct found also =
    let channel = is_channel q (slice_get names i) found in
    let pushed : queue.Push ≡ queue.Channel channel.mpc = same_Some queue.Push q also ∙ channel.is in
    absurd (cc)
one_heap names (suc i) (suc j) q distinct found also =
    let one = is_channel q (slice_get names i) found in
    let two = is_channel q (slice_get names j) also in
    let names_are : queue.Channel one.mpc ≡ queue.Channel two.mpc = sym one.is ∙ two.is in
    let same : one.mpc ≡ two.mpc = cc in
    ap suc (distinct i j two.mpc (one.name ∙ ap (λ (n : List ℕ). Some n) same) two.name)

-- a channel without a heap has no name
pub no_name : (names : List (List ℕ)) (count : ℕ) (mpc : List ℕ) → length names ≤ count - 1 → ((heap : ℕ) → queue_at names heap ≡ Some (queue.Channel mpc) → count ≤ heap) → (at : ℕ) → slice_get names at ≢ Some mpc
no_name names count mpc enough none at has =
    let within = slice_get_within names at mpc has in
    let past = none (suc at) (ap (option_map queue.Channel) has) in
    omega arith

-- a new name leaves the others at their places, and has the heap after theirs
pub name_keeps : (names names' : List (List ℕ)) (mpc : List ℕ) → ((at : ℕ) → slice_get names at ≢ Some mpc) → names' ≡ names ++ mpc ∷ [] → KeepsNames names names'
name_keeps names names' mpc none is =
    let longer : length names' ≡ length names + 1 = ap length is ∙ length_push names mpc in
    record {
      as_many = omega arith;
      same = λ heap within. ap (λ ns. queue_at ns heap) is ∙ same heap within;
      distinct = λ distinct. rw is (distinct_added mpc names distinct none);
    }
  where
    same : (heap : ℕ) → heap ≤ length names → queue_at (names ++ mpc ∷ []) heap ≡ queue_at names heap
    same zero within = refl
    same (suc at) within = ap (option_map queue.Channel) (get-push_other names mpc at (λ e. omega (arith, within, e)))

pub new_name : (names names' : List (List ℕ)) (mpc : List ℕ) → names' ≡ names ++ mpc ∷ [] → queue_at names' (length names + 1) ≡ Some (queue.Channel mpc)
new_name names names' mpc is =
    ap (λ heap. queue_at names' heap) (add-one (length names))
    ∙ ap (λ ns. queue_at ns (suc (length names))) is
    ∙ ap (option_map queue.Channel) (get-push_last names mpc)

-- the heap after the place of a channel's name is that of the channel
pub named_heap : (names : List (List ℕ)) (heap at : ℕ) (name mpc : List ℕ) (q : Queue) → heap ≡ at + 1 → slice_get names at ≡ Some name → name ≡ mpc → q ≡ queue.Channel mpc → queue_at names heap ≡ Some q
named_heap names heap at name mpc q behind found same is =
    ap (queue_at names) (behind ∙ add-one at)
    ∙ ap (option_map queue.Channel) (found ∙ ap (λ (n : List ℕ). Some n) same)
    ∙ ap (λ (q : Queue). Some q) (sym is)
