-- Replaying a compaction gives the endpoint again.
use Rattle.std.proofs.Common.{◌≡◌, ℕ, ◌+◌, List, [], ◌∷◌, ◌++◌, length, take, drop, refl, sym, subst, arith}
use Rattle.std.proofs.lemmas.List.{length-take, map-append, take-append-drop}
use Rattle.std.proofs.lemmas.List.Sums.{sum_by-append}
use Rattle.as4_effects.specs.declared.effect.Effect.{Effect}
use Rattle.exchange_model.specs.Apply.{record_len}
use Rattle.exchange_model.specs.End.{End, empty_end}
use Rattle.exchange_model.specs.Fold.{IsFolded, folded_size, resized}
use Rattle.exchange_model.specs.declared.inbox_entry.InboxEntry.{InboxEntry}
use Rattle.exchange_laws.proofs.InboxLemmas.{id_of, ids, Apart}
use Rattle.exchange_laws.proofs.ListLemmas.{had_left}
use Rattle.fold_laws.specs.Reached.{AreReplayed}
use Rattle.fold_laws.proofs.Held.{has_taken}
use Rattle.fold_laws.proofs.Replays.{bytes_of, end_of, replayed_then, replay_carried, replay_kept, replay_delivered, replay_clock}
use Rattle.fold_laws.proofs.Sound.{IsSound}

apart_left : (xs ys : List (List ℕ)) → Apart (xs ++ ys) → Apart xs
apart_left [] ys apart = tt
apart_left (x ∷ xs) ys apart = (λ h. apart.0 (had_left xs ys x h), apart_left xs ys apart.1)

sum_of : (a b c d : List Effect) → 9 + bytes_of a + bytes_of b + bytes_of c + bytes_of d ≡ 9 + bytes_of (a ++ b ++ c ++ d)
sum_of a b c d =
    let f : Effect → ℕ = λ e. record_len (e ∷ []) in
    let first : bytes_of (a ++ b) ≡ bytes_of a + bytes_of b = sum_by-append f a b in
    let next : bytes_of (a ++ b ++ c) ≡ bytes_of (a ++ b) + bytes_of c = sum_by-append f (a ++ b) c in
    let all : bytes_of (a ++ b ++ c ++ d) ≡ bytes_of (a ++ b ++ c) + bytes_of d = sum_by-append f (a ++ b ++ c) d in
    omega (arith, first, next, all)

given_back_by : (end : End) (effects : List Effect) → IsSound end → (h : IsFolded end effects)
    → AreReplayed (h.carried ++ h.kept ++ h.delivered ++ h.clock) empty_end (resized (folded_size (h.carried ++ h.kept ++ h.delivered ++ h.clock)) end)
unfolding folded_size
given_back_by end effects sound h =
    let taken : List InboxEntry = take end.confirmed end.inbox in
    let waiting : List InboxEntry = drop end.confirmed end.inbox in
    let whole : taken ++ waiting ≡ end.inbox = take-append-drop end.confirmed end.inbox in
    let apart : Apart (ids (taken ++ waiting)) = subst (λ t. Apart (ids t)) (sym whole) sound.inbox.apart in
    let front : Apart (ids taken) = apart_left (ids taken) (ids waiting) (subst Apart (map-append id_of taken waiting) apart) in
    let count : 0 + length taken ≡ end.confirmed =
    let n = length-take end.confirmed end.inbox in let came = sound.inbox.came in omega (arith, n, came) in
    let first = replay_carried end.sent h.carried [] 9 h.submissions sound.sent.numbered (λ s none. absurd none) (λ s k. (sound.sent.each s k).tries) in
    let next = replay_kept taken h.kept end.sent [] 0 (9 + bytes_of h.carried) h.taken_over refl front
    (λ entry k. (has_taken end.inbox end.confirmed entry sound.inbox.held k).0) in
    let rest = replay_delivered waiting h.delivered end.sent taken (0 + length taken) (9 + bytes_of h.carried + bytes_of h.kept) h.waiting apart in
    let last = replay_clock end.moment h.clock end.sent (taken ++ waiting) (0 + length taken) (9 + bytes_of h.carried + bytes_of h.kept + bytes_of h.delivered)
    h.set (λ s k. (sound.sent.each s k).unspent) in
    let size = sum_of h.carried h.kept h.delivered h.clock in
    subst (AreReplayed (h.carried ++ h.kept ++ h.delivered ++ h.clock) empty_end) (λ i. end_of end.sent (whole i) (count i) end.moment (size i))
    (replayed_then (h.carried ++ h.kept ++ h.delivered) h.clock empty_end _ _
    (replayed_then (h.carried ++ h.kept) h.delivered empty_end _ _ (replayed_then h.carried h.kept empty_end _ _ first next) rest) last)

pub given_back : (end : End) (effects : List Effect) → IsSound end → IsFolded end effects
    → AreReplayed effects empty_end (resized (folded_size effects) end)
given_back end effects sound h =
    subst (λ (all : List Effect). AreReplayed all empty_end (resized (folded_size all) end)) (sym h.is) (given_back_by end effects sound h)
