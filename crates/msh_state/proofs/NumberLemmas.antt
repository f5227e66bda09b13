-- The number of a submission is its place.
use Rattle.std.proofs.Common.{◌≡◌, ℕ, suc, ◌+◌, ◌<◌, ◌≤◌, List, [], ◌∷◌, Bool, true, false, cond, ◌==◌, IsTrue, Option, Some, None, option_map, length, refl, ◌∙◌, arith}
use Rattle.std.specs.Option.{IfSome}
use Rattle.std.proofs.lemmas.Option.{same_Some, slice_get_past}
use Rattle.as4_effects.specs.declared.queue.Queue.{Queue}
use Rattle.as4_effects.specs.declared.mark.Mark.{Mark}
use Rattle.exchange_model.specs.Apply.{changed, is_one, marked}
use Rattle.exchange_model.specs.End.{End}
use Rattle.exchange_model.specs.Numbered.{AreNumberedFrom}
use Rattle.exchange_model.specs.Questions.{head_of, sent_at, sent_of}
use Rattle.exchange_model.specs.declared.sent.Sent.{Sent}
use Rattle.exchange_model.proofs.FoundLemmas.{head_has, sent_at_has, sent_of_has}
use Rattle.exchange_model.proofs.ListLemmas.{Has}
use Rattle.exchange_model.proofs.NumberedLemmas.{itself, place}

found_is : (sent : List Sent) → AreNumberedFrom 0 sent → (o : Option Sent) → ((s : Sent) → o ≡ Some s → Has sent s) → (r : Option ℕ)
    → r ≡ option_map (λ (s : Sent). s.submission.number) o → IfSome r (λ n. sent_at n sent ≡ o)
found_is sent h None there None e = tt
found_is sent h None there (Some n) e = cc
found_is sent h (Some s) there None e = tt
found_is sent h (Some s) there (Some n) e = rw (same_Some n s.submission.number e) (itself 0 sent s h (there s refl))

-- the number of a queue's head finds the head
pub head_found : (q : Queue) (end : End) (r : Option ℕ) → AreNumberedFrom 0 end.sent
    → r ≡ option_map (λ (s : Sent). s.submission.number) (head_of q end) → IfSome r (λ n. sent_at n end.sent ≡ head_of q end)
head_found q end r h e = found_is end.sent h (head_of q end) (λ s found. (head_has q end s found).0) r e

-- the number of an identifier's submission finds that submission
pub id_found : (id : List ℕ) (sent : List Sent) (r : Option ℕ) → AreNumberedFrom 0 sent
    → r ≡ option_map (λ (s : Sent). s.submission.number) (sent_of id sent) → IfSome r (λ n. sent_at n sent ≡ sent_of id sent)
id_found id sent r h e = found_is sent h (sent_of id sent) (λ s found. (sent_of_has id sent s found).0) r e

few_from : (n : ℕ) (sent : List Sent) → AreNumberedFrom n sent → n ≤ 1048576 → n + length sent ≤ 1048576
unfolding AreNumberedFrom
few_from n [] h l = omega arith
few_from n (s ∷ sent) h l = omega (arith, few_from (suc n) sent h.1 (omega (arith, h.0, s.submission.numbered)))

-- there are at most as many submissions as numbers
pub few : (sent : List Sent) → AreNumberedFrom 0 sent → length sent ≤ 1048576
few sent h = omega (arith, few_from 0 sent h (omega arith))

one_of : (test : Sent → Bool) (k : ℕ) (sent : List Sent) (o : Option Sent) → sent_at k sent ≡ o → IsTrue (is_one test o) → k < 1048576
one_of test k sent None e h = cc
one_of test k sent (Some s) e h = omega (arith, (sent_at_has k sent s e).1, s.submission.numbered)

-- a number that finds a submission is below the limit
pub one_is_small : (test : Sent → Bool) (k : ℕ) (sent : List Sent) → IsTrue (is_one test (sent_at k sent)) → k < 1048576
one_is_small test k sent h = one_of test k sent (sent_at k sent) refl h

-- no submission has the number after the last
pub none_behind : (sent : List Sent) → AreNumberedFrom 0 sent → sent_at (length sent) sent ≡ None
none_behind sent h = place (length sent) sent h ∙ slice_get_past sent (length sent) (omega arith)

-- each is at the place of its number, whatever the marks are
pub marked_numbered : (n : ℕ) (m : Mark) (low : ℕ) (sent : List Sent) → AreNumberedFrom low sent → AreNumberedFrom low (changed n (marked m) sent)
unfolding AreNumberedFrom changed
marked_numbered n m low [] h = tt
marked_numbered n m low (s ∷ sent) h = (either (s.submission.number == n), marked_numbered n m (suc low) sent h.1)
  where
    either : (b : Bool) → (cond b (marked m s) s).submission.number ≡ low
    either true = h.0
    either false = h.0
