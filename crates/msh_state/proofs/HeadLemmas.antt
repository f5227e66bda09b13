-- The head of a queue is the head among the waiting submissions.
use Rattle.std.proofs.Common.{◌≡◌, ℕ, List, [], ◌∷◌, Bool, true, false, cond, ◌&&◌, nat_le, nat_lt, Option, Some, None, option_map, map, refl, ap, sym, ◌∙◌, IsTrue, ◌==◌}
use Rattle.std.specs.Option.{IfSome}
use Rattle.std.specs.List.{filter}
use Rattle.std.proofs.lemmas.List.Elements.{filter_agree}
use Rattle.as4_effects.specs.declared.effect.Effect.TheVariants as effect
use Rattle.as4_effects.specs.declared.mark.Mark.{Mark}
use Rattle.as4_effects.specs.declared.mark.Mark.TheVariants as mark
use Rattle.as4_effects.specs.declared.queue.Queue.{Queue}
use Rattle.channels.proofs.FilterLemmas.{filter-filter}
use Rattle.channels.specs.Queues.{head_in, is_due_in, without}
use Rattle.channels.specs.declared.waiting.Waiting.{Waiting}
use Rattle.exchange_model.specs.End.{End}
use Rattle.exchange_model.specs.Least.{first_least, lesser}
use Rattle.exchange_model.specs.Apply.{after, changed, is_fit, marked}
use Rattle.exchange_model.specs.Numbered.{AreNumberedFrom}
use Rattle.exchange_model.specs.Questions.{due, head_of, is_in, is_ready, is_waiting, sent_at}
use Rattle.exchange_model.specs.declared.sent.Sent.{Sent}
use Rattle.msh_state.specs.Waiting.{waiting_in, waiting_of}
use Rattle.msh_state.proofs.NumberLemmas.{head_found, marked_numbered}
use Rattle.msh_state.proofs.StepLemmas.{settled_step}

filter-map : {X Y : Type 0} (p : Y → Bool) (f : X → Y) (xs : List X) → filter p (map f xs) ≡ map f (filter (λ x. p (f x)) xs)
filter-map p f [] = refl
filter-map p f (x ∷ xs) =
    elim (p (f x)) as (λ b. cond b (f x ∷ filter p (map f xs)) (filter p (map f xs)) ≡ map f (cond b (x ∷ filter (λ x. p (f x)) xs) (filter (λ x. p (f x)) xs)))
    [ true ↦ ap (λ ys. f x ∷ ys) (filter-map p f xs) | false ↦ filter-map p f xs ]

lesser-map : {X Y : Type 0} (key : Y → ℕ) (f : X → Y) (x : X) (o : Option X) → lesser key (f x) (option_map f o) ≡ f (lesser (λ x. key (f x)) x o)
lesser-map key f x None = refl
lesser-map key f x (Some y) =
    elim (nat_lt (key (f y)) (key (f x))) as (λ b. cond b (f y) (f x) ≡ f (cond b y x)) [ true ↦ refl | false ↦ refl ]

first_least-map : {X Y : Type 0} (key : Y → ℕ) (f : X → Y) (xs : List X) → first_least key (map f xs) ≡ option_map f (first_least (λ x. key (f x)) xs)
unfolding first_least
first_least-map key f [] = refl
first_least-map key f (x ∷ xs) =
    ap (λ o. Some (lesser key (f x) o)) (first_least-map key f xs) ∙ ap Some (lesser-map key f x (first_least (λ x. key (f x)) xs))

option_map-option_map : {X Y Z : Type 0} (g : Y → Z) (f : X → Y) (o : Option X) → option_map g (option_map f o) ≡ option_map (λ x. g (f x)) o
option_map-option_map g f None = refl
option_map-option_map g f (Some x) = refl

tests_swap : (a b c : Bool) → (a && (b && c)) ≡ ((a && c) && b)
tests_swap true true true = refl
tests_swap true true false = refl
tests_swap true false true = refl
tests_swap true false false = refl
tests_swap false b c = refl

head_is : (q : Queue) (end : End) → head_in q end.moment (waiting_in end.sent) ≡ option_map (λ (s : Sent). s.submission.number) (head_of q end)
unfolding head_in head_of waiting_in
head_is q end =
    let here : Waiting → Bool = is_due_in q end.moment in
    let one = filter-map here waiting_of (filter is_waiting end.sent) in
    let two = filter-filter (λ s. here (waiting_of s)) is_waiting end.sent in
    let three = filter_agree (λ s. is_waiting s && here (waiting_of s)) (λ s. is_ready end.moment s && is_in q s) (λ s. tests_swap (is_waiting s) (is_in q s) (nat_le (due s) end.moment)) end.sent in
    ap (λ ws. option_map (λ (w : Waiting). w.number) (first_least (λ (w : Waiting). w.due) ws)) (one ∙ ap (map waiting_of) (two ∙ three))
    ∙ ap (option_map (λ (w : Waiting). w.number)) (first_least-map (λ (w : Waiting). w.due) waiting_of (filter (λ s. is_ready end.moment s && is_in q s) end.sent))
    ∙ option_map-option_map (λ (w : Waiting). w.number) waiting_of (first_least due (filter (λ s. is_ready end.moment s && is_in q s) end.sent))

-- the queues give the number of the head
pub head_shown : (q : Queue) (end : End) (waiting : List Waiting) (r : Option ℕ) → r ≡ head_in q end.moment waiting → waiting ≡ waiting_in end.sent
    → r ≡ option_map (λ (s : Sent). s.submission.number) (head_of q end)
head_shown q end waiting r e step = e ∙ ap (head_in q end.moment) step ∙ head_is q end

-- a change of the mark doesn't change the submission
marked_same : (n k : ℕ) (m : Mark) (sent : List Sent)
    → option_map (λ (s : Sent). s.submission) (sent_at k (changed n (marked m) sent)) ≡ option_map (λ (s : Sent). s.submission) (sent_at k sent)
unfolding changed
marked_same n k m [] = refl
marked_same n k m (s ∷ sent) = by_number (s.submission.number == n) (marked_same n k m sent)
  where
    by_test : (t : Sent) (b : Bool) (a o : Option Sent) → option_map (λ (u : Sent). u.submission) a ≡ option_map (λ (u : Sent). u.submission) o
        → t.submission ≡ s.submission
        → option_map (λ (u : Sent). u.submission) (cond b (Some t) a) ≡ option_map (λ (u : Sent). u.submission) (cond b (Some s) o)
    by_test t true a o rest same = ap Some same
    by_test t false a o rest same = rest

    by_number : (b : Bool)
        → option_map (λ (u : Sent). u.submission) (sent_at k (changed n (marked m) sent)) ≡ option_map (λ (u : Sent). u.submission) (sent_at k sent)
        → option_map (λ (u : Sent). u.submission) (sent_at k (cond b (marked m s) s ∷ changed n (marked m) sent)) ≡ option_map (λ (u : Sent). u.submission) (sent_at k (s ∷ sent))
    by_number true rest = by_test (marked m s) (s.submission.number == k) (sent_at k (changed n (marked m) sent)) (sent_at k sent) rest refl
    by_number false rest = by_test s (s.submission.number == k) (sent_at k (changed n (marked m) sent)) (sent_at k sent) rest refl

-- without the receipted one, the queues give the number of the head after its receipt
pub behind_shown : (q : Queue) (n : ℕ) (end : End) (waiting : List Waiting) (r : Option ℕ) → r ≡ head_in q end.moment (without n waiting)
    → waiting ≡ waiting_in end.sent → AreNumberedFrom 0 end.sent → IsTrue (is_fit (effect.Receipted n) end)
    → r ≡ option_map (λ (s : Sent). s.submission.number) (head_of q (after (effect.Receipted n) end))
unfolding after is_fit
behind_shown q n end waiting r e step stand fit =
    head_shown q (after (effect.Receipted n) end) (without n waiting) r e
    (settled_step n mark.Receipted end.sent (changed n (marked mark.Receipted) end.sent) waiting (without n waiting) refl step stand fit refl refl)

-- and the submission of that number is the head's
pub behind_found : (q : Queue) (n : ℕ) (end : End) (r : Option ℕ) → AreNumberedFrom 0 end.sent
    → r ≡ option_map (λ (s : Sent). s.submission.number) (head_of q (after (effect.Receipted n) end))
    → IfSome r (λ k. option_map (λ (s : Sent). s.submission) (sent_at k end.sent)
    ≡ option_map (λ (s : Sent). s.submission) (head_of q (after (effect.Receipted n) end)))
unfolding after
behind_found q n end r stand e = by_result r (head_found q (after (effect.Receipted n) end) r (marked_numbered n mark.Receipted 0 end.sent stand) e)
  where
    by_result : (r : Option ℕ) → IfSome r (λ k. sent_at k (changed n (marked mark.Receipted) end.sent) ≡ head_of q (after (effect.Receipted n) end))
        → IfSome r (λ k. option_map (λ (s : Sent). s.submission) (sent_at k end.sent)
        ≡ option_map (λ (s : Sent). s.submission) (head_of q (after (effect.Receipted n) end)))
    by_result None found = tt
    by_result (Some k) found = sym (marked_same n k mark.Receipted end.sent) ∙ ap (option_map (λ (s : Sent). s.submission)) found
