-- How often submissions were sent, from before an event to after it, compared with the messages that the event sends.
use Rattle.std.proofs.Common.{◌≡◌, ℕ, ◌+◌, ◌⊎◌, inl, inr, List, [], ◌∷◌, ◌++◌, Bool, true, false, cond, length, map, refl, sym, ap, ◌∙◌, arith}
use Rattle.std.specs.Prelude.{◌==◌, ◌||◌, if◌then◌else◌}
use Rattle.std.specs.List.{list_any}
use Rattle.std.specs.Str.{bytes_eq}
use Rattle.std.proofs.lemmas.Bool.Decides.{nat_tests}
use Rattle.std.proofs.lemmas.List.{length-map}
use Rattle.std.proofs.lemmas.Slice.Eq.{bytes_eq-Decides}
use Rattle.as4_effects.specs.declared.submission.Submission.{Submission}
use Rattle.as4_values.specs.declared.message.Message.{Message}
use Rattle.exchange_model.specs.Apply.{unsent, tried, marked, failed_if_spent, changed}
use Rattle.exchange_model.specs.HandingOut.{is_user_message}
use Rattle.exchange_model.specs.Numbered.{AreNumberedFrom}
use Rattle.exchange_model.specs.Questions.{is_spent}
use Rattle.exchange_model.specs.Table.{message_of}
use Rattle.as4_effects.specs.declared.mark.Mark.{Mark}
use Rattle.as4_effects.specs.declared.mark.Mark.TheVariants as mark
use Rattle.exchange_model.specs.declared.sent.Sent.{Sent}
use Rattle.exchange_model.proofs.ListLemmas.{Has}
use Rattle.exchange_model.proofs.NumberedLemmas.{one_number}
use Rattle.exchange_laws.proofs.ListLemmas.{has_mapped, has_either}
use Rattle.exchange_laws.proofs.SentLemmas.{one_of_number}

-- the messages have the user message of this identifier
abbrev pub has_message : List ℕ → List Message → Bool
has_message id said = list_any (is_user_message id) said

abbrev pub one_if : Bool → ℕ
one_if b = cond b 1 0

-- none of the messages is a user message
abbrev pub IsQuiet : List Message → Type 0
IsQuiet said = (id : List ℕ) → has_message id said ≡ false

pub quiet_none : (said : List Message) → said ≡ [] → IsQuiet said
quiet_none said none id = ap (has_message id) none

-- each submission existed before, and was sent as often
abbrev pub TriesStay : List Sent → List Sent → Type 0
TriesStay old new = (t : Sent) → Has new t → (s : Sent) × Has old s × (s.submission ≡ t.submission) × (t.tries ≡ s.tries)

-- each submission existed before, and has one more try if its message is sent; or it is the next, and nothing is sent
abbrev pub TriesGo : List Message → List Sent → List Sent → Type 0
TriesGo said old new = (t : Sent) → Has new t
    → ((s : Sent) × Has old s × (s.submission ≡ t.submission) × (t.tries ≡ s.tries + one_if (has_message t.submission.header.id said)))
    ⊎ ((t.tries ≡ 0) × (t.submission.number ≡ length old) × (said ≡ []))

-- where no user message is sent, the tries don't change
pub tries_quiet : (said : List Message) (old new : List Sent) → IsQuiet said → TriesStay old new → TriesGo said old new
tries_quiet said old new quiet stay t h =
    let s = stay t h in
    inl (s.0, s.1, s.2, s.3 ∙ more s.0.tries (has_message t.submission.header.id said) (quiet t.submission.header.id))
  where
    more : (n : ℕ) (b : Bool) → b ≡ false → n ≡ n + one_if b
    more n b e = rw e (omega arith)

pub stay_same : (sent : List Sent) → TriesStay sent sent
stay_same sent t h = (t, h, refl, refl)

-- each one changed, except its tries
stay_map : (sent : List Sent) (f : Sent → Sent) → ((s : Sent) → (f s).submission ≡ s.submission) → ((s : Sent) → (f s).tries ≡ s.tries)
    → TriesStay sent (map f sent)
stay_map sent f same tries t h =
    let o = has_mapped f sent t h in
    (o.0, o.1, sym (same o.0) ∙ ap (λ (u : Sent). u.submission) o.2, sym (ap (λ (u : Sent). u.tries) o.2) ∙ tries o.0)

-- one gets another mark
pub stay_marked : (sent : List Sent) (number : ℕ) (m : Mark) → TriesStay sent (changed number (marked m) sent)
unfolding changed
stay_marked sent number m =
    stay_map sent (λ (s : Sent). if s.submission.number == number then marked m s else s)
    (λ s. same s (s.submission.number == number)) (λ s. tries s (s.submission.number == number))
  where
    same : (s : Sent) (b : Bool) → (if b then marked m s else s).submission ≡ s.submission
    same s true = refl
    same s false = refl

    tries : (s : Sent) (b : Bool) → (if b then marked m s else s).tries ≡ s.tries
    tries s true = refl
    tries s false = refl

-- the clock is set
pub stay_ticked : (sent : List Sent) (moment : ℕ) → TriesStay sent (map (failed_if_spent moment) sent)
stay_ticked sent moment =
    stay_map sent (failed_if_spent moment) (λ s. same s (is_spent moment s)) (λ s. tries s (is_spent moment s))
  where
    same : (s : Sent) (b : Bool) → (if b then marked mark.Failed s else s).submission ≡ s.submission
    same s true = refl
    same s false = refl

    tries : (s : Sent) (b : Bool) → (if b then marked mark.Failed s else s).tries ≡ s.tries
    tries s true = refl
    tries s false = refl

pub stay_then : (a b c : List Sent) → TriesStay a b → TriesStay b c → TriesStay a c
stay_then a b c f g u h =
    let t = g u h in let s = f t.0 t.1 in (s.0, s.1, s.2 ∙ t.2, t.3 ∙ s.3)

-- the next submission
pub tries_push : (said : List Message) (sent : List Sent) (s : Submission) → said ≡ [] → s.number ≡ length sent
    → TriesGo said sent (sent ++ unsent s ∷ [])
tries_push said sent s none next t h =
    elim (has_either sent (unsent s ∷ []) t h) [ inl old ↦ inl (t, old, refl, same) | inr new ↦ inr (fresh new) ]
  where
    same : t.tries ≡ t.tries + one_if (has_message t.submission.header.id said)
    same = rw (quiet_none said none t.submission.header.id) (omega arith)

    fresh : Has (unsent s ∷ []) t → (t.tries ≡ 0) × (t.submission.number ≡ length sent) × (said ≡ [])
    fresh (inl e) = (sym (ap (λ (u : Sent). u.tries) e), sym (ap (λ (u : Sent). u.submission.number) e) ∙ next, none)
    fresh (inr nowhere) = absurd nowhere

-- the tests of one number and of one identifier agree
one_test : (sent : List Sent) (s t : Sent) → AreNumberedFrom 0 sent → Has sent s → Has sent t
    → (t.submission.number == s.submission.number) ≡ has_message t.submission.header.id (message_of s.submission ∷ [])
one_test sent s t numbered h k = by_test (bytes_eq s.submission.header.id t.submission.header.id) refl
  where
    or_false : (b : Bool) → (b || false) ≡ b
    or_false true = refl
    or_false false = refl

    same_numbers : (a b : ℕ) → a ≡ b → (a == b) ≡ true
    same_numbers a b e = grind (arith, nat_tests)

    other_numbers : (a b : ℕ) → (a ≡ b → ⊥) → (a == b) ≡ false
    other_numbers a b ne = grind (arith, nat_tests)

    by_test : (b : Bool) → bytes_eq s.submission.header.id t.submission.header.id ≡ b
        → (t.submission.number == s.submission.number) ≡ (bytes_eq s.submission.header.id t.submission.header.id || false)
    by_test true e =
        let same = (bytes_eq-Decides s.submission.header.id t.submission.header.id).0 e in
        same_numbers t.submission.number s.submission.number (sym (one_number s.submission t.submission same))
        ∙ sym (or_false _ ∙ e)
    by_test false e =
        other_numbers t.submission.number s.submission.number
        (λ n. let one : s ≡ t = one_of_number sent s t numbered h k (sym n) in
        let is : bytes_eq s.submission.header.id t.submission.header.id ≡ true =
        (bytes_eq-Decides s.submission.header.id t.submission.header.id).1 (ap (λ (u : Sent). u.submission.header.id) one) in
        let no : false ≡ true = sym e ∙ is in cc)
        ∙ sym (or_false _ ∙ e)

-- one is sent, and so is its message
pub tries_tried : (said : List Message) (sent : List Sent) (s : Sent) (moment : ℕ) → AreNumberedFrom 0 sent → Has sent s
    → said ≡ message_of s.submission ∷ [] → TriesGo said sent (changed s.submission.number (tried moment) sent)
unfolding changed
tries_tried said sent s moment numbered there one t h =
    let change : Sent → Sent = λ u. if u.submission.number == s.submission.number then tried moment u else u in
    let o = has_mapped change sent t h in
    inl (o.0, o.1, sym (same o.0 (o.0.submission.number == s.submission.number)) ∙ ap (λ (u : Sent). u.submission) o.2, counted o.0 o.1 o.2)
  where
    same : (u : Sent) (b : Bool) → (if b then tried moment u else u).submission ≡ u.submission
    same u true = refl
    same u false = refl

    tries : (u : Sent) (b : Bool) → (if b then tried moment u else u).tries ≡ u.tries + one_if b
    tries u true = refl
    tries u false = omega arith

    counted : (u : Sent) → Has sent u → (if u.submission.number == s.submission.number then tried moment u else u) ≡ t
        → t.tries ≡ u.tries + one_if (has_message t.submission.header.id said)
    counted u k e =
        let test : (u.submission.number == s.submission.number) ≡ has_message t.submission.header.id said =
        one_test sent s u numbered there k
        ∙ ap (λ (v : Submission). has_message v.header.id (message_of s.submission ∷ [])) (sym (same u (u.submission.number == s.submission.number)) ∙ ap (λ (v : Sent). v.submission) e)
        ∙ ap (has_message t.submission.header.id) (sym one) in
        sym (ap (λ (v : Sent). v.tries) e) ∙ tries u (u.submission.number == s.submission.number) ∙ ap (λ b. u.tries + one_if b) test

-- the same where one gets another mark first
pub tries_behind : (said : List Message) (sent : List Sent) (number : ℕ) (m : Mark) (new : List Sent)
    → TriesGo said (changed number (marked m) sent) new → TriesGo said sent new
unfolding changed
tries_behind said sent number m new go t h = elim (go t h) [
  | inl s ↦ (let o = stay_marked sent number m s.0 s.1 in
      inl (o.0, o.1, o.2 ∙ s.2, s.3 ∙ ap (λ n. n + one_if (has_message t.submission.header.id said)) o.3))
  | inr fresh ↦ inr (fresh.0, fresh.1 ∙ length-map sent _, fresh.2)
]
