-- How often a submission was sent, counted in acts.
use Rattle.std.proofs.Common.{◌≡◌, ℕ, zero, suc, ◌+◌, ◌<◌, ◌⊎◌, inl, inr, List, [], ◌∷◌, ◌++◌, Bool, true, false, length, map, refl, sym, ap, ◌∙◌, arith}
use Rattle.std.specs.List.{count_by, list_any}
use Rattle.std.proofs.lemmas.List.Sums.{sum_by-cons, sum_by_push}
use Rattle.std.proofs.lemmas.Slice.Eq.{bytes_eq-Decides}
use Rattle.as4_effects.specs.declared.submission.Submission.{Submission}
use Rattle.as4_values.specs.declared.header.UserHeader.{UserHeader}
use Rattle.as4_values.specs.declared.message.Message.{Message}
use Rattle.as4_values.specs.declared.message.Message.TheVariants as message
use Rattle.as4_values.specs.declared.payload.Payload.{Payload}
use Rattle.exchange_model.specs.HandingOut.{is_user_message, hands_out, times_handed_out}
use Rattle.exchange_model.specs.Numbered.{AreNumberedFrom}
use Rattle.exchange_model.specs.World.{Act, sends}
use Rattle.exchange_model.specs.declared.sent.Sent.{Sent}
use Rattle.exchange_model.proofs.ListLemmas.{Has}
use Rattle.exchange_model.proofs.NumberedLemmas.{number_least, one_number}
use Rattle.exchange_laws.proofs.ListLemmas.{has_mapped}
use Rattle.exchange_laws.proofs.InboxLemmas.{Apart, or_either}
use Rattle.exchange_laws.proofs.TriesSteps.{has_message, one_if}

-- a user message that is sent is one of the endpoint's submissions
abbrev pub IsOwn : List Sent → List Message → Type 0
IsOwn sent said = (header : UserHeader) (payloads : List Payload) → Has said (message.User header payloads)
    → (s : Sent) × Has sent s × (s.submission.header ≡ header) × (s.submission.payloads ≡ payloads)

-- one more act
pub times_push : (id : List ℕ) (done : List Act) (act : Act)
    → times_handed_out id (done ++ act ∷ []) ≡ times_handed_out id done + one_if (has_message id (sends act.outcome.reply))
unfolding times_handed_out hands_out
times_push id done act = sum_by_push (λ (a : Act). one_if (has_message id (sends a.outcome.reply))) done act

-- a message of this identifier is among the messages that are sent
said_has : (id : List ℕ) (said : List Message) → has_message id said ≡ true
    → (header : UserHeader) × (payloads : List Payload) × Has said (message.User header payloads) × (header.id ≡ id)
said_has id [] e = absurd cc
said_has id (m ∷ said) e = elim (or_either (is_user_message id m) (has_message id said) e) [
  | inl here ↦ of_message m here
  | inr later ↦ (let h = said_has id said later in (h.0, h.1, inr h.2, h.3))
]
  where
    of_message : (x : Message) → is_user_message id x ≡ true
        → (header : UserHeader) × (payloads : List Payload) × Has (x ∷ said) (message.User header payloads) × (header.id ≡ id)
    of_message (message.User header payloads) here = (header, payloads, inl refl, (bytes_eq-Decides header.id id).0 here)
    of_message (message.Signal signal) here = absurd cc
    of_message (message.Pair pair) here = absurd cc

-- a number is below the count
pub number_below : (n : ℕ) (sent : List Sent) (s : Sent) → AreNumberedFrom n sent → Has sent s → s.submission.number < n + length sent
unfolding AreNumberedFrom
number_below n [] s numbered h = absurd h
number_below n (t ∷ sent) s numbered (inl e) =
    let same : t.submission.number ≡ s.submission.number = ap (λ (u : Sent). u.submission.number) e in
    omega (arith, numbered.0)
number_below n (t ∷ sent) s numbered (inr h) = omega (arith, number_below (suc n) sent s numbered.1 h)

-- other numbers have other identifiers
not_later : (n : ℕ) (u : Submission) (sent : List Sent) → u.number < n → AreNumberedFrom n sent
    → Has (map (λ (s : Sent). s.submission.header.id) sent) u.header.id → ⊥
not_later n u sent less numbered h =
    let o = has_mapped (λ (s : Sent). s.submission.header.id) sent u.header.id h in
    let same : o.0.submission.number ≡ u.number = one_number o.0.submission u o.2 in
    omega (arith, number_least n sent o.0 numbered o.1)

pub ids_apart : (n : ℕ) (sent : List Sent) → AreNumberedFrom n sent → Apart (map (λ (s : Sent). s.submission.header.id) sent)
unfolding AreNumberedFrom
ids_apart n [] numbered = tt
ids_apart n (s ∷ sent) numbered =
    (not_later (suc n) s.submission sent (omega (arith, numbered.0)) numbered.1, ids_apart (suc n) sent numbered.1)

-- a submission that doesn't exist yet was never sent
pub never : (u : Submission) (done : List Act) (sent : List Sent) → AreNumberedFrom 0 sent → u.number ≡ length sent
    → ((act : Act) → Has done act → IsOwn sent (sends act.outcome.reply)) → times_handed_out u.header.id done ≡ 0
unfolding times_handed_out hands_out
never u [] sent numbered next own = refl
never u (act ∷ done) sent numbered next own =
    let rest : times_handed_out u.header.id done ≡ 0 = never u done sent numbered next (λ a h. own a (inr h)) in
    sum_by-cons (λ (a : Act). one_if (has_message u.header.id (sends a.outcome.reply))) act done
    ∙ not_in (has_message u.header.id (sends act.outcome.reply)) refl rest
  where
    not_in : (b : Bool) → has_message u.header.id (sends act.outcome.reply) ≡ b → times_handed_out u.header.id done ≡ 0
        → one_if (has_message u.header.id (sends act.outcome.reply)) + times_handed_out u.header.id done ≡ 0
    not_in true e rest =
        let h = said_has u.header.id (sends act.outcome.reply) e in
        let s = own act (inl refl) h.0 h.1 h.2 in
        let id : s.0.submission.header.id ≡ u.header.id = ap (λ (x : UserHeader). x.id) s.2 ∙ h.3 in
        let same : s.0.submission.number ≡ u.number = one_number s.0.submission u id in
        absurd (omega (arith, number_below 0 sent s.0 numbered s.1))
    not_in false e rest = rw e (omega arith)
