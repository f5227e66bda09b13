-- Replaying a compaction gives the endpoint again, part by part: each part is added to `done`, the items that are there
-- already, and the records make the journal longer.
use Rattle.std.proofs.Common.{◌≡◌, ℕ, zero, suc, ◌+◌, ◌<◌, ◌⊎◌, inl, inr, List, [], ◌∷◌, ◌++◌, Bool, true, false, Option, Some, None, length, map, append_assoc, refl, sym, ap, ◌∙◌, subst, arith}
use Rattle.std.specs.Prelude.{not, nat_lt, if◌then◌else◌}
use Rattle.std.specs.List.{sum_by}
use Rattle.std.proofs.lemmas.Bool.{and_from, eq-eqb}
use Rattle.std.proofs.lemmas.Bool.Decides.{nat_tests}
use Rattle.std.proofs.lemmas.List.{append-nil, length-append, map-append}
use Rattle.std.proofs.lemmas.List.Sums.{sum_by-cons}
use Rattle.as4_effects.specs.declared.carried.Carried.{Carried}
use Rattle.as4_effects.specs.declared.effect.Effect.{Effect}
use Rattle.as4_effects.specs.declared.effect.Effect.TheVariants as effect
use Rattle.as4_effects.specs.declared.mark.Mark.TheVariants as mark
use Rattle.as4_effects.specs.declared.submission.Submission.{Submission}
use Rattle.exchange_model.specs.Apply.{after, applied, are_tries, as_carried, failed_if_spent, is_fit, is_one, marked, record_len}
use Rattle.exchange_model.specs.End.{End}
use Rattle.exchange_model.specs.Fold.{ItemByItem, CarriesOver, KeepsHeader, DeliversAgain, SetsClock}
use Rattle.exchange_model.specs.Numbered.{AreNumberedFrom}
use Rattle.exchange_model.specs.Questions.{is_known, is_spent, sent_of}
use Rattle.exchange_model.specs.declared.inbox_entry.InboxEntry.{InboxEntry}
use Rattle.exchange_model.specs.declared.sent.Sent.{Sent}
use Rattle.exchange_model.proofs.FoundLemmas.{sent_of_has}
use Rattle.exchange_model.proofs.ListLemmas.{Has}
use Rattle.exchange_model.proofs.NumberedLemmas.{one_number}
use Rattle.exchange_laws.proofs.InboxLemmas.{id_of, ids, Apart, known_has}
use Rattle.exchange_laws.proofs.ListLemmas.{had_right, has_either}
use Rattle.fold_laws.specs.Reached.{AreReplayed}
use Rattle.fold_laws.proofs.OneFold.{carries, delivers, keeps}

-- one sequence after another
pub replayed_then : (effects more : List Effect) (start mid end : End) → AreReplayed effects start mid → AreReplayed more mid end
    → AreReplayed (effects ++ more) start end
replayed_then [] more start mid end first second = subst (λ (e : End). AreReplayed more e end) (sym first) second
replayed_then (e ∷ effects) more start mid end first second =
    (first.0, replayed_then effects more (applied (e ∷ []) start) mid end first.1 second)

-- the number of bytes of the effects' records, each effect in its own
abbrev pub bytes_of : List Effect → ℕ
bytes_of effects = sum_by (λ (e : Effect). record_len (e ∷ [])) effects

-- those of the first effect and of the later ones
bytes_first : (e x : Effect) (effects : List Effect) (size : ℕ) → e ≡ x
    → size + record_len (x ∷ []) + bytes_of effects ≡ size + bytes_of (e ∷ effects)
bytes_first e x effects size same =
    let sum : bytes_of (e ∷ effects) ≡ record_len (e ∷ []) + bytes_of effects = sum_by-cons (λ (y : Effect). record_len (y ∷ [])) e effects in
    let bytes : record_len (e ∷ []) ≡ record_len (x ∷ []) = ap (λ (y : Effect). record_len (y ∷ [])) same in
    omega (arith, sum, bytes)

-- an effect and the later ones
replayed_first : (e x : Effect) (effects : List Effect) (start end other : End) → e ≡ x → is_fit x start ≡ true
    → AreReplayed effects (applied (x ∷ []) start) end → end ≡ other → AreReplayed (e ∷ effects) start other
replayed_first e x effects start end other same fits behind is =
    subst (λ (y : Effect). AreReplayed (y ∷ effects) start other) (sym same) (fits, subst (AreReplayed effects (applied (x ∷ []) start)) is behind)

-- an endpoint, from its parts
abbrev pub end_of : List Sent → List InboxEntry → ℕ → ℕ → ℕ → End
end_of sent inbox confirmed moment size =
    record { sent = sent; inbox = inbox; confirmed = confirmed; moment = moment; size = size }

-- the submissions before a number
abbrev pub AreBelow : ℕ → List Sent → Type 0
AreBelow n sent = (s : Sent) → Has sent s → s.submission.number < n

-- no submission before its number has its identifier
none_known : (sent : List Sent) (s : Submission) → AreBelow s.number sent → not (is_one (λ t. true) (sent_of s.header.id sent)) ≡ true
none_known sent s below = by_found (sent_of s.header.id sent) refl
  where
    by_found : (o : Option Sent) → sent_of s.header.id sent ≡ o → not (is_one (λ t. true) o) ≡ true
    by_found None e = refl
    by_found (Some t) e =
        let found = sent_of_has s.header.id sent t e in
        let less : t.submission.number < s.number = below t found.0 in
        let same : t.submission.number ≡ s.number = one_number t.submission s found.1 in
        absurd (omega (arith, less, same))

-- one more
below_push : (sent : List Sent) (s : Sent) → s.submission.number ≡ length sent → AreBelow (length sent) sent
    → AreBelow (length (sent ++ s ∷ [])) (sent ++ s ∷ [])
below_push sent s number below t h = either (has_either sent (s ∷ []) t h)
  where
    longer : length (sent ++ s ∷ []) ≡ length sent + 1
    longer = length-append sent (s ∷ [])

    either : Has sent t ⊎ Has (s ∷ []) t → t.submission.number < length (sent ++ s ∷ [])
    either (inl old) = let less = below t old in omega (arith, longer, less)
    either (inr (inl e)) = let same : s.submission.number ≡ t.submission.number = ap (λ (u : Sent). u.submission.number) e in omega (arith, longer, number, same)
    either (inr (inr none)) = absurd none

-- the next submission after those that are there
fits_carried : (c : Carried) (done : List Sent) (size : ℕ) → c.submission.number ≡ length done → AreBelow (length done) done
    → are_tries (as_carried c) ≡ true → is_fit (effect.Carried c) (end_of done [] 0 0 size) ≡ true
unfolding is_fit
fits_carried c done size number below tries =
    and_from _ _ refl (and_from _ _ (and_from _ _ (eq-eqb c.submission.number (length done) number)
    (none_known done c.submission (subst (λ n. AreBelow n done) (sym number) below))) tries)

-- the submissions with their states
pub replay_carried : (rest : List Sent) (effects : List Effect) (done : List Sent) (size : ℕ) → ItemByItem CarriesOver rest effects
    → AreNumberedFrom (length done) rest → AreBelow (length done) done → ((s : Sent) → Has rest s → are_tries s ≡ true)
    → AreReplayed effects (end_of done [] 0 0 size) (end_of (done ++ rest) [] 0 0 (size + bytes_of effects))
unfolding AreNumberedFrom after applied
replay_carried [] [] done size is numbered below tries =
    let same : done ≡ done ++ [] = sym (append-nil done) in
    let bytes : size ≡ size + 0 = omega arith in
    λ i. end_of (same i) [] 0 0 (bytes i)
replay_carried [] (e ∷ effects) done size is numbered below tries = absurd is
replay_carried (s ∷ rest) [] done size is numbered below tries = absurd is
replay_carried (s ∷ rest) (e ∷ effects) done size is numbered below tries =
    let h = carries s e is.0 in
    let x : Sent = as_carried h.0 in
    let number : x.submission.number ≡ length done = ap (λ (u : Sent). u.submission.number) h.2 ∙ numbered.0 in
    let more : length (done ++ x ∷ []) ≡ length done + 1 = length-append done (x ∷ []) in
    let longer : suc (length done) ≡ length (done ++ x ∷ []) = omega (arith, more) in
    let there : (done ++ x ∷ []) ++ rest ≡ done ++ s ∷ rest = append_assoc done (x ∷ []) rest ∙ ap (λ t. done ++ t ∷ rest) h.2 in
    let bytes = bytes_first e (effect.Carried h.0) effects size h.1 in
    replayed_first e (effect.Carried h.0) effects (end_of done [] 0 0 size) _ _ h.1
    (fits_carried h.0 done size number below (ap are_tries h.2 ∙ tries s (inl refl)))
    (replay_carried rest effects (done ++ x ∷ []) (size + record_len (effect.Carried h.0 ∷ [])) is.1
    (subst (λ n. AreNumberedFrom n rest) longer numbered.1) (below_push done x number below) (λ t k. tries t (inr k)))
    (λ i. end_of (there i) [] 0 0 (bytes i))

-- the next entry has an identifier that none of the earlier ones has
apart_new : (xs ys : List (List ℕ)) (x : List ℕ) → Apart (xs ++ x ∷ ys) → Has xs x → ⊥
apart_new [] ys x apart h = h
apart_new (z ∷ xs) ys x apart (inl e) = apart.0 (subst (Has (xs ++ x ∷ ys)) (sym e) (had_right xs (x ∷ ys) x (inl refl)))
apart_new (z ∷ xs) ys x apart (inr h) = apart_new xs ys x apart.1 h

-- so it isn't known yet
is_new : (done rest : List InboxEntry) (entry : InboxEntry) → Apart (ids (done ++ entry ∷ rest)) → not (is_known entry.header.id done) ≡ true
is_new done rest entry apart = by_test (is_known entry.header.id done) refl
  where
    by_test : (b : Bool) → is_known entry.header.id done ≡ b → not b ≡ true
    by_test false e = refl
    by_test true e =
        absurd (apart_new (ids done) (ids rest) entry.header.id (subst Apart (map-append id_of done (entry ∷ rest)) apart) (known_has entry.header.id done e))

-- the headers of confirmed entries
pub replay_kept : (rest : List InboxEntry) (effects : List Effect) (sent : List Sent) (done : List InboxEntry) (confirmed size : ℕ)
    → ItemByItem KeepsHeader rest effects → confirmed ≡ length done → Apart (ids (done ++ rest))
    → ((entry : InboxEntry) → Has rest entry → entry.payloads ≡ [])
    → AreReplayed effects (end_of sent done confirmed 0 size) (end_of sent (done ++ rest) (confirmed + length rest) 0 (size + bytes_of effects))
unfolding after applied is_fit
replay_kept [] [] sent done confirmed size is whole apart empty =
    let same : done ≡ done ++ [] = sym (append-nil done) in
    let count : confirmed ≡ confirmed + 0 = omega arith in
    let bytes : size ≡ size + 0 = omega arith in
    λ i. end_of sent (same i) (count i) 0 (bytes i)
replay_kept [] (e ∷ effects) sent done confirmed size is whole apart empty = absurd is
replay_kept (entry ∷ rest) [] sent done confirmed size is whole apart empty = absurd is
replay_kept (entry ∷ rest) (e ∷ effects) sent done confirmed size is whole apart empty =
    let h = keeps entry e is.0 in
    let x : InboxEntry = record { header = h.0.header; payloads = [] } in
    let header : x.header ≡ entry.header = h.2 in
    let payloads : x.payloads ≡ entry.payloads = sym (empty entry (inl refl)) in
    let same : x ≡ entry = λ i. record { header = header i; payloads = payloads i } in
    let there : (done ++ x ∷ []) ++ rest ≡ done ++ entry ∷ rest = append_assoc done (x ∷ []) rest ∙ ap (λ t. done ++ t ∷ rest) same in
    let more : length (done ++ x ∷ []) ≡ length done + 1 = length-append done (x ∷ []) in
    let count : confirmed + 1 + length rest ≡ confirmed + length (entry ∷ rest) = omega arith in
    let bytes = bytes_first e (effect.Kept h.0) effects size h.1 in
    replayed_first e (effect.Kept h.0) effects (end_of sent done confirmed 0 size) _ _ h.1
    (and_from _ _ (is_new done rest x (subst (λ t. Apart (ids (done ++ t ∷ rest))) (sym same) apart)) (eq-eqb confirmed (length done) whole))
    (replay_kept rest effects sent (done ++ x ∷ []) (confirmed + 1) (size + record_len (effect.Kept h.0 ∷ [])) is.1 (omega (arith, whole, more))
    (subst (λ t. Apart (ids t)) (sym there) apart) (λ t k. empty t (inr k)))
    (λ i. end_of sent (there i) (count i) 0 (bytes i))

-- the entries that wait for their consumer
pub replay_delivered : (rest : List InboxEntry) (effects : List Effect) (sent : List Sent) (done : List InboxEntry) (confirmed size : ℕ)
    → ItemByItem DeliversAgain rest effects → Apart (ids (done ++ rest))
    → AreReplayed effects (end_of sent done confirmed 0 size) (end_of sent (done ++ rest) confirmed 0 (size + bytes_of effects))
unfolding after applied is_fit
replay_delivered [] [] sent done confirmed size is apart =
    let same : done ≡ done ++ [] = sym (append-nil done) in
    let bytes : size ≡ size + 0 = omega arith in
    λ i. end_of sent (same i) confirmed 0 (bytes i)
replay_delivered [] (e ∷ effects) sent done confirmed size is apart = absurd is
replay_delivered (entry ∷ rest) [] sent done confirmed size is apart = absurd is
replay_delivered (entry ∷ rest) (e ∷ effects) sent done confirmed size is apart =
    let h = delivers entry e is.0 in
    let x : InboxEntry = record { header = h.0.header; payloads = h.0.payloads } in
    let header : x.header ≡ entry.header = h.2 in
    let payloads : x.payloads ≡ entry.payloads = h.3 in
    let same : x ≡ entry = λ i. record { header = header i; payloads = payloads i } in
    let there : (done ++ x ∷ []) ++ rest ≡ done ++ entry ∷ rest = append_assoc done (x ∷ []) rest ∙ ap (λ t. done ++ t ∷ rest) same in
    let bytes = bytes_first e (effect.Delivered h.0) effects size h.1 in
    replayed_first e (effect.Delivered h.0) effects (end_of sent done confirmed 0 size) _ _ h.1
    (is_new done rest x (subst (λ t. Apart (ids (done ++ t ∷ rest))) (sym same) apart))
    (replay_delivered rest effects sent (done ++ x ∷ []) confirmed (size + record_len (effect.Delivered h.0 ∷ [])) is.1
    (subst (λ t. Apart (ids t)) (sym there) apart))
    (λ i. end_of sent (there i) confirmed 0 (bytes i))

-- where none is spent, the clock lets none expire
none_fails : (moment : ℕ) (sent : List Sent) → ((s : Sent) → Has sent s → is_spent moment s ≡ false) → map (failed_if_spent moment) sent ≡ sent
none_fails moment [] none = refl
none_fails moment (s ∷ sent) none =
    let first : failed_if_spent moment s ≡ s = by_test (is_spent moment s) (none s (inl refl)) in
    let rest = none_fails moment sent (λ t h. none t (inr h)) in
    λ i. first i ∷ rest i
  where
    by_test : (b : Bool) → b ≡ false → (if b then marked mark.Failed s else s) ≡ s
    by_test false e = refl
    by_test true e = absurd cc

-- the clock
pub replay_clock : (moment : ℕ) (effects : List Effect) (sent : List Sent) (inbox : List InboxEntry) (confirmed size : ℕ) → SetsClock moment effects
    → ((s : Sent) → Has sent s → is_spent moment s ≡ false)
    → AreReplayed effects (end_of sent inbox confirmed 0 size) (end_of sent inbox confirmed moment (size + bytes_of effects))
unfolding after applied is_fit
replay_clock zero effects sent inbox confirmed size is none =
    let bytes : size ≡ size + 0 = omega arith in
    subst (λ (x : List Effect). AreReplayed x (end_of sent inbox confirmed 0 size) (end_of sent inbox confirmed 0 (size + bytes_of x))) (sym is)
    (λ i. end_of sent inbox confirmed 0 (bytes i))
replay_clock (suc moment) effects sent inbox confirmed size is none =
    let tick = is.0 in
    let later : nat_lt 0 tick.moment ≡ true = let moment_is = is.1 in grind (arith, nat_tests) in
    let same : map (failed_if_spent tick.moment) sent ≡ sent =
    none_fails tick.moment sent (λ s h. subst (λ m. is_spent m s ≡ false) (sym is.1) (none s h)) in
    let bytes : size + record_len (effect.Ticked tick ∷ []) ≡ size + bytes_of (effect.Ticked tick ∷ []) = omega arith in
    subst (λ (x : List Effect). AreReplayed x (end_of sent inbox confirmed 0 size) (end_of sent inbox confirmed (suc moment) (size + bytes_of x))) (sym is.2)
    (later, λ i. end_of (same i) inbox confirmed (is.1 i) (bytes i))
