-- An error signal refuses only pending submissions, each once, and each because of a failure about it.
use Rattle.std.proofs.Common.{◌≡◌, ℕ, ◌⊎◌, inl, inr, List, [], ◌∷◌, Bool, true, false, Option, Some, None, refl, sym, ap, ◌∙◌, subst, arith}
use Rattle.std.specs.Prelude.{not, ◌==◌, if◌then◌else◌}
use Rattle.std.specs.List.{filter, filter_map, cons_option}
use Rattle.std.specs.Option.{IfSome, option_and_then, option_or}
use Rattle.std.proofs.lemmas.Bool.Decides.{nat_tests}
use Rattle.std.proofs.lemmas.Option.{same_Some}
use Rattle.as4_values.specs.declared.message.Message.TheVariants as message
use Rattle.as4_values.specs.declared.signal.Signal.{Signal}
use Rattle.as4_values.specs.declared.signal_body.ErrorItem.{ErrorItem}
use Rattle.as4_values.specs.declared.signal_body.Severity.{Severity}
use Rattle.as4_values.specs.declared.signal_body.Severity.TheVariants.{Failure, Warning}
use Rattle.as4_values.specs.declared.signal_body.SignalBody.TheVariants as body
use Rattle.exchange_model.specs.Apply.{is_one}
use Rattle.exchange_model.specs.Numbered.{AreNumberedFrom}
use Rattle.exchange_model.specs.Questions.{is_pending, sent_at, sent_of}
use Rattle.exchange_model.specs.Refusing.{Rejection, refusal_by, refusal_of, refusal_with, once}
use Rattle.exchange_model.specs.declared.sent.Sent.{Sent}
use Rattle.exchange_model.specs.declared.what.What.TheVariants.{Came}
use Rattle.exchange_model.proofs.FoundLemmas.{sent_at_has, sent_of_has}
use Rattle.exchange_model.proofs.ListLemmas.{Has, has_filtered}
use Rattle.exchange_model.proofs.PendingLemmas.{pending_by}
use Rattle.exchange_laws.proofs.SentLemmas.{one_of_number}
use Rattle.exchange_laws.proofs.SentSteps.{Fails}
use Rattle.exchange_laws.proofs.SentChanges.{IsPendingNumber, pending_number}

-- no two refuse the same submission
abbrev pub AreApart : List Rejection → Type 0
AreApart [] = Unit {0}
AreApart (refusal ∷ refusals) = ((later : Rejection) → Has refusals later → later.number ≡ refusal.number → ⊥) × AreApart refusals

-- a refusal of `once` is one of the list
once_has : (refusals : List Rejection) (refusal : Rejection) → Has (once refusals) refusal → Has refusals refusal
unfolding once
once_has [] refusal h = absurd h
once_has (first ∷ refusals) refusal (inl e) = inl e
once_has (first ∷ refusals) refusal (inr h) =
    inr (once_has refusals refusal (has_filtered (λ (later : Rejection). not (later.number == first.number)) (once refusals) refusal h).0)

-- by the result of the first test
filtered_apart : (p : Rejection → Bool) (refusals : List Rejection) → AreApart refusals → AreApart (filter p refusals)
filtered_apart p [] apart = tt
filtered_apart p (refusal ∷ refusals) apart = by_test (p refusal) (filtered_apart p refusals apart.1)
  where
    by_test : (b : Bool) → AreApart (filter p refusals) → AreApart (if b then refusal ∷ filter p refusals else filter p refusals)
    by_test true rest = (λ later h. apart.0 later (has_filtered p refusals later h).0, rest)
    by_test false rest = rest

pub once_apart : (refusals : List Rejection) → AreApart (once refusals)
unfolding once
once_apart [] = tt
once_apart (first ∷ refusals) = (
  λ later h e. differs later (has_filtered (λ (r : Rejection). not (r.number == first.number)) (once refusals) later h).1 e,
  filtered_apart (λ (r : Rejection). not (r.number == first.number)) (once refusals) (once_apart refusals),
)
  where
    differs : (later : Rejection) → not (later.number == first.number) ≡ true → later.number ≡ first.number → ⊥
    differs later test e = grind (arith, nat_tests)

-- each result comes from one of the items
given_by : {X Y : Type 0} (f : X → Option Y) (x : X) (y : Y) (xs : List X) (o : Option Y) → f x ≡ o
    → (Has (filter_map f xs) y → (z : X) × Has xs z × (f z ≡ Some y)) → Has (cons_option o (filter_map f xs)) y
    → (z : X) × Has (x ∷ xs) z × (f z ≡ Some y)
given_by f x y xs None e rest h = let z = rest h in (z.0, inr z.1, z.2)
given_by f x y xs (Some w) e rest (inl same) = (x, inl refl, e ∙ ap Some same)
given_by f x y xs (Some w) e rest (inr h) = let z = rest h in (z.0, inr z.1, z.2)

given : {X Y : Type 0} (f : X → Option Y) (xs : List X) (y : Y) → Has (filter_map f xs) y → (z : X) × Has xs z × (f z ≡ Some y)
given f [] y h = absurd h
given f (x ∷ xs) y h = given_by f x y xs (f x) refl (given f xs y) h

-- where a number finds a pending submission, that number is pending
found_pending : (number : ℕ) (sent : List Sent) (o : Option Sent) → AreNumberedFrom 0 sent → sent_at number sent ≡ o → is_one is_pending o ≡ true
    → IsPendingNumber number sent
found_pending number sent None numbered e pending = absurd cc
found_pending number sent (Some s) numbered e pending =
    let found = sent_at_has number sent s e in
    subst (λ (n : ℕ). IsPendingNumber n sent) found.1 (pending_number sent s numbered found.0 pending)

-- each submission that is refused is pending
pub refusals_pend : (sent : List Sent) (ref_to : Option (List ℕ)) (items : List ErrorItem) → AreNumberedFrom 0 sent
    → (refusal : Rejection) → Has (once (filter_map (refusal_of ref_to sent) items)) refusal → IsPendingNumber refusal.number sent
refusals_pend sent ref_to items numbered refusal h =
    let by = given (refusal_of ref_to sent) items refusal (once_has (filter_map (refusal_of ref_to sent) items) refusal h) in
    let item : ErrorItem = by.0 in
    let pending : is_one is_pending (sent_at refusal.number sent) ≡ true =
    subst (λ o. IfSome o (λ r. is_one is_pending (sent_at r.number sent) ≡ true)) by.2
    (pending_by item.severity item.code (option_or item.about ref_to) sent numbered) in
    found_pending refusal.number sent (sent_at refusal.number sent) numbered refl pending

-- a refusal by an error comes from a failure, about a submission of its number, with its code
record IsAbout (severity : Severity) (code : List ℕ) (about : Option (List ℕ)) (sent : List Sent) (refusal : Rejection) : Type 0 where
  failure : severity ≡ Failure
  one : Sent
  there : Has sent one
  named : about ≡ Some one.submission.header.id
  number : one.submission.number ≡ refusal.number
  told : code ≡ refusal.code

about_by : (severity : Severity) (code : List ℕ) (about : Option (List ℕ)) (sent : List Sent) (refusal : Rejection)
    → refusal_by severity code about sent ≡ Some refusal → IsAbout severity code about sent refusal
about_by Warning code about sent refusal e = absurd cc
about_by Failure code None sent refusal e = absurd cc
about_by Failure code (Some id) sent refusal e = by_found (sent_of id sent) refl e
  where
    by_pending : (s : Sent) → sent_of id sent ≡ Some s → (b : Bool) → (if b then Some (record { number = s.submission.number; code = code }) else None) ≡ Some refusal
        → IsAbout Failure code (Some id) sent refusal
    by_pending s found true f =
        let has = sent_of_has id sent s found in
        let same : record { number = s.submission.number; code = code } ≡ refusal = same_Some _ refusal f in
        record {
          failure = refl;
          one = s;
          there = has.0;
          named = ap Some (sym has.1);
          number = ap (λ (r : Rejection). r.number) same;
          told = ap (λ (r : Rejection). r.code) same;
        }
    by_pending s found false f = absurd cc

    by_found : (o : Option Sent) → sent_of id sent ≡ o → option_and_then (refusal_with code) o ≡ Some refusal
        → IsAbout Failure code (Some id) sent refusal
    by_found None found f = absurd cc
    by_found (Some s) found f = by_pending s found (is_pending s) f

-- so each refused submission is refused by a failure about it
pub refusals_fail : (sent : List Sent) (signal : Signal) (items : List ErrorItem) → AreNumberedFrom 0 sent → signal.body ≡ body.Errors items
    → (refusal : Rejection) → Has (once (filter_map (refusal_of signal.ref_to sent) items)) refusal
    → (s : Sent) → Has sent s → s.submission.number ≡ refusal.number → Fails (Came (message.Signal signal)) s.submission refusal.code
refusals_fail sent signal items numbered errors refusal h s there number =
    let by = given (refusal_of signal.ref_to sent) items refusal (once_has (filter_map (refusal_of signal.ref_to sent) items) refusal h) in
    let item : ErrorItem = by.0 in
    let about = about_by item.severity item.code (option_or item.about signal.ref_to) sent refusal by.2 in
    let same : about.one ≡ s = one_of_number sent about.one s numbered about.there there (about.number ∙ sym number) in
    record {
      signal = signal;
      items = items;
      item = item;
      came = refl;
      errors = errors;
      one = by.1;
      failure = about.failure;
      names = about.named ∙ ap (λ (t : Sent). Some t.submission.header.id) same;
      told = about.told;
    }
