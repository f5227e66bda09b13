-- A failure about a pending submission refuses it.
use Rattle.std.proofs.Common.{◌≡◌, ◌≢◌, ℕ, ◌⊎◌, inl, inr, List, [], ◌∷◌, Bool, true, false, Option, Some, None, map, refl, sym, ap, ◌∙◌, subst}
use Rattle.std.specs.Prelude.{not, ◌==◌, if◌then◌else◌}
use Rattle.std.specs.List.{filter, filter_map, cons_option}
use Rattle.std.specs.Option.{option_and_then, option_or}
use Rattle.std.proofs.lemmas.Bool.{cases_Bool, eq-eqb, eqb-true, ne_eqb}
use Rattle.mode_values.specs.declared.mode.Mode.{Mode}
use Rattle.as4_effects.specs.declared.effect.Effect.{Effect}
use Rattle.as4_effects.specs.declared.effect.Effect.TheVariants as effect
use Rattle.as4_effects.specs.declared.mark.Mark.TheVariants as mark
use Rattle.as4_values.specs.declared.message.Message.TheVariants as message
use Rattle.as4_values.specs.declared.signal.Signal.{Signal}
use Rattle.as4_values.specs.declared.signal_body.ErrorItem.{ErrorItem}
use Rattle.as4_values.specs.declared.signal_body.Severity.{Severity}
use Rattle.as4_values.specs.declared.signal_body.Severity.TheVariants.{Failure}
use Rattle.as4_values.specs.declared.signal_body.SignalBody.{SignalBody}
use Rattle.as4_values.specs.declared.signal_body.SignalBody.TheVariants as body
use Rattle.exchange_model.specs.Apply.{after, after_all, applied, changed, marked}
use Rattle.exchange_model.specs.End.{End}
use Rattle.exchange_model.specs.LosslessRound.{IsFull}
use Rattle.exchange_model.specs.Numbered.{AreNumberedFrom}
use Rattle.exchange_model.specs.Questions.{is_pending, sent_of}
use Rattle.exchange_model.specs.Refusing.{Rejection, once, refusal_by, refusal_of, refusal_with, refusals_of}
use Rattle.exchange_model.specs.Table.{SignalComes, Step}
use Rattle.exchange_model.specs.declared.event.Event.{Event}
use Rattle.exchange_model.specs.declared.outcome.Outcome.{Outcome}
use Rattle.exchange_model.specs.declared.reply.Reply.TheVariants as reply
use Rattle.exchange_model.specs.declared.sent.Sent.{Sent}
use Rattle.exchange_model.specs.declared.what.What.TheVariants as what
use Rattle.exchange_model.proofs.ListLemmas.{Has}
use Rattle.exchange_laws.proofs.EffectLemmas.{longer}
use Rattle.exchange_laws.proofs.ListLemmas.{had_mapped}
use Rattle.exchange_laws.proofs.RefusalLemmas.{AreApart, once_apart, refusals_fail}
use Rattle.exchange_laws.proofs.RoundLemmas.{row_at}
use Rattle.exchange_laws.proofs.SentLemmas.{sent_of_own}
use Rattle.exchange_laws.proofs.SentSteps.{Fails}

-- a failure about it gives its refusal
refused_by : (severity : Severity) (code : List ℕ) (about : Option (List ℕ)) (sent : List Sent) (s : Sent) → severity ≡ Failure
    → about ≡ Some s.submission.header.id → sent_of s.submission.header.id sent ≡ Some s → is_pending s ≡ true
    → refusal_by severity code about sent ≡ Some (record { number = s.submission.number; code = code })
refused_by severity code about sent s fails names found pending =
    ap (λ (v : Severity). refusal_by v code about sent) fails
    ∙ ap (λ (o : Option (List ℕ)). option_and_then (refusal_with code) (option_and_then (λ id. sent_of id sent) o)) names
    ∙ ap (option_and_then (refusal_with code)) found
    ∙ ap (λ (b : Bool). if b then Some (record { number = s.submission.number; code = code }) else None) pending

-- a result for an item is among the results
had_filter_mapped : {X Y : Type 0} (f : X → Option Y) (xs : List X) (x : X) (y : Y) → f x ≡ Some y → Has xs x → Has (filter_map f xs) y
had_filter_mapped {Y = Y} f [] x y e h = absurd h
had_filter_mapped {Y = Y} f (z ∷ xs) x y e (inl same) =
    subst (λ (o : Option Y). Has (cons_option o (filter_map f xs)) y) (sym (ap f same ∙ e)) (inl refl)
had_filter_mapped {Y = Y} f (z ∷ xs) x y e (inr h) = by_result (f z) (had_filter_mapped f xs x y e h)
  where
    by_result : (o : Option Y) → Has (filter_map f xs) y → Has (cons_option o (filter_map f xs)) y
    by_result None rest = rest
    by_result (Some w) rest = inr rest

-- an item that passes is kept
had_filtered : {X : Type 0} (p : X → Bool) (xs : List X) (x : X) → p x ≡ true → Has xs x → Has (filter p xs) x
had_filtered p [] x passes h = absurd h
had_filtered p (y ∷ ys) x passes (inl same) =
    subst (λ (b : Bool). Has (if b then y ∷ filter p ys else filter p ys) x) (sym (ap p same ∙ passes)) (inl same)
had_filtered p (y ∷ ys) x passes (inr h) = by_test (p y) (had_filtered p ys x passes h)
  where
    by_test : (b : Bool) → Has (filter p ys) x → Has (if b then y ∷ filter p ys else filter p ys) x
    by_test true rest = inr rest
    by_test false rest = rest

-- of each number that is refused, one refusal is left
abbrev pub HasNumber : ℕ → List Rejection → Type 0
HasNumber number refusals = (r : Rejection) × Has refusals r × (r.number ≡ number)

once_keeps : (refusals : List Rejection) (r : Rejection) → Has refusals r → HasNumber r.number (once refusals)
unfolding once
once_keeps [] r h = absurd h
once_keeps (first ∷ refusals) r (inl same) = (first, inl refl, ap (λ (x : Rejection). x.number) same)
once_keeps (first ∷ refusals) r (inr h) =
    by_test (once_keeps refusals r h) (cases_Bool (r.number == first.number))
  where
    by_test : HasNumber r.number (once refusals) → ((r.number == first.number) ≡ true) ⊎ ((r.number == first.number) ≡ false)
        → HasNumber r.number (first ∷ filter (λ (later : Rejection). not (later.number == first.number)) (once refusals))
    by_test k (inl e) = (first, inl refl, sym (eqb-true r.number first.number e))
    by_test k (inr e) =
        let passes : not (k.0.number == first.number) ≡ true = ap (λ (n : ℕ). not (n == first.number)) k.2 ∙ ap not e in
        (k.0, inr (had_filtered (λ (later : Rejection). not (later.number == first.number)) (once refusals) k.0 passes k.1), k.2)

-- a change of one number
changed_own : (sent : List Sent) (s : Sent) (number : ℕ) (change : Sent → Sent) → s.submission.number ≡ number → Has sent s
    → Has (changed number change sent) (change s)
unfolding changed
changed_own sent s number change e h =
    subst (Has (changed number change sent)) (ap (λ (b : Bool). if b then change s else s) (eq-eqb s.submission.number number e))
    (had_mapped (λ (t : Sent). if t.submission.number == number then change t else t) sent s h)

changed_other : (sent : List Sent) (s : Sent) (number : ℕ) (change : Sent → Sent) → s.submission.number ≢ number → Has sent s
    → Has (changed number change sent) s
unfolding changed
changed_other sent s number change other h =
    subst (Has (changed number change sent)) (ap (λ (b : Bool). if b then change s else s) (ne_eqb s.submission.number number other))
    (had_mapped (λ (t : Sent). if t.submission.number == number then change t else t) sent s h)

abbrev pub effects_of : List Rejection → List Effect
effects_of refusals = map (λ (r : Rejection). effect.Refused r.number r.code) refusals

-- refusals of other numbers leave it
others_leave : (refusals : List Rejection) (end : End) (s : Sent) → ((r : Rejection) → Has refusals r → r.number ≡ s.submission.number → ⊥)
    → Has end.sent s → Has (after_all (effects_of refusals) end).sent s
unfolding after
others_leave [] end s others h = h
others_leave (r ∷ refusals) end s others h =
    others_leave refusals (after (effect.Refused r.number r.code) end) s (λ x k. others x (inr k))
    (changed_other end.sent s r.number (marked (mark.Refused r.code)) (λ e. others r (inl refl) (sym e)) h)

-- the one of its number refuses it
one_refuses : (refusals : List Rejection) (end : End) (s : Sent) (r : Rejection) → AreApart refusals → Has refusals r
    → r.number ≡ s.submission.number → Has end.sent s
    → Has (after_all (effects_of refusals) end).sent (marked (mark.Refused r.code) s)
unfolding after
one_refuses [] end s r apart there e h = absurd there
one_refuses (first ∷ refusals) end s r apart (inl same) e h =
    others_leave refusals (after (effect.Refused first.number first.code) end) (marked (mark.Refused r.code) s)
    (λ x k n. apart.0 x k (n ∙ sym e ∙ sym (ap (λ (y : Rejection). y.number) same)))
    (subst (λ (code : List ℕ). Has (changed first.number (marked (mark.Refused first.code)) end.sent) (marked (mark.Refused code) s))
    (ap (λ (y : Rejection). y.code) same)
    (changed_own end.sent s first.number (marked (mark.Refused first.code)) (sym e ∙ sym (ap (λ (y : Rejection). y.number) same)) h))
one_refuses (first ∷ refusals) end s r apart (inr there) e h =
    one_refuses refusals (after (effect.Refused first.number first.code) end) s r apart.1 there e
    (changed_other end.sent s first.number (marked (mark.Refused first.code)) (λ n. apart.0 r there (e ∙ n)) h)

-- the submission after the error signal, and the failure
pub record IsRefusedBy (signal : Signal) (s : Sent) (new : End) : Type 0 where
  pub code : List ℕ
  pub there : Has new.sent (marked (mark.Refused code) s)
  pub fails : Fails (what.Came (message.Signal signal)) s.submission code

pub failure_refuses : (modes : List Mode) (end : End) (event : Event) (outcome : Outcome) (s : Sent) (signal : Signal) (items : List ErrorItem)
    (item : ErrorItem) → AreNumberedFrom 0 end.sent → Step modes end event outcome → Has end.sent s → is_pending s ≡ true
    → event.what ≡ what.Came (message.Signal signal) → signal.body ≡ body.Errors items → Has items item → item.severity ≡ Failure
    → option_or item.about signal.ref_to ≡ Some s.submission.header.id → (IsFull outcome.reply → ⊥)
    → IsRefusedBy signal s (applied outcome.effects end)
unfolding refusals_of
failure_refuses modes end event outcome s signal items item numbered step there pending came errors one fails names roomy =
    record {
      code = left.0.code;
      there = subst (λ (sent : List Sent). Has sent (marked (mark.Refused left.0.code) s)) (sym sent)
          (one_refuses refusals end s left.0 (once_apart rejections) left.1 left.2 there);
      fails = refusals_fail end.sent signal items numbered errors left.0 left.1 s there (sym left.2);
    }
  where
    rejections : List Rejection
    rejections = filter_map (refusal_of signal.ref_to end.sent) items

    refusals : List Rejection
    refusals = once rejections

    own : Rejection
    own = record { number = s.submission.number; code = item.code }

    left : HasNumber s.submission.number refusals
    left = once_keeps rejections own (had_filter_mapped (refusal_of signal.ref_to end.sent) items item own
        (refused_by item.severity item.code (option_or item.about signal.ref_to) end.sent s fails names (sent_of_own end.sent s numbered there) pending)
        one)

    row : outcome ≡ record { effects = effects_of refusals; reply = reply.Quiet }
    row = subst (λ (b : SignalBody). SignalComes modes end event signal.id signal.ref_to b outcome) errors
        (row_at modes end event outcome (what.Came (message.Signal signal)) step (inl roomy) came)

    sent : (applied outcome.effects end).sent ≡ (after_all (effects_of refusals) end).sent
    sent = ap (λ (o : Outcome). (applied o.effects end).sent) row ∙ (longer (effects_of refusals) end).sent
