-- How an event changes the submissions of an endpoint.
use Rattle.std.proofs.Common.{◌≡◌, ℕ, ◌+◌, ◌≤◌, ◌⊎◌, inl, inr, List, [], ◌∷◌, ◌++◌, Option, Some, length, map, refl, sym, ap, ◌∙◌, subst, arith}
use Rattle.std.specs.Prelude.{slice_get, false}
use Rattle.std.specs.Option.{option_or}
use Rattle.as4_effects.specs.declared.submission.Submission.{Submission}
use Rattle.as4_values.specs.declared.header.UserHeader.{UserHeader}
use Rattle.as4_values.specs.declared.message.Pair.{Pair}
use Rattle.as4_values.specs.declared.message.Message.TheVariants as message
use Rattle.as4_values.specs.declared.signal.Signal.{Signal}
use Rattle.as4_values.specs.declared.signal_body.ErrorItem.{ErrorItem}
use Rattle.as4_values.specs.declared.signal_body.Severity.TheVariants.{Failure}
use Rattle.as4_values.specs.declared.signal_body.SignalBody.TheVariants as body
use Rattle.exchange_model.specs.Apply.{unsent}
use Rattle.exchange_model.specs.Numbered.{AreNumberedFrom}
use Rattle.exchange_model.specs.Questions.{is_pending}
use Rattle.exchange_model.specs.Table.{IsOther}
use Rattle.as4_effects.specs.declared.mark.Mark.{Mark}
use Rattle.as4_effects.specs.declared.mark.Mark.TheVariants as mark
use Rattle.exchange_model.specs.declared.sent.Sent.{Sent}
use Rattle.exchange_model.specs.declared.what.What.{What}
use Rattle.exchange_model.specs.declared.what.What.TheVariants.{Submit, Tick, Take, Ask, AskWith, Came, Read, Confirm, Status}
use Rattle.exchange_model.proofs.ListLemmas.{Has}
use Rattle.exchange_model.proofs.NumberedLemmas.{numbered_push}
use Rattle.exchange_laws.proofs.ListLemmas.{has_mapped, had_mapped, had_left, has_either, got_left, got_mapped}
use Rattle.exchange_laws.proofs.SentLemmas.{numbered_map}

-- a signal is received alone, or as the receipt of a pair
abbrev pub Brings : What → Signal → Type 0
Brings (Came (message.Signal came)) signal = came ≡ signal
Brings (Came (message.Pair pair)) signal = pair.receipt ≡ signal
Brings other signal = ⊥

pub brings_either : (what : What) (signal : Signal) → Brings what signal
    → (what ≡ Came (message.Signal signal)) ⊎ ((pair : Pair) × (what ≡ Came (message.Pair pair)) × (pair.receipt ≡ signal))
brings_either (Came (message.Signal came)) signal e = inl (ap (λ (s : Signal). Came (message.Signal s)) e)
brings_either (Came (message.Pair pair)) signal e = inr (pair, refl, e)
brings_either (Came (message.User header payloads)) signal h = absurd h
brings_either (Submit mode conversation loads) signal h = absurd h
brings_either Tick signal h = absurd h
brings_either Take signal h = absurd h
brings_either (Ask mode) signal h = absurd h
brings_either (AskWith mode n) signal h = absurd h
brings_either (Read n) signal h = absurd h
brings_either (Confirm upto) signal h = absurd h
brings_either (Status id) signal h = absurd h

-- a receipt for the submission is received, without a copy of another header
pub record Receipts (what : What) (s : Submission) : Type 0 where
  pub signal : Signal
  pub copy : Option UserHeader
  pub came : Brings what signal
  pub receipt : signal.body ≡ body.Receipt copy
  pub names : signal.ref_to ≡ Some s.header.id
  pub same : IsOther copy s.header → ⊥

-- an error signal is received with a failure of this code about the submission
pub record Fails (what : What) (s : Submission) (code : List ℕ) : Type 0 where
  pub signal : Signal
  pub items : List ErrorItem
  pub item : ErrorItem
  pub came : what ≡ Came (message.Signal signal)
  pub errors : signal.body ≡ body.Errors items
  pub one : Has items item
  pub failure : item.severity ≡ Failure
  pub names : option_or item.about signal.ref_to ≡ Some s.header.id
  pub told : item.code ≡ code

-- the cause of a submission's state
abbrev pub Causes : What → Mark → Submission → Type 0
Causes what mark.Pending s = Unit {0}
Causes what mark.Receipted s = Receipts what s
Causes what mark.Failed s = what ≡ Tick
Causes what (mark.Refused code) s = Fails what s code

-- no submission was sent more often than its mode says, and an expired one was sent exactly as often
pub record KeepsTries (s : Sent) : Type 0 where
  pub most : s.tries ≤ s.submission.retries + 1
  pub all : s.mark ≡ mark.Failed → s.tries ≡ s.submission.retries + 1

abbrev pub AllKeepTries : List Sent → Type 0
AllKeepTries sent = (s : Sent) → Has sent s → KeepsTries s

-- the submission at this place later
pub record Stands (new : List Sent) (n : ℕ) (s : Sent) : Type 0 where
  pub later : Sent
  pub there : slice_get new n ≡ Some later
  pub same : later.submission ≡ s.submission
  pub more : s.tries ≤ later.tries

-- from before an event to after it
pub record SentGoes (what : What) (old new : List Sent) : Type 0 where
  pub numbered : AreNumberedFrom 0 new
  pub kept : (s : Sent) → Has old s → (t : Sent) × Has new t × (t.submission ≡ s.submission)
  -- each had this state before, or the event caused it
  pub marked : (t : Sent) → Has new t
      → ((s : Sent) × Has old s × (s.mark ≡ t.mark) × (s.submission ≡ t.submission)) ⊎ Causes what t.mark t.submission
  pub tries : AllKeepTries old → AllKeepTries new
  -- a settled submission doesn't change
  pub settled : (s : Sent) → Has old s → is_pending s ≡ false → Has new s
  pub stands : (n : ℕ) (s : Sent) → slice_get old n ≡ Some s → Stands new n s

-- a submission that is receipted, or refused
pub receipted_by : (what : What) (old new : List Sent) (t : Sent) → SentGoes what old new → Has new t → t.mark ≡ mark.Receipted
    → ((s : Sent) × Has old s × (s.mark ≡ mark.Receipted) × (s.submission ≡ t.submission)) ⊎ Receipts what t.submission
receipted_by what old new t goes h m = elim (goes.marked t h) [
  | inl s ↦ inl (s.0, s.1, s.2 ∙ m, s.3)
  | inr cause ↦ inr (subst (λ (n : Mark). Causes what n t.submission) m cause)
]

pub refused_by : (what : What) (old new : List Sent) (t : Sent) (code : List ℕ) → SentGoes what old new → Has new t → t.mark ≡ mark.Refused code
    → ((s : Sent) × Has old s × (s.mark ≡ mark.Refused code) × (s.submission ≡ t.submission)) ⊎ Fails what t.submission code
refused_by what old new t code goes h m = elim (goes.marked t h) [
  | inl s ↦ inl (s.0, s.1, s.2 ∙ m, s.3)
  | inr cause ↦ inr (subst (λ (n : Mark). Causes what n t.submission) m cause)
]

-- nothing changes
pub sent_stays : (what : What) (sent : List Sent) → AreNumberedFrom 0 sent → SentGoes what sent sent
sent_stays what sent numbered = record {
  numbered = numbered;
  kept = λ s h. (s, h, refl);
  marked = λ t h. inl (t, h, refl, refl);
  tries = λ keep. keep;
  settled = λ s h m. h;
  stands = λ n s at. record { later = s; there = at; same = refl; more = omega arith };
}

pending_new : (s : Submission) (t : Sent) → Has (unsent s ∷ []) t → mark.Pending ≡ t.mark
pending_new s t (inl e) = ap (λ (u : Sent). u.mark) e
pending_new s t (inr none) = absurd none

-- the next submission
pub sent_push : (what : What) (sent : List Sent) (s : Submission) → AreNumberedFrom 0 sent → s.number ≡ length sent
    → SentGoes what sent (sent ++ unsent s ∷ [])
sent_push what sent s numbered e = record {
  numbered = numbered_push sent (unsent s) numbered e;
  kept = λ t h. (t, had_left sent (unsent s ∷ []) t h, refl);
  marked = λ t h. elim (has_either sent (unsent s ∷ []) t h) [ inl old ↦ inl (t, old, refl, refl) | inr new ↦ inr (begins t new) ];
  tries = λ keep t h. elim (has_either sent (unsent s ∷ []) t h) [ inl old ↦ keep t old | inr new ↦ new_keeps t new ];
  settled = λ t h m. had_left sent (unsent s ∷ []) t h;
  stands = λ n t at. record { later = t; there = got_left sent (unsent s ∷ []) n t at; same = refl; more = omega arith };
}
  where
    begins : (t : Sent) → Has (unsent s ∷ []) t → Causes what t.mark t.submission
    begins t new = subst (λ (m : Mark). Causes what m t.submission) (pending_new s t new) tt

    new_keeps : (t : Sent) → Has (unsent s ∷ []) t → KeepsTries t
    new_keeps t (inl e) = subst KeepsTries e (record { most = omega arith; all = λ m. absurd cc })
    new_keeps t (inr none) = absurd none

-- a change of the state of each submission
pub record IsChange (what : What) (sent : List Sent) (f : Sent → Sent) : Type 0 where
  pub same : (s : Sent) → (f s).submission ≡ s.submission
  pub marked : (s : Sent) → Has sent s → (s.mark ≡ (f s).mark) ⊎ Causes what (f s).mark s.submission
  pub tries : (s : Sent) → Has sent s → KeepsTries s → KeepsTries (f s)
  pub settled : (s : Sent) → Has sent s → is_pending s ≡ false → f s ≡ s
  pub more : (s : Sent) → s.tries ≤ (f s).tries

-- each one changed
pub sent_map : (what : What) (sent : List Sent) (f : Sent → Sent) → AreNumberedFrom 0 sent → IsChange what sent f
    → SentGoes what sent (map f sent)
sent_map what sent f numbered c = record {
  numbered = numbered_map 0 f sent c.same numbered;
  kept = λ s h. (f s, had_mapped f sent s h, c.same s);
  marked = λ t h. let o = has_mapped f sent t h in marked_by t o.0 o.1 o.2;
  tries = λ keep t h. let o = has_mapped f sent t h in subst KeepsTries o.2 (c.tries o.0 o.1 (keep o.0 o.1));
  settled = λ s h m. subst (Has (map f sent)) (c.settled s h m) (had_mapped f sent s h);
  stands = λ n s at. record { later = f s; there = got_mapped f sent n s at; same = c.same s; more = c.more s };
}
  where
    marked_by : (t s : Sent) → Has sent s → f s ≡ t
        → ((s : Sent) × Has sent s × (s.mark ≡ t.mark) × (s.submission ≡ t.submission)) ⊎ Causes what t.mark t.submission
    marked_by t s h e =
        let same : s.submission ≡ t.submission = sym (c.same s) ∙ ap (λ (u : Sent). u.submission) e in
        let mark : (f s).mark ≡ t.mark = ap (λ (u : Sent). u.mark) e in
        elim (c.marked s h) [
          | inl old ↦ inl (s, h, old ∙ mark, same)
          | inr cause ↦ inr (subst (λ (m : Mark). Causes what m t.submission) mark (subst (Causes what (f s).mark) same cause))
        ]

-- one after another
pub sent_then : (what : What) (a b c : List Sent) → SentGoes what a b → SentGoes what b c → SentGoes what a c
sent_then what a b c f g = record {
  numbered = g.numbered;
  kept = λ s h. let t = f.kept s h in let u = g.kept t.0 t.1 in (u.0, u.1, u.2 ∙ t.2);
  marked = λ u k. elim (g.marked u k) [ inl t ↦ earlier u t.0 t.1 t.2 t.3 | inr cause ↦ inr cause ];
  tries = λ keep. g.tries (f.tries keep);
  settled = λ s h m. g.settled s (f.settled s h m) m;
  stands = λ n s at. let t = f.stands n s at in let u = g.stands n t.later t.there in
      record { later = u.later; there = u.there; same = u.same ∙ t.same; more = omega (arith, t.more, u.more) };
}
  where
    earlier : (u t : Sent) → Has b t → t.mark ≡ u.mark → t.submission ≡ u.submission
        → ((s : Sent) × Has a s × (s.mark ≡ u.mark) × (s.submission ≡ u.submission)) ⊎ Causes what u.mark u.submission
    earlier u t k m e = elim (f.marked t k) [
      | inl s ↦ inl (s.0, s.1, s.2 ∙ m, s.3 ∙ e)
      | inr cause ↦ inr (subst (λ (n : Mark). Causes what n u.submission) m (subst (Causes what t.mark) e cause))
    ]
