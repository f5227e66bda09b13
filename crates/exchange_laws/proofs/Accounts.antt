-- The acts at an endpoint account for its state.
use Rattle.std.proofs.Common.{◌≡◌, ℕ, zero, suc, ◌+◌, ◌<◌, ◌≤◌, ◌⊎◌, inl, inr, List, [], ◌∷◌, ◌++◌, Bool, true, false, Some, length, length-append, append_assoc, refl, sym, ap, ◌∙◌, subst, arith}
use Rattle.std.specs.Prelude.{IsTrue, nat_le, slice_get}
use Rattle.std.specs.List.{count_by, sum_by}
use Rattle.std.proofs.lemmas.Bool.{cases_lt}
use Rattle.std.proofs.lemmas.Bool.Decides.{nat_tests}
use Rattle.std.proofs.lemmas.List.{append-nil, length-map}
use Rattle.std.proofs.lemmas.List.Sums.{sum_by_push}
use Rattle.as4_effects.specs.declared.effect.Effect.{Effect}
use Rattle.as4_effects.specs.declared.effect.Effect.TheVariants as effect
use Rattle.as4_effects.specs.declared.submission.Submission.{Submission}
use Rattle.as4_values.specs.declared.header.UserHeader.{UserHeader}
use Rattle.as4_values.specs.declared.message.Message.TheVariants as message
use Rattle.as4_values.specs.declared.message.Pair.{Pair}
use Rattle.mode_values.specs.declared.mode.Mode.{Mode}
use Rattle.as4_values.specs.declared.payload.Payload.{Payload}
use Rattle.exchange_model.specs.Alone.{MayHappenTo, end_after, is_submitted, size_after, written}
use Rattle.exchange_model.specs.Apply.{after, applied, emptied, unsent}
use Rattle.exchange_model.specs.Causes.{HandsIn, TakesOver}
use Rattle.exchange_model.specs.End.{End, empty_end}
use Rattle.exchange_model.specs.Fold.{resized}
use Rattle.exchange_model.specs.HandingOut.{times_handed_out}
use Rattle.exchange_model.specs.LosslessRound.{IsFull}
use Rattle.exchange_model.specs.Numbered.{AreNumberedFrom}
use Rattle.exchange_model.specs.Table.{Ticks, Step, names_channel}
use Rattle.exchange_model.specs.World.{Act, Happening, Does, Folds, acts_of, sends}
use Rattle.exchange_model.specs.declared.event.Event.{Event}
use Rattle.exchange_model.specs.declared.inbox_entry.InboxEntry.{InboxEntry}
use Rattle.exchange_model.specs.declared.outcome.Outcome.{Outcome}
use Rattle.exchange_model.specs.declared.reply.Reply.{Reply}
use Rattle.exchange_model.specs.declared.reply.Reply.TheVariants as reply
use Rattle.as4_effects.specs.declared.mark.Mark.TheVariants as mark
use Rattle.exchange_model.specs.declared.sent.Sent.{Sent}
use Rattle.exchange_model.specs.declared.what.What.{What}
use Rattle.exchange_model.specs.declared.what.What.TheVariants as what
use Rattle.exchange_model.proofs.ListLemmas.{Has}
use Rattle.exchange_model.proofs.NumberedLemmas.{none_numbered, place}
use Rattle.exchange_laws.proofs.ListLemmas.{has_either, had_left, got_last}
use Rattle.exchange_laws.proofs.InboxLemmas.{ids, Apart}
use Rattle.exchange_laws.proofs.SentSteps.{Receipts, Fails, AllKeepTries, receipted_by, refused_by}
use Rattle.exchange_laws.proofs.SettleLemmas.{receipted_applied, step_named}
use Rattle.exchange_laws.proofs.EndSteps.{EndGoes, by_bool}
use Rattle.exchange_laws.proofs.RoundLemmas.{row_at}
use Rattle.exchange_laws.proofs.StepLemmas.{step_goes}
use Rattle.exchange_laws.proofs.OutcomeKinds.{IsPlain, IsPlainReply, AreMade, Submitting, Setting, Confirming, Kind, kind_made, step_kind}
use Rattle.exchange_laws.proofs.EffectLemmas.{NoneSpent, longer, none_applied, plain_applied, size_applied}
use Rattle.exchange_laws.proofs.TriesSteps.{has_message, one_if, quiet_none}
use Rattle.exchange_laws.proofs.TimesLemmas.{IsOwn, never, number_below, times_push}

-- some act has it
abbrev pub SomeAct : List Act → (Act → Type 0) → Type 0
SomeAct done P = (act : Act) × Has done act × P act

-- in the act a receipt for the submission was received, alone or in a pair for a channel of the modes, and settled it
pub record IsSettledBy (u : Submission) (act : Act) : Type 0 where
  pub brings : Receipts act.event.what u
  pub named : (pair : Pair) → act.event.what ≡ what.Came (message.Pair pair) → IsTrue (names_channel act.modes pair.pull.body)
  pub settles : Has act.outcome.effects (effect.Receipted u.number)

-- of the submissions
pub record AreCounted (done : List Act) (end : End) : Type 0 where
  pub numbered : AreNumberedFrom 0 end.sent
  pub kept : AllKeepTries end.sent
  pub own : (act : Act) → Has done act → IsOwn end.sent (sends act.outcome.reply)
  pub tries : (s : Sent) → Has end.sent s → times_handed_out s.submission.header.id done ≡ s.tries

-- of their states
pub record AreSettled (done : List Act) (end : End) : Type 0 where
  pub receipted : (s : Sent) → Has end.sent s → s.mark ≡ mark.Receipted → SomeAct done (IsSettledBy s.submission)
  pub refused : (s : Sent) (code : List ℕ) → Has end.sent s → s.mark ≡ mark.Refused code
      → SomeAct done (λ act. Fails act.event.what s.submission code)
  pub spent : NoneSpent end

-- of the accepted submissions and the confirmed entries
pub record AreTaken (done : List Act) (end : End) : Type 0 where
  pub handed_in : (s : Sent) → Has end.sent s → SomeAct done (HandsIn s.submission)
  pub taken_in : (act : Act) (number : ℕ) (id : List ℕ) → Has done act → act.outcome.reply ≡ reply.Submitted number id
      → (s : Sent) × (slice_get end.sent number ≡ Some s) × HandsIn s.submission act
  pub counted : length end.sent ≡ count_by (λ (act : Act). is_submitted act.outcome.reply) done
  pub came : end.confirmed ≤ length end.inbox
  pub taken_over : (n : ℕ) → n < end.confirmed → SomeAct done (TakesOver n)

-- of one endpoint alone
pub record AreAccounted (done : List Act) (end : End) : Type 0 where
  pub counted : AreCounted done end
  pub settled : AreSettled done end
  pub taken : AreTaken done end
  pub apart : Apart (ids end.inbox)
  pub clock : (act : Act) → Has done act → act.event.what ≡ what.Tick → (IsFull act.outcome.reply → ⊥) → act.event.stamp ≤ end.moment

-- an earlier act remains an act
still : (done : List Act) (act : Act) (P : Act → Type 0) → SomeAct done P → SomeAct (done ++ act ∷ []) P
still done act P h = (h.0, had_left done (act ∷ []) h.0 h.1, h.2)

now_done : (done : List Act) (act : Act) → Has (done ++ act ∷ []) act
now_done [] act = inl refl
now_done (a ∷ done) act = inr (now_done done act)

-- what holds of the acts before and of this one holds of all
each_done : (done : List Act) (act : Act) (P : Act → Type 0) → ((a : Act) → Has done a → P a) → P act → (a : Act) → Has (done ++ act ∷ []) a → P a
each_done done act P old this a h = elim (has_either done (act ∷ []) a h) [ inl before ↦ old a before | inr now ↦ only now ]
  where
    only : Has (act ∷ []) a → P a
    only (inl e) = subst P e this
    only (inr none) = absurd none

counted_act : (done : List Act) (act : Act) (end new : End) → AreCounted done end → EndGoes act.event.what act.outcome.reply end new
    → AreCounted (done ++ act ∷ []) new
counted_act done act end new counted goes = record {
  numbered = goes.sent.numbered;
  kept = goes.sent.tries counted.kept;
  own = each_done done act (λ (a : Act). IsOwn new.sent (sends a.outcome.reply)) later (λ header payloads said. goes.says (message.User header payloads) said);
  tries = λ t h. times_push t.submission.header.id done act ∙ by_origin t (goes.tries t h);
}
  where
    later : (a : Act) → Has done a → IsOwn new.sent (sends a.outcome.reply)
    later a old header payloads said =
        let s = counted.own a old header payloads said in
        let t = goes.sent.kept s.0 s.1 in
        (t.0, t.1, ap (λ (u : Submission). u.header) t.2 ∙ s.2, ap (λ (u : Submission). u.payloads) t.2 ∙ s.3)

    by_origin : (t : Sent)
        → ((s : Sent) × Has end.sent s × (s.submission ≡ t.submission) × (t.tries ≡ s.tries + one_if (has_message t.submission.header.id (sends act.outcome.reply))))
        ⊎ ((t.tries ≡ 0) × (t.submission.number ≡ length end.sent) × (sends act.outcome.reply ≡ []))
        → times_handed_out t.submission.header.id done + one_if (has_message t.submission.header.id (sends act.outcome.reply)) ≡ t.tries
    by_origin t (inl s) =
        let before : times_handed_out t.submission.header.id done ≡ s.0.tries =
        ap (λ (u : Submission). times_handed_out u.header.id done) (sym s.2) ∙ counted.tries s.0 s.1 in
        ap (λ n. n + one_if (has_message t.submission.header.id (sends act.outcome.reply))) before ∙ sym s.3
    by_origin t (inr new) =
        let before : times_handed_out t.submission.header.id done ≡ 0 = never t.submission done end.sent counted.numbered new.1 counted.own in
        let now : one_if (has_message t.submission.header.id (sends act.outcome.reply)) ≡ 0 =
        ap one_if (quiet_none (sends act.outcome.reply) new.2 t.submission.header.id) in
        omega (arith, new.0)

settled_act : (done : List Act) (act : Act) (end : End) → AreNumberedFrom 0 end.sent → AreSettled done end
    → Step act.modes end act.event act.outcome → AreMade act.outcome.effects → EndGoes act.event.what act.outcome.reply end (applied act.outcome.effects end)
    → AreSettled (done ++ act ∷ []) (applied act.outcome.effects end)
settled_act done act end numbered settled step made goes = record {
  receipted = λ t h m. elim (receipted_by act.event.what end.sent new.sent t goes.sent h m) [
    | inl s ↦ still done act (IsSettledBy t.submission) (subst (λ (u : Submission). SomeAct done (IsSettledBy u)) s.3 (settled.receipted s.0 s.1 s.2))
    | inr r ↦ brought t h m r
  ];
  refused = λ t code h m. elim (refused_by act.event.what end.sent new.sent t code goes.sent h m) [
    | inl s ↦ still done act (λ a. Fails a.event.what t.submission code)
        (subst (λ (u : Submission). SomeAct done (λ a. Fails a.event.what u code)) s.3 (settled.refused s.0 code s.1 s.2))
    | inr f ↦ (act, now_done done act, f)
  ];
  spent = none_applied act.outcome.effects end made settled.spent;
}
  where
    new : End
    new = applied act.outcome.effects end

    brought : (t : Sent) → Has (applied act.outcome.effects end).sent t → t.mark ≡ mark.Receipted
        → Receipts act.event.what t.submission → SomeAct (done ++ act ∷ []) (IsSettledBy t.submission)
    brought t there m r = elim (receipted_applied act.outcome.effects end t made there m) [
      | inl s ↦ still done act (IsSettledBy t.submission)
          (subst (λ (u : Submission). SomeAct done (IsSettledBy u)) s.same (settled.receipted s.one s.there s.mark))
      | inr has ↦ (
        act,
        now_done done act,
        record { brings = r; named = step_named act.modes end act.event act.outcome _ step has; settles = has },
      )
    ]

-- an inbox doesn't get shorter
got_below : {X : Type 0} (xs : List X) (n : ℕ) → n < length xs → (x : X) × (slice_get xs n ≡ Some x)
got_below [] n less = absurd (omega arith)
got_below (x ∷ xs) zero less = (x, refl)
got_below (x ∷ xs) (suc n) less = got_below xs n (omega arith)

below_got : {X : Type 0} (xs : List X) (n : ℕ) (x : X) → slice_get xs n ≡ Some x → n < length xs
below_got [] n x e = absurd cc
below_got (y ∷ xs) zero x e = omega arith
below_got (y ∷ xs) (suc n) x e = omega (arith, below_got xs n x e)

still_below : (act : Act) (end new : End) (n : ℕ) → EndGoes act.event.what act.outcome.reply end new → n < length end.inbox → n < length new.inbox
still_below act end new n goes less =
    let e = got_below end.inbox n less in
    let later = goes.inbox.stays n e.0 e.1 in
    below_got new.inbox n later.later later.there

no_longer : (act : Act) (end new : End) → EndGoes act.event.what act.outcome.reply end new → length end.inbox ≤ length new.inbox
no_longer act end new goes = by_length (length end.inbox) refl
  where
    by_length : (n : ℕ) → length end.inbox ≡ n → length end.inbox ≤ length new.inbox
    by_length zero e = omega (arith, e)
    by_length (suc n) e = omega (arith, e, still_below act end new n goes (omega (arith, e)))

counts_one : (done : List Act) (act : Act) (b : Bool) → is_submitted act.outcome.reply ≡ b
    → count_by (λ (a : Act). is_submitted a.outcome.reply) (done ++ act ∷ []) ≡ count_by (λ (a : Act). is_submitted a.outcome.reply) done + one_if b
counts_one done act b e = sum_by_push (λ (a : Act). one_if (is_submitted a.outcome.reply)) done act
    ∙ ap (λ (c : Bool). count_by (λ (a : Act). is_submitted a.outcome.reply) done + one_if c) e

not_submitted : (r : Reply) → IsPlainReply r → is_submitted r ≡ false
not_submitted (reply.Submitted number id) plain = absurd plain
not_submitted reply.NoMode plain = refl
not_submitted reply.OutboxFull plain = refl
not_submitted reply.TooLarge plain = refl
not_submitted (reply.Ticked failed) plain = refl
not_submitted (reply.Push address m) plain = refl
not_submitted reply.Nothing plain = refl
not_submitted (reply.Request address m) plain = refl
not_submitted (reply.Answer m) plain = refl
not_submitted reply.Quiet plain = refl
not_submitted (reply.Entry header payloads) plain = refl
not_submitted reply.NoEntry plain = refl
not_submitted reply.Gone plain = refl
not_submitted (reply.Confirmed upto) plain = absurd plain
not_submitted (reply.Pending tries) plain = refl
not_submitted reply.Receipted plain = refl
not_submitted reply.Failed plain = refl
not_submitted (reply.RefusedWith code) plain = refl
not_submitted reply.Unknown plain = refl
not_submitted (reply.Full size need) plain = refl
not_submitted (reply.Stopped before after) plain = refl

-- a submission that existed before
record StoodBefore (old : List Sent) (t : Sent) : Type 0 where
  one : Sent
  there : Has old one
  same : one.submission ≡ t.submission

-- where the count doesn't change, each submission existed before
stood : (act : Act) (end new : End) (t : Sent) → AreNumberedFrom 0 end.sent → EndGoes act.event.what act.outcome.reply end new
    → length new.sent ≡ length end.sent → Has new.sent t → StoodBefore end.sent t
stood act end new t numbered goes count h = elim (goes.tries t h) [
  | inl s ↦ record { one = s.0; there = s.1; same = s.2 }
  | inr next ↦ absurd (omega (arith, next.1, number_below 0 new.sent t goes.sent.numbered h))
]

-- where nothing is submitted, the earlier submissions remain
taken_before : (done : List Act) (act : Act) (end new : End) → AreTaken done end → EndGoes act.event.what act.outcome.reply end new
    → (a : Act) (number : ℕ) (id : List ℕ) → Has done a → a.outcome.reply ≡ reply.Submitted number id
    → (s : Sent) × (slice_get new.sent number ≡ Some s) × HandsIn s.submission a
taken_before done act end new taken goes a number id h e =
    let s = taken.taken_in a number id h e in
    let t = goes.sent.stands number s.0 s.1 in
    (t.later, t.there, subst (λ (u : Submission). HandsIn u a) (sym t.same) s.2)

-- where the number of submissions doesn't change
rests_taken : (done : List Act) (act : Act) (end new : End) → AreNumberedFrom 0 end.sent → AreTaken done end
    → EndGoes act.event.what act.outcome.reply end new → length new.sent ≡ length end.sent → is_submitted act.outcome.reply ≡ false
    → new.confirmed ≤ length new.inbox → ((n : ℕ) → n < new.confirmed → SomeAct (done ++ act ∷ []) (TakesOver n))
    → AreTaken (done ++ act ∷ []) new
rests_taken done act end new numbered taken goes count other came over = record {
  handed_in = λ t h. let s = stood act end new t numbered goes count h in
      still done act (HandsIn t.submission) (subst (λ (u : Submission). SomeAct done (HandsIn u)) s.same (taken.handed_in s.one s.there));
  taken_in = λ a number id h e. elim (has_either done (act ∷ []) a h) [
    | inl old ↦ taken_before done act end new taken goes a number id old e
    | inr this ↦ absurd (none a number id this e)
  ];
  counted = count ∙ taken.counted ∙ sym (counts_one done act false other ∙ omega arith);
  came = came;
  taken_over = over;
}
  where
    none : (a : Act) (number : ℕ) (id : List ℕ) → Has (act ∷ []) a → a.outcome.reply ≡ reply.Submitted number id → ⊥
    none a number id (inl e) said =
        let is : is_submitted act.outcome.reply ≡ true = ap is_submitted (ap (λ (x : Act). x.outcome.reply) e ∙ said) in
        let no_one : false ≡ true = sym other ∙ is in cc
    none a number id (inr nowhere) said = absurd nowhere

plain_taken : (done : List Act) (act : Act) (end : End) → AreNumberedFrom 0 end.sent → AreTaken done end
    → EndGoes act.event.what act.outcome.reply end (applied act.outcome.effects end) → IsPlain act.outcome
    → AreTaken (done ++ act ∷ []) (applied act.outcome.effects end)
plain_taken done act end numbered taken goes plain =
    let stays = plain_applied act.outcome.effects end plain.effects in
    rests_taken done act end (applied act.outcome.effects end) numbered taken goes stays.count (not_submitted act.outcome.reply plain.reply)
    (omega (arith, stays.confirmed, taken.came, no_longer act end (applied act.outcome.effects end) goes))
    (λ n less. still done act (TakesOver n) (taken.taken_over n (omega (arith, stays.confirmed))))

setting_taken : (done : List Act) (act : Act) (end : End) → AreNumberedFrom 0 end.sent → AreTaken done end
    → EndGoes act.event.what act.outcome.reply end (applied act.outcome.effects end) → Setting end act.event act.outcome
    → AreTaken (done ++ act ∷ []) (applied act.outcome.effects end)
unfolding applied after
setting_taken done act end numbered taken goes sets =
    rests_taken done act end (applied act.outcome.effects end) numbered taken goes
    (ap (λ (o : Outcome). length (applied o.effects end).sent) sets.is ∙ length-map end.sent _)
    (ap (λ (o : Outcome). is_submitted o.reply) sets.is)
    (subst (λ (o : Outcome). (applied o.effects end).confirmed ≤ length (applied o.effects end).inbox) (sym sets.is) taken.came)
    (λ n less. still done act (TakesOver n) (taken.taken_over n (subst (λ (o : Outcome). n < (applied o.effects end).confirmed) sets.is less)))

confirming_taken : (done : List Act) (act : Act) (end : End) → AreNumberedFrom 0 end.sent → AreTaken done end
    → EndGoes act.event.what act.outcome.reply end (applied act.outcome.effects end) → Confirming end act.event.what act.outcome
    → AreTaken (done ++ act ∷ []) (applied act.outcome.effects end)
unfolding applied after
confirming_taken done act end numbered taken goes confirms =
    rests_taken done act end (applied act.outcome.effects end) numbered taken goes
    (ap (λ (o : Outcome). length (applied o.effects end).sent) confirms.is)
    (ap (λ (o : Outcome). is_submitted o.reply) confirms.is)
    (omega (arith, count, confirms.came, no_longer act end (applied act.outcome.effects end) goes))
    (λ n less. (
      act,
      now_done done act,
      record {
        upto = confirms.upto;
        asked = confirms.asked;
        told = ap (λ (o : Outcome). o.reply) confirms.is;
        within = omega (arith, count);
      },
    ))
  where
    count : (applied act.outcome.effects end).confirmed ≡ confirms.upto + 1
    count = ap (λ (o : Outcome). (applied o.effects end).confirmed) confirms.is

submitting_taken : (done : List Act) (act : Act) (end : End) → AreNumberedFrom 0 end.sent → AreTaken done end
    → EndGoes act.event.what act.outcome.reply end (applied act.outcome.effects end) → Submitting act.modes end act.event.what act.outcome
    → AreTaken (done ++ act ∷ []) (applied act.outcome.effects end)
unfolding applied after
submitting_taken done act end numbered taken goes submits = record {
  handed_in = λ t h. elim (has_either end.sent (unsent submits.submission ∷ []) t (subst (λ (sent : List Sent). Has sent t) pushed h)) [
    | inl old ↦ still done act (HandsIn t.submission) (taken.handed_in t old)
    | inr new ↦ (act, now_done done act, handed t new)
  ];
  taken_in = λ a number id h e. elim (has_either done (act ∷ []) a h) [
    | inl old ↦ taken_before done act end (applied act.outcome.effects end) taken goes a number id old e
    | inr this ↦ now a number id this e
  ];
  counted = ap length pushed ∙ longer_by_one ∙ sym (counts_one done act true (ap (λ (o : Outcome). is_submitted o.reply) submits.is));
  came = subst (λ (o : Outcome). (applied o.effects end).confirmed ≤ length (applied o.effects end).inbox) (sym submits.is) taken.came;
  taken_over = λ n less. still done act (TakesOver n)
      (taken.taken_over n (subst (λ (o : Outcome). n < (applied o.effects end).confirmed) submits.is less));
}
  where
    pushed : (applied act.outcome.effects end).sent ≡ end.sent ++ unsent submits.submission ∷ []
    pushed = ap (λ (o : Outcome). (applied o.effects end).sent) submits.is

    longer_by_one : length (end.sent ++ unsent submits.submission ∷ []) ≡ count_by (λ (a : Act). is_submitted a.outcome.reply) done + one_if true
    longer_by_one = length-append end.sent (unsent submits.submission ∷ []) ∙ ap (λ n. n + 1) taken.counted

    told : act.outcome.reply ≡ reply.Submitted submits.submission.number submits.submission.header.id
    told = ap (λ (o : Outcome). o.reply) submits.is

    hands_in : HandsIn submits.submission act
    hands_in = record {
      name = submits.taken.name;
      conversation = submits.taken.conversation;
      loads = submits.taken.loads;
      mode = submits.taken.mode;
      asked = submits.taken.asked;
      named = submits.taken.named;
      told = told;
      contents = submits.taken.contents;
      medias = submits.taken.medias;
      talks = submits.taken.talks;
      matches = submits.taken.matches;
      route = submits.taken.route;
      retries = submits.taken.retries;
      period = submits.taken.period;
    }

    handed : (t : Sent) → Has (unsent submits.submission ∷ []) t → HandsIn t.submission act
    handed t (inl e) = subst (λ (u : Sent). HandsIn u.submission act) e hands_in
    handed t (inr none) = absurd none

    at : slice_get (applied act.outcome.effects end).sent submits.submission.number ≡ Some (unsent submits.submission)
    at = ap (λ n. slice_get (applied act.outcome.effects end).sent n) submits.next
        ∙ ap (λ (sent : List Sent). slice_get sent (length end.sent)) pushed ∙ got_last end.sent (unsent submits.submission)

    now : (a : Act) (number : ℕ) (id : List ℕ) → Has (act ∷ []) a → a.outcome.reply ≡ reply.Submitted number id
        → (s : Sent) × (slice_get (applied act.outcome.effects end).sent number ≡ Some s) × HandsIn s.submission a
    now a number id (inl e) said =
        let both : reply.Submitted submits.submission.number submits.submission.header.id ≡ reply.Submitted number id =
        sym told ∙ ap (λ (x : Act). x.outcome.reply) e ∙ said in
        let same : submits.submission.number ≡ number = cc in (
          unsent submits.submission,
          subst (λ n. slice_get (applied act.outcome.effects end).sent n ≡ Some (unsent submits.submission)) same at,
          subst (HandsIn submits.submission) e hands_in,
        )
    now a number id (inr none) said = absurd none

taken_act : (done : List Act) (act : Act) (end : End) → AreNumberedFrom 0 end.sent → AreTaken done end
    → EndGoes act.event.what act.outcome.reply end (applied act.outcome.effects end)
    → Kind act.modes end act.event act.event.what act.outcome → AreTaken (done ++ act ∷ []) (applied act.outcome.effects end)
taken_act done act end numbered taken goes (inl plain) = plain_taken done act end numbered taken goes plain
taken_act done act end numbered taken goes (inr (inl submits)) = submitting_taken done act end numbered taken goes submits
taken_act done act end numbered taken goes (inr (inr (inl sets))) = setting_taken done act end numbered taken goes sets
taken_act done act end numbered taken goes (inr (inr (inr confirms))) = confirming_taken done act end numbered taken goes confirms

-- the clock doesn't go back
no_earlier : (modes : List Mode) (end : End) (event : Event) (w : What) (outcome : Outcome) → Kind modes end event w outcome
    → end.moment ≤ (applied outcome.effects end).moment
unfolding applied after
no_earlier modes end event w outcome (inl plain) = omega (arith, (plain_applied outcome.effects end plain.effects).moment)
no_earlier modes end event w outcome (inr (inl submits)) =
    subst (λ (o : Outcome). end.moment ≤ (applied o.effects end).moment) (sym submits.is) (omega arith)
no_earlier modes end event w outcome (inr (inr (inl sets))) =
    subst (λ (o : Outcome). end.moment ≤ (applied o.effects end).moment) (sym sets.is) sets.later
no_earlier modes end event w outcome (inr (inr (inr confirms))) =
    subst (λ (o : Outcome). end.moment ≤ (applied o.effects end).moment) (sym confirms.is) (omega arith)

at_most : (a b : ℕ) → nat_le a b ≡ true → a ≤ b
at_most a b e = grind (arith, nat_tests)

-- and is at least at the stamps of its ticks
shows : (modes : List Mode) (end : End) (event : Event) (outcome : Outcome) → Step modes end event outcome → event.what ≡ what.Tick
    → (IsFull outcome.reply → ⊥) → event.stamp ≤ (applied outcome.effects end).moment
unfolding Ticks applied after
shows modes end event outcome step ticks roomy =
    let row : Ticks end event outcome = row_at modes end event outcome what.Tick step (inl roomy) ticks in
    by_bool _ _ _ (nat_le event.stamp end.moment) row
    (λ early r. subst (λ (o : Outcome). event.stamp ≤ (applied o.effects end).moment) (sym r) (at_most event.stamp end.moment early))
    (λ _ t. subst (λ (o : Outcome). event.stamp ≤ (applied o.effects end).moment) (sym t.2) (omega (arith, t.1)))

accounted_act : (done : List Act) (act : Act) (end : End) → AreAccounted done end → Step act.modes end act.event act.outcome
    → AreAccounted (done ++ act ∷ []) (applied act.outcome.effects end)
accounted_act done act end all step = record {
  counted = counted_act done act end new all.counted goes;
  settled = settled_act done act end all.counted.numbered all.settled step (kind_made act.modes end act.event act.event.what act.outcome kind) goes;
  taken = taken_act done act end all.counted.numbered all.taken goes kind;
  apart = goes.inbox.apart all.apart;
  clock = each_done done act (λ (a : Act). a.event.what ≡ what.Tick → (IsFull a.outcome.reply → ⊥) → a.event.stamp ≤ new.moment)
      (λ a h ticks roomy. omega (arith, all.clock a h ticks roomy, no_earlier act.modes end act.event act.event.what act.outcome kind))
      (shows act.modes end act.event act.outcome step);
}
  where
    new : End
    new = applied act.outcome.effects end

    goes : EndGoes act.event.what act.outcome.reply end new
    goes = step_goes act.modes end act.event act.outcome all.counted.numbered step

    kind : Kind act.modes end act.event act.event.what act.outcome
    kind = step_kind act.modes end act.event act.outcome step

-- compaction of the journal changes nothing else
accounted_fold : (done : List Act) (size : ℕ) (end : End) → AreAccounted done end → AreAccounted done (resized size end)
accounted_fold done size end all = record {
  counted = record {
    numbered = all.counted.numbered;
    kept = all.counted.kept;
    own = all.counted.own;
    tries = all.counted.tries;
  };
  settled = record { receipted = all.settled.receipted; refused = all.settled.refused; spent = all.settled.spent };
  taken = record {
    handed_in = all.taken.handed_in;
    taken_in = all.taken.taken_in;
    counted = all.taken.counted;
    came = all.taken.came;
    taken_over = all.taken.taken_over;
  };
  apart = all.apart;
  clock = all.clock;
}

-- after all of them
pub accounted_all : (done : List Act) (later : List Happening) (end : End) → AreAccounted done end → MayHappenTo later end
    → AreAccounted (done ++ acts_of later) (end_after later end)
accounted_all done [] end all may = subst (λ (list : List Act). AreAccounted list end) (sym (append-nil done)) all
accounted_all done (Does act ∷ later) end all may =
    let new : End = applied act.outcome.effects end in
    subst (λ (list : List Act). AreAccounted list (end_after later new)) (append_assoc done (act ∷ []) (acts_of later))
    (accounted_all (done ++ act ∷ []) later new (accounted_act done act end all may.0) may.1)
accounted_all done (Folds site size ∷ later) end all may =
    accounted_all done later (resized size end) (accounted_fold done size end all) may.1

-- the journal has the bytes that were written
pub sized : (all : List Happening) (end : End) → (end_after all end).size ≡ size_after all end.size
sized [] end = refl
sized (Does act ∷ later) end =
    sized later (applied act.outcome.effects end) ∙ ap (size_after later) (size_applied act.outcome.effects end)
sized (Folds site size ∷ later) end = sized later (resized size end)

none_yet : AreAccounted [] empty_end
none_yet = record {
  counted = record { numbered = none_numbered; kept = λ s h. absurd h; own = λ act h. absurd h; tries = λ s h. absurd h };
  settled = record { receipted = λ s h. absurd h; refused = λ s code h. absurd h; spent = λ s h. absurd h };
  taken = record {
    handed_in = λ s h. absurd h;
    taken_in = λ act number id h. absurd h;
    counted = refl;
    came = omega arith;
    taken_over = λ n less. absurd (omega arith);
  };
  apart = tt;
  clock = λ act h. absurd h;
}

pub accounted : (all : List Happening) → MayHappenTo all empty_end → AreAccounted (acts_of all) (end_after all empty_end)
accounted all may = accounted_all [] all empty_end none_yet may
