-- The cases of a pair: an error, or the row of its pull request, at the unchanged endpoint or at the endpoint after its
-- receipt's effect.
use Rattle.std.proofs.Common.{◌≡◌, ℕ, ◌⊎◌, inl, inr, List, [], ◌∷◌, ◌++◌, Bool, true, false, Option, Some, None, refl, sym, ap, ◌∙◌, subst}
use Rattle.std.specs.Prelude.{IsSome, IsTrue, MatchOption, if◌then◌else◌, is_some}
use Rattle.std.specs.Bool.{MatchBool}
use Rattle.std.proofs.lemmas.Option.{same_Some}
use Rattle.std.specs.Option.{option_and_then}
use Rattle.as4_effects.specs.declared.effect.Effect.{Effect}
use Rattle.as4_effects.specs.declared.effect.Effect.TheVariants as effect
use Rattle.mode_values.specs.ModeMatch.{channel_mode}
use Rattle.as4_values.specs.SignalParts.{is_receipt, is_pull}
use Rattle.as4_values.specs.declared.header.UserHeader.{UserHeader}
use Rattle.as4_values.specs.declared.message.Pair.{Pair}
use Rattle.mode_values.specs.declared.mode.Mode.{Mode}
use Rattle.as4_values.specs.declared.signal.Signal.{Signal}
use Rattle.as4_values.specs.declared.signal_body.SignalBody.{SignalBody}
use Rattle.as4_values.specs.declared.signal_body.SignalBody.TheVariants as body
use Rattle.exchange_model.specs.Apply.{after, after_all}
use Rattle.exchange_model.specs.End.{End}
use Rattle.exchange_model.specs.LosslessRound.{IsReceiptAt}
use Rattle.exchange_model.specs.Questions.{is_pending, sent_of}
use Rattle.exchange_model.specs.Table.{Errs, IsOther, Settles, ReceiptComes, PullComes, SignalComes, PullsBehind, PairComes, is_quiet, names_channel}
use Rattle.exchange_model.specs.declared.event.Event.{Event}
use Rattle.exchange_model.specs.declared.outcome.Outcome.{Outcome}
use Rattle.exchange_model.specs.declared.reply.Reply.{Reply}
use Rattle.exchange_model.specs.declared.sent.Sent.{Sent}
use Rattle.exchange_model.proofs.FoundLemmas.{sent_of_has}
use Rattle.exchange_model.proofs.ListLemmas.{Has}
use Rattle.exchange_laws.proofs.EndSteps.{by_option, by_bool}

-- the row of the pull request at the endpoint after the receipt for a pending submission; one record holds both effects
pub record IsBehind (modes : List Mode) (end : End) (event : Event) (pull : Signal) (mpc : List ℕ) (s : Sent) (outcome : Outcome) : Type 0 where
  pub pending : is_pending s ≡ true
  pub pulled : Outcome
  pub row : PullComes modes (after (effect.Receipted s.submission.number) end) event pull.id mpc pulled
  pub is : outcome ≡ record { effects = effect.Receipted s.submission.number ∷ pulled.effects; reply = pulled.reply }

-- the row of the pull request where the receipt changes nothing
pub record IsAlone (modes : List Mode) (end : End) (event : Event) (pull : Signal) (mpc : List ℕ) (s : Sent) (outcome : Outcome) : Type 0 where
  pub settled : is_pending s ≡ false
  pub row : PullComes modes end event pull.id mpc outcome

pub record IsServed (modes : List Mode) (end : End) (event : Event) (receipt pull : Signal) (outcome : Outcome) : Type 0 where
  pub one : Sent
  pub of : IsReceiptAt one receipt end
  pub mpc : List ℕ
  pub asks : pull.body ≡ body.Pull mpc
  pub named : IsSome (channel_mode modes mpc)
  pub row : IsAlone modes end event pull mpc one outcome ⊎ IsBehind modes end event pull mpc one outcome

pub record IsRefused (event : Event) (outcome : Outcome) : Type 0 where
  pub code : ℕ
  pub about : List ℕ
  pub errs : Errs code about event outcome

-- the bodies of a pair
receipt_copy : (b : SignalBody) → IsTrue (is_receipt b) → (copy : Option UserHeader) × (b ≡ body.Receipt copy)
receipt_copy (body.Pull mpc) h = absurd cc
receipt_copy (body.Receipt copy) h = (copy, refl)
receipt_copy (body.Errors items) h = absurd cc

pull_channel : (b : SignalBody) → IsTrue (is_pull b) → (mpc : List ℕ) × (b ≡ body.Pull mpc)
pull_channel (body.Pull mpc) h = (mpc, refl)
pull_channel (body.Receipt copy) h = absurd cc
pull_channel (body.Errors items) h = absurd cc

-- the reference that finds a submission
reference : (sent : List Sent) (ref_to : Option (List ℕ)) (s : Sent) → option_and_then (λ ref. sent_of ref sent) ref_to ≡ Some s
    → (ref_to ≡ Some s.submission.header.id) × Has sent s
reference sent None s e = absurd cc
reference sent (Some id) s e = let h = sent_of_has id sent s e in (ap Some (sym h.1), h.0)

pub receipt_names : (s : Sent) (receipt : Signal) (end : End) → IsReceiptAt s receipt end
    → (receipt.ref_to ≡ Some s.submission.header.id) × Has end.sent s
receipt_names s receipt end of = reference end.sent receipt.ref_to s of.names

-- a receipt that gives an error
refused : (end : End) (event : Event) (id : List ℕ) (ref_to : Option (List ℕ)) (copy : Option UserHeader) (settled : Outcome)
    → ReceiptComes end event id ref_to copy settled → is_quiet settled.reply ≡ false → IsRefused event settled
unfolding ReceiptComes
refused end event id ref_to copy settled h noisy =
    by_option _ _ _ (option_and_then (λ ref. sent_of ref end.sent) ref_to) h (λ e. record { code = 3; about = id; errs = e }) (λ s _ k.
    elim k [ inl other ↦ record { code = 302; about = id; errs = other.1 } | inr own ↦ absurd (settles s own.1) ])
  where
    settles : (s : Sent) → Settles s settled → ⊥
    settles s k = by_bool _ _ _ (is_pending s) k
        (λ _ g. let no_one : true ≡ false = sym (ap (λ (o : Outcome). is_quiet o.reply) g) ∙ noisy in cc)
        (λ _ g. let no_one : true ≡ false = sym (ap (λ (o : Outcome). is_quiet o.reply) g) ∙ noisy in cc)

-- a receipt that gives no error changes nothing, or settles a pending submission
abbrev IsEffect : Sent → List Effect → Type 0
IsEffect s effects =
    ((is_pending s ≡ false) × (effects ≡ []))
    ⊎ ((is_pending s ≡ true) × (effects ≡ effect.Receipted s.submission.number ∷ []))

record IsQuietReceipt (end : End) (ref_to : Option (List ℕ)) (copy : Option UserHeader) (effects : List Effect) : Type 0 where
  one : Sent
  names : option_and_then (λ ref. sent_of ref end.sent) ref_to ≡ Some one
  own : IsOther copy one.submission.header → ⊥
  is : IsEffect one effects

quiet : (end : End) (event : Event) (id : List ℕ) (ref_to : Option (List ℕ)) (copy : Option UserHeader) (settled : Outcome)
    → ReceiptComes end event id ref_to copy settled → is_quiet settled.reply ≡ true → IsQuietReceipt end ref_to copy settled.effects
unfolding ReceiptComes
quiet end event id ref_to copy settled h q =
    by_option _ _ _ (option_and_then (λ ref. sent_of ref end.sent) ref_to) h (λ e. absurd (told e)) named
  where
    told : {code : ℕ} → Errs code id event settled → ⊥
    told e = let no_one : false ≡ true = sym (ap (λ (o : Outcome). is_quiet o.reply) e.2) ∙ q in cc

    named : (s : Sent) → option_and_then (λ ref. sent_of ref end.sent) ref_to ≡ Some s
        → (IsOther copy s.submission.header × Errs 302 id event settled) ⊎ ((IsOther copy s.submission.header → ⊥) × Settles s settled)
        → IsQuietReceipt end ref_to copy settled.effects
    named s e (inl other) = absurd (told other.1)
    named s e (inr own) = record {
      one = s;
      names = e;
      own = own.0;
      is = by_bool _ _ _ (is_pending s) own.1
          (λ pending g. inr (pending, ap (λ (o : Outcome). o.effects) g)) (λ done g. inl (done, ap (λ (o : Outcome). o.effects) g));
    }

-- after a receipt that gives no error, by whether a mode names the channel
joined : (modes : List Mode) (end : End) (event : Event) (pull : Signal) (mpc : List ℕ) (settled outcome : Outcome) (named : Bool)
    → pull.body ≡ body.Pull mpc → is_some (channel_mode modes mpc) ≡ named → (k : PullsBehind modes end event pull settled outcome)
    → outcome ≡ record { effects = if named then settled.effects ++ k.0.effects else []; reply = k.0.reply }
joined modes end event pull mpc settled outcome named is_pull e k =
    k.2 ∙ ap (λ (b : Bool). record { effects = if b then settled.effects ++ k.0.effects else []; reply = k.0.reply })
    (ap (names_channel modes) is_pull ∙ e)

pulled_row : (modes : List Mode) (end : End) (event : Event) (pull : Signal) (mpc : List ℕ) (settled outcome : Outcome)
    → pull.body ≡ body.Pull mpc → (k : PullsBehind modes end event pull settled outcome)
    → PullComes modes (after_all settled.effects end) event pull.id mpc k.0
pulled_row modes end event pull mpc settled outcome is_pull k =
    subst (λ (b : SignalBody). SignalComes modes (after_all settled.effects end) event pull.id pull.ref_to b k.0) is_pull k.1

-- a channel that no mode names
unnamed : (modes : List Mode) (end : End) (event : Event) (pull : Signal) (mpc : List ℕ) (settled outcome : Outcome)
    → pull.body ≡ body.Pull mpc → channel_mode modes mpc ≡ None → PullsBehind modes end event pull settled outcome → IsRefused event outcome
unfolding PullComes
unnamed modes end event pull mpc settled outcome is_pull none k =
    let err : Errs 1 pull.id event k.0 = by_option _ _ _ (channel_mode modes mpc) (pulled_row modes end event pull mpc settled outcome is_pull k) (λ h. h)
    (λ mode some _. absurd (let both : None ≡ Some mode = sym none ∙ some in cc)) in
    record {
      code = 1;
      about = pull.id;
      errs = (
        err.0,
        err.1,
        joined modes end event pull mpc settled outcome false is_pull (ap is_some none) k
            ∙ ap (λ (r : Reply). record { effects = []; reply = r }) (ap (λ (o : Outcome). o.reply) err.2),
      );
    }

-- a channel that a mode names
serve : (modes : List Mode) (end : End) (event : Event) (receipt pull : Signal) (copy : Option UserHeader) (mpc : List ℕ) (settled outcome : Outcome)
    → receipt.body ≡ body.Receipt copy → pull.body ≡ body.Pull mpc → IsQuietReceipt end receipt.ref_to copy settled.effects
    → is_some (channel_mode modes mpc) ≡ true → PullsBehind modes end event pull settled outcome
    → IsServed modes end event receipt pull outcome
serve modes end event receipt pull copy mpc settled outcome is_receipt is_pull done named k = record {
  one = done.one;
  of = record { copy = copy; receipt = is_receipt; names = done.names; own = done.own };
  mpc = mpc;
  asks = is_pull;
  named = some_named (channel_mode modes mpc) named;
  row = served done.is;
}
  where
    some_named : (o : Option Mode) → is_some o ≡ true → IsSome o
    some_named None e = absurd cc
    some_named (Some mode) e = refl

    with_effects : (effects : List Effect) → settled.effects ≡ effects
        → (outcome ≡ record { effects = effects ++ k.0.effects; reply = k.0.reply }) × PullComes modes (after_all effects end) event pull.id mpc k.0
    with_effects effects e = (
      joined modes end event pull mpc settled outcome true is_pull named k
          ∙ ap (λ (es : List Effect). record { effects = es ++ k.0.effects; reply = k.0.reply }) e,
      subst (λ (es : List Effect). PullComes modes (after_all es end) event pull.id mpc k.0) e
          (pulled_row modes end event pull mpc settled outcome is_pull k),
    )

    served : IsEffect done.one settled.effects
        → IsAlone modes end event pull mpc done.one outcome ⊎ IsBehind modes end event pull mpc done.one outcome
    served (inl none) =
        let w = with_effects [] none.1 in
        inl (record { settled = none.0; row = subst (PullComes modes end event pull.id mpc) (sym w.0) w.1 })
    served (inr one) =
        let w = with_effects (effect.Receipted done.one.submission.number ∷ []) one.1 in
        inr (record { pending = one.0; pulled = k.0; row = w.1; is = w.0 })

-- by the rows of a pair
pub pair_cases : (modes : List Mode) (end : End) (event : Event) (pair : Pair) (outcome : Outcome)
    → PairComes modes end event pair.receipt pair.pull outcome
    → IsRefused event outcome ⊎ IsServed modes end event pair.receipt pair.pull outcome
unfolding PairComes
pair_cases modes end event pair outcome h =
    by_bool _ _ _ (is_quiet settled.reply) h.2 (λ silent k. by_channel silent k (channel_mode modes p.0) refl)
    (λ noisy same. inl (subst (IsRefused event) (sym same) (refused end event pair.receipt.id pair.receipt.ref_to r.0 settled row noisy)))
  where
    settled : Outcome
    settled = h.0

    r : (copy : Option UserHeader) × (pair.receipt.body ≡ body.Receipt copy)
    r = receipt_copy pair.receipt.body pair.receipted

    p : (mpc : List ℕ) × (pair.pull.body ≡ body.Pull mpc)
    p = pull_channel pair.pull.body pair.asked

    row : ReceiptComes end event pair.receipt.id pair.receipt.ref_to r.0 settled
    row = subst (λ (b : SignalBody). SignalComes modes end event pair.receipt.id pair.receipt.ref_to b settled) r.1 h.1

    by_channel : is_quiet settled.reply ≡ true → PullsBehind modes end event pair.pull settled outcome
        → (o : Option Mode) → channel_mode modes p.0 ≡ o
        → IsRefused event outcome ⊎ IsServed modes end event pair.receipt pair.pull outcome
    by_channel silent k None e = inl (unnamed modes end event pair.pull p.0 settled outcome p.1 e k)
    by_channel silent k (Some mode) e =
        inr (serve modes end event pair.receipt pair.pull r.0 p.0 settled outcome r.1 p.1
        (quiet end event pair.receipt.id pair.receipt.ref_to r.0 settled row silent) (ap is_some e) k)

-- a receipt for a submission gives no error
quiet_of : (end : End) (event : Event) (id : List ℕ) (ref_to : Option (List ℕ)) (copy : Option UserHeader) (settled : Outcome) (s : Sent)
    → ReceiptComes end event id ref_to copy settled → option_and_then (λ ref. sent_of ref end.sent) ref_to ≡ Some s
    → (IsOther copy s.submission.header → ⊥) → is_quiet settled.reply ≡ true
unfolding ReceiptComes
quiet_of end event id ref_to copy settled s h found own = by_copy (subst (λ p. MatchOption p (Errs 3 id event settled)
    (λ (t : Sent). (IsOther copy t.submission.header × Errs 302 id event settled)
    ⊎ ((IsOther copy t.submission.header → ⊥) × Settles t settled))) found h)
  where
    settles : Settles s settled → is_quiet settled.reply ≡ true
    settles k = by_bool _ _ _ (is_pending s) k (λ _ g. ap (λ (o : Outcome). is_quiet o.reply) g) (λ _ g. ap (λ (o : Outcome). is_quiet o.reply) g)

    by_copy : (IsOther copy s.submission.header × Errs 302 id event settled) ⊎ ((IsOther copy s.submission.header → ⊥) × Settles s settled)
        → is_quiet settled.reply ≡ true
    by_copy (inl other) = absurd (own other.0)
    by_copy (inr kept) = settles kept.1

-- a pair whose receipt is for a submission, and whose channel a mode names
pub pair_served : (modes : List Mode) (end : End) (event : Event) (pair : Pair) (outcome : Outcome) (s : Sent)
    → PairComes modes end event pair.receipt pair.pull outcome → IsReceiptAt s pair.receipt end → IsTrue (names_channel modes pair.pull.body)
    → (mpc : List ℕ) × (pair.pull.body ≡ body.Pull mpc)
    × (IsAlone modes end event pair.pull mpc s outcome ⊎ IsBehind modes end event pair.pull mpc s outcome)
unfolding PairComes
pair_served modes end event pair outcome s h of named =
    let silent = quiet_of end event pair.receipt.id pair.receipt.ref_to of.copy settled s row of.names of.own in
    let k : PullsBehind modes end event pair.pull settled outcome = subst (λ (b : Bool). MatchBool b (PullsBehind modes end event pair.pull settled outcome) (outcome ≡ settled)) silent h.2 in
    let all = serve modes end event pair.receipt pair.pull of.copy p.0 settled outcome of.receipt p.1
    (quiet end event pair.receipt.id pair.receipt.ref_to of.copy settled row silent) (sym (ap (names_channel modes) p.1) ∙ named) k in
    let same : all.one ≡ s = same_Some all.one s (sym all.of.names ∙ of.names) in
    (all.mpc, all.asks, subst (λ (t : Sent). IsAlone modes end event pair.pull all.mpc t outcome ⊎ IsBehind modes end event pair.pull all.mpc t outcome) same all.row)
  where
    settled : Outcome
    settled = h.0

    p : (mpc : List ℕ) × (pair.pull.body ≡ body.Pull mpc)
    p = pull_channel pair.pull.body pair.asked

    row : ReceiptComes end event pair.receipt.id pair.receipt.ref_to of.copy settled
    row = subst (λ (b : SignalBody). SignalComes modes end event pair.receipt.id pair.receipt.ref_to b settled) of.receipt h.1
