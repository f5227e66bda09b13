-- The rows of a pair, and that their effects can be applied.
use Rattle.std.proofs.Common.{◌≡◌, ℕ, List, [], ◌∷◌, ◌++◌, Bool, true, false, Option, Some, None, option_map, refl, ap, sym, subst, ◌∙◌, arith}
use Rattle.std.specs.Prelude.{if◌then◌else◌, is_some}
use Rattle.std.specs.Bool.{MatchBool}
use Rattle.std.proofs.lemmas.Option.{same_Some}
use Rattle.as4_effects.specs.declared.effect.Effect.{Effect}
use Rattle.as4_effects.specs.declared.effect.Effect.TheVariants as effect
use Rattle.as4_effects.specs.declared.mark.Mark.TheVariants as mark
use Rattle.as4_effects.specs.declared.queue.Queue.{Queue}
use Rattle.as4_effects.specs.declared.queue.Queue.TheVariants as queue
use Rattle.mode_values.specs.ModeMatch.{channel_mode}
use Rattle.as4_values.specs.declared.header.UserHeader.{UserHeader}
use Rattle.as4_values.specs.declared.message.Message.TheVariants as message
use Rattle.mode_values.specs.declared.mode.Mode.{Mode}
use Rattle.as4_values.specs.declared.signal.Signal.{Signal}
use Rattle.as4_values.specs.declared.signal_body.SignalBody.{SignalBody}
use Rattle.as4_values.specs.declared.signal_body.SignalBody.TheVariants as body
use Rattle.msh_state.specs.Rooms.{TakesNoRoom}
use Rattle.msh_state.specs.Standing.{CanStand}
use Rattle.msh_state.proofs.NumberLemmas.{marked_numbered}
use Rattle.exchange_model.proofs.FoundLemmas.{head_has}
use Rattle.exchange_model.proofs.NumberedLemmas.{itself}
use Rattle.exchange_model.specs.Apply.{after, after_all, is_fit}
use Rattle.exchange_model.specs.End.{End}
use Rattle.exchange_model.specs.Numbered.{AreNumberedFrom}
use Rattle.exchange_model.specs.Questions.{head_of, is_pending, sent_at}
use Rattle.exchange_model.specs.Table.{Errs, PullComes, Settles, SignalComes, PullsBehind, PairComes, is_quiet, names_channel, message_of}
use Rattle.exchange_model.specs.declared.event.Event.{Event}
use Rattle.exchange_model.specs.declared.outcome.Outcome.{Outcome}
use Rattle.exchange_model.specs.declared.reply.Reply.{Reply}
use Rattle.exchange_model.specs.declared.reply.Reply.TheVariants as reply
use Rattle.exchange_model.specs.declared.sent.Sent.{Sent}
use Rattle.msh_transitions.specs.Bundled.{IsBehind, IsServedBehind}
use Rattle.msh_transitions.specs.Naming.{IsFor, IsRefusedBy}
use Rattle.msh_transitions.proofs.ComingRows.{refused_comes, settled_comes}
use Rattle.msh_transitions.proofs.HeadLemmas.{head_fits}

-- by the outcome of its receipt, and that of the pull request after it
pair_by : (modes : List Mode) (end : End) (event : Event) (receipt pull : Signal) (copy : Option UserHeader) (mpc : List ℕ) (s : Sent)
    (settled pulled outcome : Outcome) → receipt.body ≡ body.Receipt copy → pull.body ≡ body.Pull mpc
    → IsFor receipt.ref_to copy end.sent s → Settles s settled → settled.reply ≡ reply.Quiet
    → PullComes modes (after_all settled.effects end) event pull.id mpc pulled
    → outcome ≡ record { effects = if is_some (channel_mode modes mpc) then settled.effects ++ pulled.effects else []; reply = pulled.reply }
    → PairComes modes end event receipt pull outcome
unfolding PairComes
pair_by modes end event receipt pull copy mpc s settled pulled outcome is_receipt is_pull is_for settles quiet row is = (
  settled,
  subst (λ (b : SignalBody). SignalComes modes end event receipt.id receipt.ref_to b settled) (sym is_receipt)
      (settled_comes end event receipt.id receipt.ref_to copy s settled is_for settles),
  subst (λ (r : Reply). MatchBool (is_quiet r) (PullsBehind modes end event pull settled outcome) (outcome ≡ settled)) (sym quiet) (
    pulled,
    subst (λ (b : SignalBody). SignalComes modes (after_all settled.effects end) event pull.id pull.ref_to b pulled) (sym is_pull) row,
    subst (λ (b : SignalBody). outcome ≡ record { effects = if names_channel modes b then settled.effects ++ pulled.effects else []; reply = pulled.reply })
        (sym is_pull) is,
  ),
)

-- its receipt gives an error
pub refused_pair : (modes : List Mode) (end : End) (event : Event) (receipt pull : Signal) (copy : Option UserHeader) (code : ℕ) (outcome : Outcome)
    → receipt.body ≡ body.Receipt copy → IsRefusedBy receipt.ref_to copy end.sent code → Errs code receipt.id event outcome
    → PairComes modes end event receipt pull outcome
unfolding PairComes
refused_pair modes end event receipt pull copy code outcome is_receipt refused errs = (
  outcome,
  subst (λ (b : SignalBody). SignalComes modes end event receipt.id receipt.ref_to b outcome) (sym is_receipt)
      (refused_comes end event receipt.id receipt.ref_to copy code outcome refused errs),
  subst (λ (r : Reply). MatchBool (is_quiet r) (PullsBehind modes end event pull outcome outcome) (outcome ≡ outcome))
      (sym (ap (λ (o : Outcome). o.reply) errs.2)) refl,
)

-- the outcome of a receipt for a submission
settled_of : (s : Sent) → (settled : Outcome) × Settles s settled × (settled.reply ≡ reply.Quiet)
settled_of s = by_pending (is_pending s)
  where
    by_pending : (b : Bool)
        → (settled : Outcome)
        × MatchBool b (settled ≡ record { effects = effect.Receipted s.submission.number ∷ []; reply = reply.Quiet })
        (settled ≡ record { effects = []; reply = reply.Quiet })
        × (settled.reply ≡ reply.Quiet)
    by_pending true = (_, refl, refl)
    by_pending false = (_, refl, refl)

-- no mode names its channel
pub unnamed_pair : (modes : List Mode) (end : End) (event : Event) (receipt pull : Signal) (copy : Option UserHeader) (mpc : List ℕ) (s : Sent)
    (outcome : Outcome) → receipt.body ≡ body.Receipt copy → pull.body ≡ body.Pull mpc
    → IsFor receipt.ref_to copy end.sent s → is_some (channel_mode modes mpc) ≡ false → Errs 1 pull.id event outcome
    → PairComes modes end event receipt pull outcome
unfolding PullComes
unnamed_pair modes end event receipt pull copy mpc s outcome is_receipt is_pull is_for unnamed errs =
    let settled = settled_of s in
    pair_by modes end event receipt pull copy mpc s settled.0 outcome outcome is_receipt is_pull is_for settled.1 settled.2
    (rw (is_none (channel_mode modes mpc) unnamed) errs) (joined (is_some (channel_mode modes mpc)) settled.0.effects unnamed)
  where
    is_none : (o : Option Mode) → is_some o ≡ false → o ≡ None
    is_none None e = refl
    is_none (Some mode) e = absurd cc

    joined : (b : Bool) (effects : List Effect) → b ≡ false
        → outcome ≡ record { effects = if b then effects ++ outcome.effects else []; reply = outcome.reply }
    joined true effects e = absurd cc
    joined false effects e = ap (λ (es : List Effect). record { effects = es; reply = outcome.reply }) (ap (λ (o : Outcome). o.effects) errs.2)

-- both effects, where a mode names the channel
both : (named : Bool) (effects : List Effect) (pulled outcome : Outcome) → named ≡ true
    → outcome ≡ record { effects = effects ++ pulled.effects; reply = pulled.reply }
    → outcome ≡ record { effects = if named then effects ++ pulled.effects else []; reply = pulled.reply }
both true effects pulled outcome e is = is
both false effects pulled outcome e is = absurd cc

-- its receipt is for a settled submission
pub late_pair : (modes : List Mode) (end : End) (event : Event) (receipt pull : Signal) (copy : Option UserHeader) (mpc : List ℕ) (s : Sent)
    (outcome : Outcome) → receipt.body ≡ body.Receipt copy → pull.body ≡ body.Pull mpc
    → IsFor receipt.ref_to copy end.sent s → is_some (channel_mode modes mpc) ≡ true → is_pending s ≡ false
    → PullComes modes end event pull.id mpc outcome → PairComes modes end event receipt pull outcome
late_pair modes end event receipt pull copy mpc s outcome is_receipt is_pull is_for named settled row =
    pair_by modes end event receipt pull copy mpc s (record { effects = []; reply = reply.Quiet }) outcome outcome is_receipt is_pull is_for
    (rw settled refl) refl row (both (is_some (channel_mode modes mpc)) [] outcome outcome named refl)

-- its receipt settles a pending submission
pub behind_pair : (modes : List Mode) (end : End) (event : Event) (receipt pull : Signal) (copy : Option UserHeader) (mpc : List ℕ) (s : Sent)
    (outcome : Outcome) → receipt.body ≡ body.Receipt copy → pull.body ≡ body.Pull mpc
    → IsFor receipt.ref_to copy end.sent s → is_some (channel_mode modes mpc) ≡ true → is_pending s ≡ true
    → IsBehind end event pull.id mpc s.submission.number outcome → PairComes modes end event receipt pull outcome
unfolding PullComes
behind_pair modes end event receipt pull copy mpc s outcome is_receipt is_pull is_for named pending row =
    by_mode (channel_mode modes mpc) refl named
  where
    mid : End
    mid = after (effect.Receipted s.submission.number) end

    with : (pulled : Outcome) → PullComes modes mid event pull.id mpc pulled
        → outcome ≡ record { effects = effect.Receipted s.submission.number ∷ pulled.effects; reply = pulled.reply }
        → PairComes modes end event receipt pull outcome
    with pulled pulls is =
        pair_by modes end event receipt pull copy mpc s (record { effects = effect.Receipted s.submission.number ∷ []; reply = reply.Quiet })
        pulled outcome is_receipt is_pull is_for (rw pending refl) refl pulls
        (both (is_some (channel_mode modes mpc)) (effect.Receipted s.submission.number ∷ []) pulled outcome named is)

    by_head : (mode : Mode) → channel_mode modes mpc ≡ Some mode → (o : Option Sent) → head_of (queue.Channel mpc) mid ≡ o
        → IsServedBehind event pull.id s.submission.number o outcome → PairComes modes end event receipt pull outcome
    by_head mode m None e empty =
        with (record { effects = []; reply = reply.Answer (message.Signal empty.0) }) (rw (m, e) (empty.0, empty.1, refl)) empty.2
    by_head mode m (Some t) e served =
        with (record { effects = effect.Tried t.submission.number ∷ []; reply = reply.Answer (message_of t.submission) }) (rw (m, e) refl) served

    by_mode : (o : Option Mode) → channel_mode modes mpc ≡ o → is_some o ≡ true → PairComes modes end event receipt pull outcome
    by_mode None m e = absurd cc
    by_mode (Some mode) m e = by_head mode m (head_of (queue.Channel mpc) mid) refl row

-- a receipt, and then a try of the head that the queue has after it
pub both_stand : (q : Queue) (n k : ℕ) (end : End) → AreNumberedFrom 0 end.sent → is_fit (effect.Receipted n) end ≡ true
    → Some k ≡ option_map (λ (s : Sent). s.submission.number) (head_of q (after (effect.Receipted n) end))
    → CanStand end (effect.Receipted n ∷ effect.Tried k ∷ [])
unfolding TakesNoRoom after
both_stand q n k end numbered fit head = record {
  fit = rw (fit, tries) refl;
  few = omega arith;
  one_room = (tt, tt);
}
  where
    mid : End
    mid = after (effect.Receipted n) end

    found : (o : Option Sent) → head_of q mid ≡ o → Some k ≡ option_map (λ (s : Sent). s.submission.number) o → sent_at k mid.sent ≡ head_of q mid
    found None e at = absurd cc
    found (Some s) e at =
        ap (λ m. sent_at m mid.sent) (same_Some k s.submission.number at)
        ∙ itself 0 mid.sent s (marked_numbered n mark.Receipted 0 end.sent numbered) (head_has q mid s e).0 ∙ sym e

    tries : is_fit (effect.Tried k) mid ≡ true
    tries = head_fits q mid k head (found (head_of q mid) refl head)
