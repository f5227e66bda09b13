-- How an event changes an endpoint, and its reply.
use Rattle.std.proofs.Common.{◌≡◌, ℕ, List, [], ◌∷◌, Bool, true, false, Option, Some, None, refl, sym, subst}
use Rattle.std.specs.Prelude.{MatchOption}
use Rattle.std.specs.Bool.{MatchBool}
use Rattle.as4_effects.specs.declared.effect.Effect.{Effect}
use Rattle.as4_values.specs.declared.header.UserHeader.{UserHeader}
use Rattle.as4_values.specs.declared.message.Message.{Message}
use Rattle.as4_values.specs.declared.message.Message.TheVariants as message
use Rattle.as4_values.specs.declared.signal.Signal.{Signal}
use Rattle.as4_values.specs.declared.signal_body.SignalBody.{SignalBody}
use Rattle.as4_values.specs.declared.signal_body.SignalBody.TheVariants as body
use Rattle.exchange_model.specs.Apply.{after_all, applied}
use Rattle.exchange_model.specs.End.{End}
use Rattle.exchange_model.specs.Numbered.{AreNumberedFrom}
use Rattle.exchange_model.specs.Table.{Rests}
use Rattle.exchange_model.specs.World.{sends}
use Rattle.exchange_model.specs.declared.inbox_entry.InboxEntry.{InboxEntry}
use Rattle.exchange_model.specs.declared.outcome.Outcome.{Outcome}
use Rattle.exchange_model.specs.declared.reply.Reply.{Reply}
use Rattle.exchange_model.specs.declared.sent.Sent.{Sent}
use Rattle.exchange_model.specs.declared.what.What.{What}
use Rattle.exchange_model.proofs.ListLemmas.{Has}
use Rattle.exchange_laws.proofs.SentSteps.{SentGoes, sent_stays}
use Rattle.exchange_laws.proofs.InboxLemmas.{ids}
use Rattle.exchange_laws.proofs.InboxSteps.{InboxGoes, inbox_stays}
use Rattle.exchange_laws.proofs.TriesSteps.{IsQuiet, TriesGo, quiet_none, tries_quiet, stay_same}

-- a receipt is for a message that was received
abbrev pub BacksSignal : List InboxEntry → Option (List ℕ) → SignalBody → Type 0
BacksSignal inbox ref_to (body.Receipt copy) = (id : List ℕ) → ref_to ≡ Some id → Has (ids inbox) id
BacksSignal inbox ref_to (body.Pull mpc) = Unit {0}
BacksSignal inbox ref_to (body.Errors items) = Unit {0}

-- a user message is one that was submitted
abbrev pub Backs : List Sent → List InboxEntry → Message → Type 0
Backs sent inbox (message.User header payloads) =
    (s : Sent) × Has sent s × (s.submission.header ≡ header) × (s.submission.payloads ≡ payloads)
Backs sent inbox (message.Signal signal) = BacksSignal inbox signal.ref_to signal.body
Backs sent inbox (message.Pair pair) = BacksSignal inbox pair.receipt.ref_to pair.receipt.body

-- from before an event to after it: the submissions, the inbox, and the messages to the other endpoint
pub record EndGoes (what : What) (reply : Reply) (old new : End) : Type 0 where
  pub sent : SentGoes what old.sent new.sent
  pub inbox : InboxGoes what old.inbox old.confirmed new.inbox new.confirmed
  pub says : (m : Message) → Has (sends reply) m → Backs new.sent new.inbox m
  pub tries : TriesGo (sends reply) old.sent new.sent

-- the record of the effects makes the journal longer, and changes nothing else
goes_applied : (what : What) (r : Reply) (effects : List Effect) (end : End) → EndGoes what r end (after_all effects end)
    → EndGoes what r end (applied effects end)
unfolding applied
goes_applied what r [] end g = g
goes_applied what r (e ∷ effects) end g = record { sent = g.sent; inbox = g.inbox; says = g.says; tries = g.tries }

-- the other way round
pub unapplied : (what : What) (r : Reply) (effects : List Effect) (end : End) → EndGoes what r end (applied effects end)
    → EndGoes what r end (after_all effects end)
unfolding applied
unapplied what r [] end g = g
unapplied what r (e ∷ effects) end g = record { sent = g.sent; inbox = g.inbox; says = g.says; tries = g.tries }

-- by the value of the outcome
pub goes_by : (what : What) (r : Reply) (effects : List Effect) (end : End) (outcome : Outcome)
    → outcome ≡ record { effects = effects; reply = r }
    → EndGoes what r end (after_all effects end) → EndGoes what outcome.reply end (applied outcome.effects end)
goes_by what r effects end outcome e g =
    subst (λ (o : Outcome). EndGoes what o.reply end (applied o.effects end)) (sym e) (goes_applied what r effects end g)

-- a receipt is backed by the message that was received
pub receipt_backs : (inbox : List InboxEntry) (header : UserHeader) (signal : Signal) → signal.ref_to ≡ Some header.id
    → signal.body ≡ body.Receipt (Some header)
    → Has (ids inbox) header.id → BacksSignal inbox signal.ref_to signal.body
receipt_backs inbox header signal refers copies h =
    subst (BacksSignal inbox signal.ref_to) (sym copies) (λ id e. let same : header.id ≡ id = cc in subst (Has (ids inbox)) same h)

-- nothing changes
pub rests : (what : What) (r : Reply) (end : End) (outcome : Outcome) → AreNumberedFrom 0 end.sent → Rests r outcome
    → IsQuiet (sends r) → ((m : Message) → Has (sends r) m → Backs end.sent end.inbox m)
    → EndGoes what outcome.reply end (applied outcome.effects end)
rests what r end outcome numbered e quiet says =
    goes_by what r [] end outcome e (record {
      sent = sent_stays what end.sent numbered;
      inbox = inbox_stays what end.inbox end.confirmed;
      says = says;
      tries = tries_quiet (sends r) end.sent end.sent quiet (stay_same end.sent);
    })

-- nothing changes, and no message is sent
pub rests_silent : (what : What) (r : Reply) (end : End) (outcome : Outcome) → sends r ≡ [] → AreNumberedFrom 0 end.sent
    → Rests r outcome
    → EndGoes what outcome.reply end (applied outcome.effects end)
rests_silent what r end outcome silent numbered e =
    rests what r end outcome numbered e (quiet_none (sends r) silent) (λ m h. absurd (subst (λ (ms : List Message). Has ms m) silent h))

-- the cases of a match
pub by_option : {X : Type 0} (P : Type 0) (Q : X → Type 0) (R : Type 0) (o : Option X) → MatchOption o P Q
    → (P → R) → ((x : X) → o ≡ Some x → Q x → R) → R
by_option P Q R None m none some = none m
by_option P Q R (Some x) m none some = some x refl m

pub by_bool : (P Q R : Type 0) (b : Bool) → MatchBool b P Q → (b ≡ true → P → R) → (b ≡ false → Q → R) → R
by_bool P Q R true m then else = then refl m
by_bool P Q R false m then else = else refl m
