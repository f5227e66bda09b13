-- Invariants of two endpoints and a network, whatever has happened.
use Rattle.std.proofs.Common.{◌≡◌, ℕ, ◌≤◌, ◌⊎◌, inl, inr, List, [], ◌∷◌, ◌++◌, Bool, true, false, Option, Some, sym, ap, ◌∙◌, subst}
use Rattle.std.specs.Prelude.{slice_get, if◌then◌else◌}
use Rattle.as4_values.specs.declared.message.Message.{Message}
use Rattle.as4_values.specs.declared.message.Message.TheVariants as message
use Rattle.as4_values.specs.declared.signal.Signal.{Signal}
use Rattle.as4_values.specs.declared.signal_body.SignalBody.{SignalBody}
use Rattle.as4_values.specs.declared.signal_body.SignalBody.TheVariants as body
use Rattle.exchange_model.specs.DeliveredOnce.{CameFrom}
use Rattle.exchange_model.specs.End.{End}
use Rattle.exchange_model.specs.Numbered.{AreNumberedFrom}
use Rattle.exchange_model.specs.World.{Act, Happening, Does, Folds, Speaker, World, Site, Left, Right, new_world, sends, IsHeard, MayAct, acted, folded, folded_at, MayHappenAt, world_at, MayHappen, world_after}
use Rattle.exchange_model.specs.declared.inbox_entry.InboxEntry.{InboxEntry}
use Rattle.exchange_model.specs.declared.reply.Reply.{Reply}
use Rattle.as4_effects.specs.declared.mark.Mark.TheVariants as mark
use Rattle.exchange_model.specs.declared.sent.Sent.{Sent}
use Rattle.exchange_model.specs.declared.what.What.{What}
use Rattle.exchange_model.specs.declared.what.What.TheVariants as what
use Rattle.exchange_model.proofs.ListLemmas.{Has}
use Rattle.exchange_model.proofs.NumberedLemmas.{none_numbered}
use Rattle.exchange_laws.proofs.ListLemmas.{has_contained, has_either}
use Rattle.exchange_laws.proofs.SentSteps.{Receipts, brings_either, receipted_by}
use Rattle.exchange_laws.proofs.InboxLemmas.{ids, Apart}
use Rattle.exchange_laws.proofs.InboxSteps.{Stood}
use Rattle.exchange_laws.proofs.EndSteps.{Backs, BacksSignal, EndGoes}
use Rattle.exchange_laws.proofs.StepLemmas.{step_goes}

-- of a speaker: its submissions are numbered, its inbox has no identifier twice, and its state backs what it sent
pub record SpeakerHolds (speaker : Speaker) : Type 0 where
  pub numbered : AreNumberedFrom 0 speaker.end.sent
  pub apart : Apart (ids speaker.end.inbox)
  pub said : (m : Message) → Has speaker.said m → Backs speaker.end.sent speaker.end.inbox m

-- from one endpoint to the other: each entry was submitted, and each receipted submission was received
pub record Holds (sender receiver : End) : Type 0 where
  pub submitted : (n : ℕ) (entry : InboxEntry) → slice_get receiver.inbox n ≡ Some entry
      → (s : Sent) × Has sender.sent s × CameFrom s entry (receiver.confirmed ≤ n)
  pub receipted : (s : Sent) → Has sender.sent s → s.mark ≡ mark.Receipted → Has (ids receiver.inbox) s.submission.header.id

-- of both speakers, in both directions
pub record WorldHolds (world : World) : Type 0 where
  pub left : SpeakerHolds world.left
  pub right : SpeakerHolds world.right
  pub to_right : Holds world.left.end world.right.end
  pub to_left : Holds world.right.end world.left.end

-- a signal that was backed is backed later
backs_signal_later : (old new : List InboxEntry) (ref_to : Option (List ℕ)) (b : SignalBody)
    → ((id : List ℕ) → Has (ids old) id → Has (ids new) id)
    → BacksSignal old ref_to b → BacksSignal new ref_to b
backs_signal_later old new ref_to (body.Receipt copy) known backs = λ id e. known id (backs id e)
backs_signal_later old new ref_to (body.Pull mpc) known backs = tt
backs_signal_later old new ref_to (body.Errors items) known backs = tt

-- a message that was backed is backed later
backs_later : (w : What) (r : Reply) (old new : End) (m : Message) → EndGoes w r old new → Backs old.sent old.inbox m
    → Backs new.sent new.inbox m
backs_later w r old new (message.User header payloads) goes backs =
    let t = goes.sent.kept backs.0 backs.1 in (t.0, t.1, ap (λ s. s.header) t.2 ∙ backs.2, ap (λ s. s.payloads) t.2 ∙ backs.3)
backs_later w r old new (message.Signal signal) goes backs =
    backs_signal_later old.inbox new.inbox signal.ref_to signal.body goes.inbox.known backs
backs_later w r old new (message.Pair pair) goes backs =
    backs_signal_later old.inbox new.inbox pair.receipt.ref_to pair.receipt.body goes.inbox.known backs

-- a sent message is old, or was sent in this act
said_either : (lost : Bool) (said new : List Message) (m : Message) → Has (if lost then said else said ++ new) m
    → Has said m ⊎ Has new m
said_either true said new m h = inl h
said_either false said new m h = has_either said new m h

-- the result of an act
act_goes : (act : Act) (speaker other : Speaker) → SpeakerHolds speaker → MayAct act speaker other
    → EndGoes act.event.what act.outcome.reply speaker.end (acted act speaker).end
act_goes act speaker other holds may = step_goes act.modes speaker.end act.event act.outcome holds.numbered may.step

-- after an act at the speaker
pub speaker_acts : (act : Act) (speaker other : Speaker) → SpeakerHolds speaker → MayAct act speaker other → SpeakerHolds (acted act speaker)
speaker_acts act speaker other holds may = record {
  numbered = goes.sent.numbered;
  apart = goes.inbox.apart holds.apart;
  said = λ m h. elim (said_either act.lost speaker.said (sends act.outcome.reply) m h) [
    | inl old ↦ backs_later act.event.what act.outcome.reply speaker.end (acted act speaker).end m goes (holds.said m old)
    | inr new ↦ goes.says m new
  ];
}
  where
    goes : EndGoes act.event.what act.outcome.reply speaker.end (acted act speaker).end
    goes = act_goes act speaker other holds may

-- the other endpoint backs a received message
heard : (w : What) (m : Message) (other : Speaker) → SpeakerHolds other → IsHeard other.said w → w ≡ what.Came m
    → Backs other.end.sent other.end.inbox m
heard w m other holds h e = holds.said m (has_contained other.said m (subst (IsHeard other.said) e h))

-- a receipt that is received is for a message that the other endpoint knows
receipt_heard : (w : What) (s : Sent) (other : Speaker) → SpeakerHolds other → IsHeard other.said w → Receipts w s.submission
    → Has (ids other.end.inbox) s.submission.header.id
receipt_heard w s other holds h r =
    let backs : BacksSignal other.end.inbox r.signal.ref_to r.signal.body = elim (brings_either w r.signal r.came) [
      | inl came ↦ heard w (message.Signal r.signal) other holds h came
      | inr came ↦ subst (λ (signal : Signal). BacksSignal other.end.inbox signal.ref_to signal.body) came.2
          (heard w (message.Pair came.0) other holds h came.1)
    ] in
    let of_receipt : BacksSignal other.end.inbox r.signal.ref_to (body.Receipt r.copy) =
    subst (BacksSignal other.end.inbox r.signal.ref_to) r.receipt backs in
    of_receipt s.submission.header.id r.names

-- the sender acts
sender_acts : (act : Act) (speaker other : Speaker) → SpeakerHolds speaker → SpeakerHolds other → MayAct act speaker other
    → Holds speaker.end other.end
    → Holds (acted act speaker).end other.end
sender_acts act speaker other holds other_holds may h = record {
  submitted = λ n entry at. later entry (other.end.confirmed ≤ n) (h.submitted n entry at);
  receipted = λ t there m. of_receipted t (receipted_by act.event.what speaker.end.sent (acted act speaker).end.sent t goes.sent there m);
}
  where
    goes : EndGoes act.event.what act.outcome.reply speaker.end (acted act speaker).end
    goes = act_goes act speaker other holds may

    later : (entry : InboxEntry) (kept : Type 0) → (s : Sent) × Has speaker.end.sent s × CameFrom s entry kept
        → (s : Sent) × Has (acted act speaker).end.sent s × CameFrom s entry kept
    later entry kept s =
        let t = goes.sent.kept s.0 s.1 in
        (t.0, t.1, record { header = s.2.header ∙ ap (λ u. u.header) (sym t.2); payloads = λ k. s.2.payloads k ∙ ap (λ u. u.payloads) (sym t.2) })

    of_receipted : (t : Sent)
        → ((s : Sent) × Has speaker.end.sent s × (s.mark ≡ mark.Receipted) × (s.submission ≡ t.submission)) ⊎ Receipts act.event.what t.submission
        → Has (ids other.end.inbox) t.submission.header.id
    of_receipted t (inl s) = subst (Has (ids other.end.inbox)) (ap (λ u. u.header.id) s.3) (h.receipted s.0 s.1 s.2)
    of_receipted t (inr r) = receipt_heard act.event.what t other other_holds may.heard r

-- the receiver acts
receiver_acts : (act : Act) (speaker other : Speaker) → SpeakerHolds speaker → SpeakerHolds other → MayAct act speaker other
    → Holds other.end speaker.end
    → Holds other.end (acted act speaker).end
receiver_acts act speaker other holds other_holds may h = record {
  submitted = λ n entry at. came n entry (goes.inbox.entries n entry at);
  receipted = λ s there m. goes.inbox.known s.submission.header.id (h.receipted s there m);
}
  where
    goes : EndGoes act.event.what act.outcome.reply speaker.end (acted act speaker).end
    goes = act_goes act speaker other holds may

    came : (n : ℕ) (entry : InboxEntry)
        → Stood speaker.end.inbox speaker.end.confirmed n entry ((acted act speaker).end.confirmed ≤ n)
        ⊎ (act.event.what ≡ what.Came (message.User entry.header entry.payloads))
        → (s : Sent) × Has other.end.sent s × CameFrom s entry ((acted act speaker).end.confirmed ≤ n)
    came n entry (inl old) =
        let s = h.submitted n old.before old.there in
        (s.0, s.1, record { header = old.header ∙ s.2.header; payloads = λ k. old.payloads k ∙ s.2.payloads (old.unconfirmed k) })
    came n entry (inr new) =
        let s = heard act.event.what (message.User entry.header entry.payloads) other other_holds may.heard new in
        (s.0, s.1, record { header = sym s.2; payloads = λ k. sym s.3 })

-- after an act at either site
pub world_acts : (site : Site) (act : Act) (world : World) → WorldHolds world → MayHappenAt site act world
    → WorldHolds (world_at site act world)
world_acts Left act world holds may = record {
  left = speaker_acts act world.left world.right holds.left may;
  right = holds.right;
  to_right = sender_acts act world.left world.right holds.left holds.right may holds.to_right;
  to_left = receiver_acts act world.left world.right holds.left holds.right may holds.to_left;
}
world_acts Right act world holds may = record {
  left = holds.left;
  right = speaker_acts act world.right world.left holds.right may;
  to_right = receiver_acts act world.right world.left holds.right holds.left may holds.to_right;
  to_left = sender_acts act world.right world.left holds.right holds.left may holds.to_left;
}

-- compaction of the journal changes nothing else
speaker_folds : (size : ℕ) (speaker : Speaker) → SpeakerHolds speaker → SpeakerHolds (folded size speaker)
speaker_folds size speaker holds = record { numbered = holds.numbered; apart = holds.apart; said = holds.said }

world_folds : (site : Site) (size : ℕ) (world : World) → WorldHolds world → WorldHolds (folded_at site size world)
world_folds Left size world holds = record {
  left = speaker_folds size world.left holds.left;
  right = holds.right;
  to_right = record { submitted = holds.to_right.submitted; receipted = holds.to_right.receipted };
  to_left = record { submitted = holds.to_left.submitted; receipted = holds.to_left.receipted };
}
world_folds Right size world holds = record {
  left = holds.left;
  right = speaker_folds size world.right holds.right;
  to_right = record { submitted = holds.to_right.submitted; receipted = holds.to_right.receipted };
  to_left = record { submitted = holds.to_left.submitted; receipted = holds.to_left.receipted };
}

-- whatever happens
pub world_holds : (all : List Happening) (world : World) → WorldHolds world → MayHappen all world
    → WorldHolds (world_after all world)
world_holds [] world holds may = holds
world_holds (Does act ∷ later) world holds may =
    world_holds later (world_at act.site act world) (world_acts act.site act world holds may.0) may.1
world_holds (Folds site size ∷ later) world holds may =
    world_holds later (folded_at site size world) (world_folds site size world holds) may.1

-- at the start
pub new_world_holds : WorldHolds new_world
new_world_holds = record {
  left = record { numbered = none_numbered; apart = tt; said = λ m h. absurd h };
  right = record { numbered = none_numbered; apart = tt; said = λ m h. absurd h };
  to_right = record { submitted = λ n entry at. absurd cc; receipted = λ s h. absurd h };
  to_left = record { submitted = λ n entry at. absurd cc; receipted = λ s h. absurd h };
}
