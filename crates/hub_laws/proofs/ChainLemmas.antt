-- Invariants of a chain, whatever has happened.
--
-- A chain isn't two worlds side by side: on each link the hub also changes by what the other link brings. So each link
-- keeps what a world keeps in one direction alone, from the first endpoint to the hub and from the hub to the last. Four
-- small facts exclude all else. The first endpoint never asks, so the hub sends it no user message, its inbox stays empty,
-- and it sends no receipt: each receipt for a submission of the hub came from the last endpoint. The last endpoint never
-- submits, so each entry of the hub's inbox came from the first.
use Rattle.std.proofs.Common.{◌≡◌, ℕ, ◌≤◌, ◌⊎◌, inl, inr, List, [], ◌∷◌, ◌++◌, Bool, true, false, Some, length, map, refl, sym, ap, ◌∙◌, subst}
use Rattle.std.specs.Prelude.{slice_get, if◌then◌else◌}
use Rattle.as4_effects.specs.declared.submission.Submission.{Submission}
use Rattle.as4_values.specs.declared.header.UserHeader.{UserHeader}
use Rattle.as4_values.specs.declared.message.Message.{Message}
use Rattle.as4_values.specs.declared.message.Message.TheVariants as message
use Rattle.as4_values.specs.declared.payload.Load.{Load}
use Rattle.as4_values.specs.declared.payload.Payload.{Payload}
use Rattle.exchange_model.specs.DeliveredOnce.{CameFrom}
use Rattle.exchange_model.specs.End.{End}
use Rattle.exchange_model.specs.LosslessRound.{IsAskedFor}
use Rattle.exchange_model.specs.World.{Act, Happening, Does, Folds, IsHeard, MayAct, MayHappen, MayHappenAt, Site, Left, Right, Speaker, acted, folded, folded_at, sends, world_after, world_at}
use Rattle.exchange_model.specs.declared.inbox_entry.InboxEntry.{InboxEntry}
use Rattle.exchange_model.specs.declared.sent.Sent.{Sent}
use Rattle.exchange_model.specs.declared.what.What.{What}
use Rattle.exchange_model.specs.declared.what.What.TheVariants as what
use Rattle.exchange_model.proofs.ListLemmas.{Has}
use Rattle.exchange_model.proofs.NumberedLemmas.{none_numbered}
use Rattle.exchange_laws.proofs.AskedLemmas.{step_asked}
use Rattle.exchange_laws.proofs.EndSteps.{EndGoes}
use Rattle.exchange_laws.proofs.InboxLemmas.{ids}
use Rattle.exchange_laws.proofs.InboxSteps.{Stays}
use Rattle.exchange_laws.proofs.ListLemmas.{has_contained, has_either}
use Rattle.exchange_laws.proofs.OutcomeKinds.{IsTakenIn}
use Rattle.exchange_laws.proofs.StepLemmas.{step_goes}
use Rattle.exchange_laws.proofs.WorldLemmas.{Holds, SpeakerHolds, speaker_acts}
use Rattle.hub_laws.specs.Chain.{Chain, Front, Link, MayAllPass, Meets, MeetsAt, MeetsFirst, MeetsFront, MeetsLast, MeetsRear, Passing, Rear, Relays, chain_after, loads_of, new_chain, next_chain, with_world, world_on}
use Rattle.hub_laws.specs.DeliveredThrough.{HasLoadsOf}
use Rattle.hub_laws.proofs.AskingLemmas.{AsksNone, IsNoAsk, IsNoPull, step_asks_none}
use Rattle.hub_laws.proofs.LinkLemmas.{heard, receipt_heard, receiver_goes, sender_goes, sent_from}
use Rattle.hub_laws.proofs.ListLemmas.{none_got}

abbrev IsNoUser : Message → Type 0
IsNoUser (message.User header payloads) = ⊥
IsNoUser (message.Signal signal) = Unit {0}
IsNoUser (message.Pair pair) = Unit {0}

-- submission `n` of the hub has the conversation and the loads of a submission of the first endpoint, whose message is
-- entry `n` of the hub's inbox. The entry's payloads aren't named: it may be confirmed since
pub record IsRelayed (first : List Sent) (inbox : List InboxEntry) (n : ℕ) (relayed : Submission) : Type 0 where
  pub source : Sent
  pub submitted : Has first source
  pub entry : InboxEntry
  pub there : slice_get inbox n ≡ Some entry
  pub header : entry.header ≡ source.submission.header
  pub talks : relayed.header.conversation ≡ source.submission.header.conversation
  pub loads : HasLoadsOf relayed.payloads source.submission.payloads

-- the hub as an endpoint of a link
abbrev pub hub_in_front : Chain → Speaker
hub_in_front chain = record { end = chain.hub; said = chain.back }

abbrev pub hub_in_rear : Chain → Speaker
hub_in_rear chain = record { end = chain.hub; said = chain.onwards }

pub record ChainHolds (chain : Chain) : Type 0 where
  pub first : SpeakerHolds chain.first
  pub back : SpeakerHolds (hub_in_front chain)
  pub onwards : SpeakerHolds (hub_in_rear chain)
  pub last : SpeakerHolds chain.last
  pub to_hub : Holds chain.first.end chain.hub
  pub to_last : Holds chain.hub chain.last.end
  pub gets_none : chain.first.end.inbox ≡ []
  pub asks_none : (m : Message) → Has chain.first.said m → AsksNone m
  pub submits_none : chain.last.end.sent ≡ []
  pub hands_none : (m : Message) → Has chain.back m → IsNoUser m
  pub relayed : (n : ℕ) (t : Sent) → slice_get chain.hub.sent n ≡ Some t → IsRelayed chain.first.end.sent chain.hub.inbox n t.submission

-- an empty list
got_none : {X : Type 0} (xs : List X) (n : ℕ) (x : X) → xs ≡ [] → slice_get xs n ≡ Some x → ⊥
got_none [] n x e at = cc
got_none (y ∷ xs) n x e at = cc

has_none : {X : Type 0} (xs : List X) (x : X) → xs ≡ [] → Has xs x → ⊥
has_none xs x e h = subst (λ (ys : List _). Has ys x) e h

-- a sent message is old, or was sent in this act
said_either : (lost : Bool) (said new : List Message) (m : Message) → Has (if lost then said else said ++ new) m
    → Has said m ⊎ Has new m
said_either true said new m h = inl h
said_either false said new m h = has_either said new m h

-- the endpoint after an act
act_goes : (act : Act) (speaker other : Speaker) → SpeakerHolds speaker → MayAct act speaker other
    → EndGoes act.event.what act.outcome.reply speaker.end (acted act speaker).end
act_goes act speaker other holds may = step_goes act.modes speaker.end act.event act.outcome holds.numbered may.step

-- which events an endpoint doesn't meet
first_asks_none : (w : What) → MeetsFirst w → IsNoAsk w
first_asks_none (what.Submit mode conversation loads) meets = tt
first_asks_none what.Tick meets = tt
first_asks_none what.Take meets = tt
first_asks_none (what.Ask mode) meets = absurd meets
first_asks_none (what.AskWith mode n) meets = absurd meets
first_asks_none (what.Came m) meets = tt
first_asks_none (what.Read n) meets = absurd meets
first_asks_none (what.Confirm upto) meets = absurd meets
first_asks_none (what.Status id) meets = tt

-- the source stays a submission of the first endpoint, and the entry stays in the hub's inbox
source_kept : (old new : List Sent) (inbox : List InboxEntry) (n : ℕ) (u : Submission)
    → ((s : Sent) → Has old s → (t : Sent) × Has new t × (t.submission ≡ s.submission)) → IsRelayed old inbox n u
    → IsRelayed new inbox n u
source_kept old new inbox n u kept relayed =
    let later = kept relayed.source relayed.submitted in
    let same : relayed.source.submission ≡ later.0.submission = sym later.2 in
    record {
      source = later.0;
      submitted = later.1;
      entry = relayed.entry;
      there = relayed.there;
      header = relayed.header ∙ ap (λ (s : Submission). s.header) same;
      talks = relayed.talks ∙ ap (λ (s : Submission). s.header.conversation) same;
      loads = subst (λ (s : Submission). HasLoadsOf u.payloads s.payloads) same relayed.loads;
    }

entry_kept : (w : What) (act : Act) (first : List Sent) (old new : End) (n : ℕ) (s t : Submission) → EndGoes w act.outcome.reply old new
    → t ≡ s → IsRelayed first old.inbox n s → IsRelayed first new.inbox n t
entry_kept w act first old new n s t goes same relayed =
    let later = goes.inbox.stays n relayed.entry relayed.there in
    record {
      source = relayed.source;
      submitted = relayed.submitted;
      entry = later.later;
      there = later.there;
      header = later.header ∙ relayed.header;
      talks = ap (λ (u : Submission). u.header.conversation) same ∙ relayed.talks;
      loads = subst (λ (u : Submission). HasLoadsOf u.payloads relayed.source.submission.payloads) (sym same) relayed.loads;
    }

-- an act of the first endpoint
first_acts : (act : Act) (chain : Chain) → ChainHolds chain → MayAct act chain.first (hub_in_front chain) → MeetsFirst act.event.what
    → ChainHolds (record chain { first = acted act chain.first })
first_acts act chain holds may meets = record {
  first = speaker_acts act chain.first (hub_in_front chain) holds.first may;
  back = holds.back;
  onwards = holds.onwards;
  last = holds.last;
  to_hub = sender_goes act.event.what act.outcome.reply chain.first.end new chain.hub goes
      (λ s. receipt_heard act.event.what s (hub_in_front chain) holds.back may.heard) holds.to_hub;
  to_last = holds.to_last;
  gets_none = none_got new.inbox none;
  asks_none = λ m h. elim (said_either act.lost chain.first.said (sends act.outcome.reply) m h) [
    | inl old ↦ holds.asks_none m old
    | inr now ↦ step_asks_none act.modes chain.first.end act.event act.outcome m may.step (first_asks_none act.event.what meets) now
  ];
  submits_none = holds.submits_none;
  hands_none = holds.hands_none;
  relayed = λ n t at. source_kept chain.first.end.sent new.sent chain.hub.inbox n t.submission goes.sent.kept (holds.relayed n t at);
}
  where
    new : End
    new = (acted act chain.first).end

    goes : EndGoes act.event.what act.outcome.reply chain.first.end new
    goes = act_goes act chain.first (hub_in_front chain) holds.first may

    none : (n : ℕ) (entry : InboxEntry) → slice_get (acted act chain.first).end.inbox n ≡ Some entry → ⊥
    none n entry at = elim (goes.inbox.entries n entry at) [
      | inl stood ↦ got_none chain.first.end.inbox n stood.before holds.gets_none stood.there
      | inr came ↦ holds.hands_none (message.User entry.header entry.payloads)
          (has_contained chain.back (message.User entry.header entry.payloads) (subst (IsHeard chain.back) came may.heard))
    ]

-- the hub receives a message of the first endpoint and answers it
hub_answers : (act : Act) (chain : Chain) → ChainHolds chain → MayAct act (hub_in_front chain) chain.first → MeetsFront act.event.what
    → ChainHolds (record chain { hub = (acted act (hub_in_front chain)).end; back = (acted act (hub_in_front chain)).said })
hub_answers act chain holds may meets = record {
  first = holds.first;
  back = speaker_acts act (hub_in_front chain) chain.first holds.back may;
  onwards = speaker_acts (record act { lost = true }) (hub_in_rear chain) chain.first holds.onwards (record { heard = may.heard; step = may.step });
  last = holds.last;
  to_hub = receiver_goes act.event.what act.outcome.reply chain.first.end chain.hub new goes
      (λ header payloads. heard act.event.what (message.User header payloads) chain.first holds.first may.heard) holds.to_hub;
  to_last = sender_goes act.event.what act.outcome.reply chain.hub new chain.last.end goes
      (λ s r. absurd (has_none (ids chain.first.end.inbox) s.header.id (ap ids holds.gets_none)
      (receipt_heard act.event.what s chain.first holds.first may.heard r))) holds.to_last;
  gets_none = holds.gets_none;
  asks_none = holds.asks_none;
  submits_none = holds.submits_none;
  hands_none = λ m h. elim (said_either act.lost chain.back (sends act.outcome.reply) m h) [
    | inl old ↦ holds.hands_none m old
    | inr now ↦ hands m now
  ];
  relayed = λ n t at. elim (sent_from act.modes chain.hub act.event act.outcome n t holds.back.numbered may.step at) [
    | inl was ↦ entry_kept act.event.what act chain.first.end.sent chain.hub new n was.one.submission t.submission goes was.same
        (holds.relayed n was.one was.there)
    | inr next ↦ absurd (subst MeetsFront next.taken.asked meets)
  ];
}
  where
    new : End
    new = (acted act (hub_in_front chain)).end

    goes : EndGoes act.event.what act.outcome.reply chain.hub new
    goes = act_goes act (hub_in_front chain) chain.first holds.back may

    asked : (s : Sent) → IsAskedFor s act chain.hub → ⊥
    asked s (inl take) = subst MeetsFront take.0 meets
    asked s (inr (inl pulls)) =
        subst IsNoPull pulls.2.1 (holds.asks_none (message.Signal pulls.0)
        (has_contained chain.first.said (message.Signal pulls.0) (subst (IsHeard chain.first.said) pulls.1 may.heard)))
    asked s (inr (inr pairs)) =
        holds.asks_none (message.Pair pairs.0)
        (has_contained chain.first.said (message.Pair pairs.0) (subst (IsHeard chain.first.said) pairs.1 may.heard))

    hands : (m : Message) → Has (sends act.outcome.reply) m → IsNoUser m
    hands (message.User header payloads) h = let sent = step_asked act chain.hub header payloads may.step h in asked sent.0 sent.1
    hands (message.Signal signal) h = tt
    hands (message.Pair pair) h = tt

-- the loads of an entry are its payloads' media and contents
medias_of : (payloads : List Payload)
    → map (λ (load : Load). load.media) (loads_of payloads) ≡ map (λ (payload : Payload). payload.media) payloads
unfolding loads_of
medias_of [] = refl
medias_of (payload ∷ payloads) = ap (λ (rest : List (List ℕ)). payload.media ∷ rest) (medias_of payloads)

contents_of : (payloads : List Payload)
    → map (λ (load : Load). load.content) (loads_of payloads) ≡ map (λ (payload : Payload). payload.content) payloads
unfolding loads_of
contents_of [] = refl
contents_of (payload ∷ payloads) = ap (λ (rest : List (List ℕ)). payload.content ∷ rest) (contents_of payloads)

-- the hub submits what it relays
relays_next : (act : Act) (first hub new : End) (n : ℕ) (t : Submission) → Holds first hub → EndGoes act.event.what act.outcome.reply hub new
    → n ≡ length hub.sent → (taken : IsTakenIn act.modes act.event.what t) → Relays hub taken.conversation taken.loads
    → IsRelayed first.sent new.inbox n t
relays_next act first hub new n t holds goes place taken relays = record {
  source = source.0;
  submitted = source.1;
  entry = later.later;
  there = subst (λ k. slice_get new.inbox k ≡ Some later.later) (sym place) later.there;
  header = later.header ∙ source.2.header;
  talks = taken.talks ∙ relays.talks ∙ ap (λ (header : UserHeader). header.conversation) source.2.header;
  loads = record {
    medias = taken.medias ∙ ap (map (λ (load : Load). load.media)) relays.loaded ∙ medias_of relays.entry.payloads
        ∙ ap (map (λ (payload : Payload). payload.media)) submitted;
    contents = taken.contents ∙ ap (map (λ (load : Load). load.content)) relays.loaded ∙ contents_of relays.entry.payloads
        ∙ ap (map (λ (payload : Payload). payload.content)) submitted;
  };
}
  where
    source : (s : Sent) × Has first.sent s × CameFrom s relays.entry (hub.confirmed ≤ length hub.sent)
    source = holds.submitted (length hub.sent) relays.entry relays.there

    submitted : relays.entry.payloads ≡ source.0.submission.payloads
    submitted = source.2.payloads relays.waits

    later : Stays new.inbox (length hub.sent) relays.entry (new.confirmed ≤ length hub.sent)
    later = goes.inbox.stays (length hub.sent) relays.entry relays.there

-- any other act of the hub, or a message of the last endpoint
hub_acts : (act : Act) (chain : Chain) → ChainHolds chain → MayAct act (hub_in_rear chain) chain.last → MeetsRear chain.hub act.event.what
    → ChainHolds (record chain { hub = (acted act (hub_in_rear chain)).end; onwards = (acted act (hub_in_rear chain)).said })
hub_acts act chain holds may meets = record {
  first = holds.first;
  back = speaker_acts (record act { lost = true }) (hub_in_front chain) chain.last holds.back (record { heard = may.heard; step = may.step });
  onwards = speaker_acts act (hub_in_rear chain) chain.last holds.onwards may;
  last = holds.last;
  to_hub = receiver_goes act.event.what act.outcome.reply chain.first.end chain.hub new goes
      (λ header payloads e. none header payloads e) holds.to_hub;
  to_last = sender_goes act.event.what act.outcome.reply chain.hub new chain.last.end goes
      (λ s. receipt_heard act.event.what s chain.last holds.last may.heard) holds.to_last;
  gets_none = holds.gets_none;
  asks_none = holds.asks_none;
  submits_none = holds.submits_none;
  hands_none = holds.hands_none;
  relayed = λ n t at. elim (sent_from act.modes chain.hub act.event act.outcome n t holds.back.numbered may.step at) [
    | inl was ↦ entry_kept act.event.what act chain.first.end.sent chain.hub new n was.one.submission t.submission goes was.same
        (holds.relayed n was.one was.there)
    | inr next ↦ relays_next act chain.first.end chain.hub new n t.submission holds.to_hub goes next.place next.taken
        (subst (MeetsRear chain.hub) next.taken.asked meets)
  ];
}
  where
    new : End
    new = (acted act (hub_in_rear chain)).end

    goes : EndGoes act.event.what act.outcome.reply chain.hub new
    goes = act_goes act (hub_in_rear chain) chain.last holds.onwards may

    none : (header : UserHeader) (payloads : List Payload) → act.event.what ≡ what.Came (message.User header payloads)
        → (s : Sent) × Has chain.first.end.sent s × (s.submission.header ≡ header) × (s.submission.payloads ≡ payloads)
    none header payloads e =
        let backs = heard act.event.what (message.User header payloads) chain.last holds.last may.heard e in
        absurd (has_none chain.last.end.sent backs.0 holds.submits_none backs.1)

-- an act of the last endpoint
last_acts : (act : Act) (chain : Chain) → ChainHolds chain → MayAct act chain.last (hub_in_rear chain) → MeetsLast act.event.what
    → ChainHolds (record chain { last = acted act chain.last })
last_acts act chain holds may meets = record {
  first = holds.first;
  back = holds.back;
  onwards = holds.onwards;
  last = speaker_acts act chain.last (hub_in_rear chain) holds.last may;
  to_hub = holds.to_hub;
  to_last = receiver_goes act.event.what act.outcome.reply chain.hub chain.last.end new (act_goes act chain.last (hub_in_rear chain) holds.last may)
      (λ header payloads. heard act.event.what (message.User header payloads) (hub_in_rear chain) holds.onwards may.heard) holds.to_last;
  gets_none = holds.gets_none;
  asks_none = holds.asks_none;
  submits_none = none_got new.sent none;
  hands_none = holds.hands_none;
  relayed = holds.relayed;
}
  where
    new : End
    new = (acted act chain.last).end

    none : (n : ℕ) (t : Sent) → slice_get (acted act chain.last).end.sent n ≡ Some t → ⊥
    none n t at = elim (sent_from act.modes chain.last.end act.event act.outcome n t holds.last.numbered may.step at) [
      | inl was ↦ got_none chain.last.end.sent n was.one holds.submits_none was.there
      | inr next ↦ subst MeetsLast next.taken.asked meets
    ]

chain_acts : (link : Link) (site : Site) (act : Act) (chain : Chain) → ChainHolds chain → MayHappenAt site act (world_on link chain)
    → MeetsAt link site chain.hub act.event.what → ChainHolds (with_world link (world_at site act (world_on link chain)) chain)
chain_acts Front Left act chain holds may meets = first_acts act chain holds may meets
chain_acts Front Right act chain holds may meets = hub_answers act chain holds may meets
chain_acts Rear Left act chain holds may meets = hub_acts act chain holds may meets
chain_acts Rear Right act chain holds may meets = last_acts act chain holds may meets

-- compaction of a journal changes nothing else
speaker_folds : (size : ℕ) (speaker : Speaker) → SpeakerHolds speaker → SpeakerHolds (folded size speaker)
speaker_folds size speaker holds = record { numbered = holds.numbered; apart = holds.apart; said = holds.said }

first_folds : (size : ℕ) (chain : Chain) → ChainHolds chain → ChainHolds (record chain { first = folded size chain.first })
first_folds size chain holds = record {
  first = speaker_folds size chain.first holds.first;
  back = holds.back;
  onwards = holds.onwards;
  last = holds.last;
  to_hub = record { submitted = holds.to_hub.submitted; receipted = holds.to_hub.receipted };
  to_last = holds.to_last;
  gets_none = holds.gets_none;
  asks_none = holds.asks_none;
  submits_none = holds.submits_none;
  hands_none = holds.hands_none;
  relayed = holds.relayed;
}

hub_folds : (size : ℕ) (chain : Chain) → ChainHolds chain → ChainHolds (record chain { hub = (folded size (hub_in_front chain)).end })
hub_folds size chain holds = record {
  first = holds.first;
  back = speaker_folds size (hub_in_front chain) holds.back;
  onwards = speaker_folds size (hub_in_rear chain) holds.onwards;
  last = holds.last;
  to_hub = record { submitted = holds.to_hub.submitted; receipted = holds.to_hub.receipted };
  to_last = record { submitted = holds.to_last.submitted; receipted = holds.to_last.receipted };
  gets_none = holds.gets_none;
  asks_none = holds.asks_none;
  submits_none = holds.submits_none;
  hands_none = holds.hands_none;
  relayed = holds.relayed;
}

last_folds : (size : ℕ) (chain : Chain) → ChainHolds chain → ChainHolds (record chain { last = folded size chain.last })
last_folds size chain holds = record {
  first = holds.first;
  back = holds.back;
  onwards = holds.onwards;
  last = speaker_folds size chain.last holds.last;
  to_hub = holds.to_hub;
  to_last = record { submitted = holds.to_last.submitted; receipted = holds.to_last.receipted };
  gets_none = holds.gets_none;
  asks_none = holds.asks_none;
  submits_none = holds.submits_none;
  hands_none = holds.hands_none;
  relayed = holds.relayed;
}

chain_folds : (link : Link) (site : Site) (size : ℕ) (chain : Chain) → ChainHolds chain
    → ChainHolds (with_world link (folded_at site size (world_on link chain)) chain)
chain_folds Front Left size chain holds = first_folds size chain holds
chain_folds Front Right size chain holds = hub_folds size chain holds
chain_folds Rear Left size chain holds = hub_folds size chain holds
chain_folds Rear Right size chain holds = last_folds size chain holds

happens : (link : Link) (happening : Happening) (chain : Chain) → ChainHolds chain → MayHappen (happening ∷ []) (world_on link chain)
    → Meets link chain.hub happening → ChainHolds (with_world link (world_after (happening ∷ []) (world_on link chain)) chain)
happens link (Does act) chain holds may meets = chain_acts link act.site act chain holds may.0 meets
happens link (Folds site size) chain holds may meets = chain_folds link site size chain holds

-- whatever happens
pub chain_holds : (all : List Passing) (chain : Chain) → ChainHolds chain → MayAllPass all chain → ChainHolds (chain_after all chain)
chain_holds [] chain holds may = holds
chain_holds (passing ∷ later) chain holds may =
    chain_holds later (next_chain passing chain)
    (happens passing.link passing.happening chain holds may.0.happens may.0.meets) may.1

-- at the start
pub new_chain_holds : ChainHolds new_chain
new_chain_holds = record {
  first = record { numbered = none_numbered; apart = tt; said = λ m h. absurd h };
  back = record { numbered = none_numbered; apart = tt; said = λ m h. absurd h };
  onwards = record { numbered = none_numbered; apart = tt; said = λ m h. absurd h };
  last = record { numbered = none_numbered; apart = tt; said = λ m h. absurd h };
  to_hub = record { submitted = λ n entry at. absurd cc; receipted = λ s h. absurd h };
  to_last = record { submitted = λ n entry at. absurd cc; receipted = λ s h. absurd h };
  gets_none = refl;
  asks_none = λ m h. absurd h;
  submits_none = refl;
  hands_none = λ m h. absurd h;
  relayed = λ n t at. absurd cc;
}
