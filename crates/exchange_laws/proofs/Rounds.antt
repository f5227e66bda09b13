-- A round of three acts, between the speakers at either site.
use Rattle.std.proofs.Common.{◌≡◌, ℕ, suc, inl, inr, List, [], ◌∷◌, ◌++◌, Bool, true, false, Some, refl, sym, ap, ◌∙◌, subst}
use Rattle.std.specs.Prelude.{if◌then◌else◌, slice_get}
use Rattle.std.specs.List.{Contains}
use Rattle.as4_effects.specs.declared.submission.Submission.{Submission}
use Rattle.as4_values.specs.declared.header.UserHeader.{UserHeader}
use Rattle.as4_values.specs.declared.message.Message.{Message}
use Rattle.as4_values.specs.declared.message.Message.TheVariants as message
use Rattle.as4_values.specs.declared.signal.Signal.{Signal}
use Rattle.as4_values.specs.declared.signal_body.SignalBody.TheVariants as body
use Rattle.exchange_model.specs.Causes.{BringsSignal}
use Rattle.exchange_model.specs.End.{End}
use Rattle.exchange_model.specs.LosslessRound.{IsNext, IsAskedFor, IsBroughtOver, IsSettled, SendsOne, StandsIn, ThirdSettles, SecondSettles, ARoundSettles, behind_act}
use Rattle.exchange_model.specs.Numbered.{AreNumberedFrom}
use Rattle.exchange_model.specs.Questions.{is_known, sent_of}
use Rattle.exchange_model.specs.Table.{IsOther, message_of}
use Rattle.exchange_model.specs.World.{Act, Speaker, World, Site, Left, Right, sends, MayAct, MayHappenAt, acted, across, speaker_at, world_at}
use Rattle.exchange_model.specs.declared.inbox_entry.InboxEntry.{InboxEntry}
use Rattle.as4_effects.specs.declared.mark.Mark.TheVariants as mark
use Rattle.exchange_model.specs.declared.sent.Sent.{Sent}
use Rattle.exchange_model.specs.declared.what.What.{What}
use Rattle.exchange_model.proofs.ListLemmas.{Has}
use Rattle.exchange_model.proofs.NumberedLemmas.{one_number}
use Rattle.exchange_laws.proofs.ListLemmas.{contains_had, had_right}
use Rattle.exchange_laws.proofs.SentLemmas.{one_of_number, sent_of_own}
use Rattle.exchange_laws.proofs.InboxLemmas.{ids, known_has}
use Rattle.exchange_laws.proofs.RoundLemmas.{IsPendingAt, IsOut, out_sends, IsDelivered, over_delivers, back_settles}
use Rattle.exchange_laws.proofs.WorldLemmas.{SpeakerHolds, Holds, WorldHolds, speaker_acts, world_acts}

-- the speakers at the two sites, before and after an act at one of them
may_act : (site : Site) (act : Act) (world : World) → MayHappenAt site act world
    → MayAct act (speaker_at site world) (speaker_at (across site) world)
may_act Left act world may = may
may_act Right act world may = may

speaker_acted : (site : Site) (act : Act) (world : World) → speaker_at site (world_at site act world) ≡ acted act (speaker_at site world)
speaker_acted Left act world = refl
speaker_acted Right act world = refl

other_rests : (site : Site) (act : Act) (world : World) → speaker_at (across site) (world_at site act world) ≡ speaker_at (across site) world
other_rests Left act world = refl
other_rests Right act world = refl

speaker_rests : (site : Site) (act : Act) (world : World) → speaker_at site (world_at (across site) act world) ≡ speaker_at site world
speaker_rests Left act world = refl
speaker_rests Right act world = refl

speaker_holds : (site : Site) (world : World) → WorldHolds world → SpeakerHolds (speaker_at site world)
speaker_holds Left world holds = holds.left
speaker_holds Right world holds = holds.right

holds_across : (site : Site) (world : World) → WorldHolds world → Holds (speaker_at site world).end (speaker_at (across site) world).end
holds_across Left world holds = holds.to_right
holds_across Right world holds = holds.to_left

-- an act that is next
next_may : (site : Site) (act : Act) (world : World) → IsNext site world act → MayHappenAt site act world
next_may site act world next = subst (λ (a : Site). MayHappenAt a act world) next.here next.may.0

behind_at : (site : Site) (act : Act) (world : World) → act.site ≡ site → behind_act act world ≡ world_at site act world
behind_at site act world here = ap (λ (a : Site). world_at a act world) here

-- the other endpoint may receive the message that it sends, unless the reply is lost
said_then : (act : Act) (speaker : Speaker) (m : Message) → sends act.outcome.reply ≡ m ∷ [] → act.lost ≡ false
    → Contains (acted act speaker).said m
said_then act speaker m one kept = contains_had (acted act speaker).said m
    (subst (λ (said : List Message). Has said m) (sym said) (had_right speaker.said (m ∷ []) m (inl refl)))
  where
    said : (acted act speaker).said ≡ speaker.said ++ m ∷ []
    said =
        ap (λ (b : Bool). if b then speaker.said else speaker.said ++ sends act.outcome.reply) kept
        ∙ ap (λ (ms : List Message). speaker.said ++ ms) one

sends_one : (site : Site) (world : World) (act : Act) (m : Message) → act.site ≡ site → sends act.outcome.reply ≡ m ∷ []
    → SendsOne site world act m
sends_one site world act m here one = record {
  one = one;
  heard = λ kept. subst (λ (w : World). Contains (speaker_at site w).said m) (sym (behind_at site act world here))
      (subst (λ (p : Speaker). Contains p.said m) (sym (speaker_acted site act world)) (said_then act (speaker_at site world) m one kept));
}

-- the submission is receipted
abbrev IsReceiptedAt : Submission → Speaker → Type 0
IsReceiptedAt u speaker = (t : Sent) × (sent_of u.header.id speaker.end.sent ≡ Some t) × (t.mark ≡ mark.Receipted)

-- the inbox entry with this identifier is the message of the submission
entry_of : (id : List ℕ) (inbox : List InboxEntry) → Has (ids inbox) id
    → (n : ℕ) × (entry : InboxEntry) × (slice_get inbox n ≡ Some entry) × (entry.header.id ≡ id)
entry_of id [] h = absurd h
entry_of id (e ∷ es) (inl same) = (0, e, refl, same)
entry_of id (e ∷ es) (inr h) = let later = entry_of id es h in (suc later.0, later.1, later.2, later.3)

known_stands : (s : Sent) (sender receiver : End) → AreNumberedFrom 0 sender.sent → Holds sender receiver → IsPendingAt s.submission sender
    → is_known s.submission.header.id receiver.inbox ≡ true → StandsIn s receiver
known_stands s sender receiver numbered holds pending known =
    let at = entry_of s.submission.header.id receiver.inbox (known_has s.submission.header.id receiver.inbox known) in
    let from = holds.submitted at.0 at.1 at.2 in
    let id : from.0.submission.header.id ≡ s.submission.header.id = ap (λ (h : UserHeader). h.id) (sym from.2.header) ∙ at.3 in
    let number : from.0.submission.number ≡ pending.0.submission.number =
    one_number from.0.submission s.submission id ∙ ap (λ (u : Submission). u.number) (sym pending.2) in
    let one : from.0 ≡ pending.0 = one_of_number sender.sent from.0 pending.0 numbered from.1 pending.1 number in
    let same : from.0.submission ≡ s.submission = ap (λ (t : Sent). t.submission) one ∙ pending.2 in (
      at.0,
      at.1,
      at.2,
      record {
        header = from.2.header ∙ ap (λ (u : Submission). u.header) same;
        payloads = λ k. from.2.payloads k ∙ ap (λ (u : Submission). u.payloads) same;
      },
    )

-- the third act
third : (site : Site) (s : Sent) (world : World) (signal : Signal) → WorldHolds world
    → IsPendingAt s.submission (speaker_at site world).end
    → StandsIn s (speaker_at (across site) world).end
    → signal.ref_to ≡ Some s.submission.header.id → signal.body ≡ body.Receipt (Some s.submission.header)
    → ThirdSettles site s (message.Signal signal) world
third site s world signal holds pending stands refers copies back next came =
    subst (IsSettled site s) (sym (behind_at site back world next.here)) (record {
      receipted = subst (IsReceiptedAt s.submission) (sym (speaker_acted site back world)) receipted;
      delivered = subst (λ (p : Speaker). StandsIn s p.end) (sym (other_rests site back world)) stands;
    })
  where
    speaker : Speaker
    speaker = speaker_at site world

    may : MayAct back speaker (speaker_at (across site) world)
    may = may_act site back world (next_may site back world next)

    last : Speaker
    last = acted back speaker

    last_holds : SpeakerHolds last
    last_holds = speaker_acts back speaker (speaker_at (across site) world) (speaker_holds site world holds) may

    settled : Sent
    settled = record pending.0 { mark = mark.Receipted }

    own_copy : IsOther (Some s.submission.header) pending.0.submission.header → ⊥
    own_copy other = other (ap (λ (u : Submission). u.header) (sym pending.2))

    there : Has last.end.sent settled
    there =
        back_settles back speaker.end pending.0 signal (Some s.submission.header) may.step next.roomy
        (subst (λ (w : What). BringsSignal back.modes w signal) (sym came) refl)
        (refers ∙ ap (λ (u : Submission). Some u.header.id) (sym pending.2)) copies own_copy
        (speaker_holds site world holds).numbered pending.1 pending.3

    receipted : IsReceiptedAt s.submission last
    receipted = (
      settled,
      ap (λ (u : Submission). sent_of u.header.id last.end.sent) (sym pending.2) ∙ sent_of_own last.end.sent settled last_holds.numbered there,
      refl,
    )

-- the second act
second : (site : Site) (s : Sent) (world : World) → WorldHolds world → IsPendingAt s.submission (speaker_at site world).end
    → SecondSettles site s world
second site s world holds pending over next brought = (
  message.Signal delivered.signal,
  sends_one (across site) world over (message.Signal delivered.signal) next.here (ap sends delivered.answers),
  subst (ThirdSettles site s (message.Signal delivered.signal)) (sym (behind_at (across site) over world next.here))
      (third site s (world_at (across site) over world) delivered.signal
      (world_acts (across site) over world holds (next_may (across site) over world next))
      (subst (λ (p : Speaker). IsPendingAt s.submission p.end) (sym (speaker_rests site over world)) pending)
      (subst (λ (p : Speaker). StandsIn s p.end) (sym (speaker_acted (across site) over world)) delivered.stands)
      delivered.refers delivered.copies),
)
  where
    other : Speaker
    other = speaker_at (across site) world

    delivered : IsDelivered s over.outcome.reply (acted over other).end
    delivered =
        over_delivers over other.end s (may_act (across site) over world (next_may (across site) over world next)).step
        next.roomy brought.message brought.mode
        (known_stands s (speaker_at site world).end other.end (speaker_holds site world holds).numbered (holds_across site world holds) pending)

-- the first act
pub settles : (site : Site) (s : Sent) (world : World) → WorldHolds world → ARoundSettles site s world
settles site s world holds out next asked = (
  sends_one site world out (message_of s.submission) next.here handed.sent,
  subst (SecondSettles site s) (sym (behind_at site out world next.here))
      (second site s (world_at site out world) (world_acts site out world holds (next_may site out world next))
      (subst (λ (p : Speaker). IsPendingAt s.submission p.end) (sym (speaker_acted site out world)) handed.pends)),
)
  where
    speaker : Speaker
    speaker = speaker_at site world

    handed : IsOut s out.outcome (acted out speaker).end
    handed = out_sends out speaker.end s (may_act site out world (next_may site out world next)).step next.roomy asked
