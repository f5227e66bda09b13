-- What the relaying of an office is at its end.
use Rattle.std.proofs.Common.{◌≡◌, ℕ, inl, inr, List, false, Some, Result, Ok, Err, length, ap, ◌∙◌, subst}
use Rattle.as4_disk.specs.Memory.{DiskState}
use Rattle.as4_disk.specs.MemoryMeaning.{memory_meaning}
use Rattle.as4_hub.proofs.StepLemmas.{first_end}
use Rattle.as4_hub.specs.Relaying.{FollowsRead as FollowsOffice, IsStepped, RelaysOnwards, TellsFault, TellsReply, TellsSecond}
use Rattle.as4_hub.specs.declared.ended.RelayEnd.{RelayEnd}
use Rattle.as4_values.specs.declared.header.UserHeader.{UserHeader}
use Rattle.as4_values.specs.declared.message.Message.{Message}
use Rattle.as4_values.specs.declared.payload.Payload.{Payload}
use Rattle.mode_values.specs.declared.mode.Mode.{Mode}
use Rattle.drill_script.specs.declared.line.EndName.{EndName}
use Rattle.drill_texts.specs.Texts.{reply_text, said_line}
use Rattle.drill_world.specs.Endpoints.{EndpointState}
use Rattle.drill_world.specs.Relaying.{FollowsRead, RelaysAt, SubmitsAt, reply_of}
use Rattle.exchange_model.specs.Apply.{applied}
use Rattle.exchange_model.specs.End.{End}
use Rattle.exchange_model.specs.Table.{Step}
use Rattle.exchange_model.specs.World.{Speaker}
use Rattle.exchange_model.specs.declared.reply.Reply.{Reply}
use Rattle.exchange_model.specs.declared.reply.Reply.TheVariants as reply
use Rattle.exchange_model.specs.declared.what.What.TheVariants as what
use Rattle.hub_laws.specs.Chain.{loads_of}
use Rattle.office.specs.State.{OfficeState}
use Rattle.office.specs.declared.call.Call.{Call}
use Rattle.office.specs.declared.fault.OfficeFault.{OfficeFault}
use Rattle.office.specs.declared.fault.OfficeFault.TheVariants as fault
use Rattle.pass_book.specs.States.{PassState}

-- the reply by which a relaying ended

ended_by : (end other : RelayEnd) (said : Reply) → end ≡ other → reply_of end ≡ Some said → reply_of other ≡ Some said
ended_by end other said is some = subst (λ (e : RelayEnd). reply_of e ≡ Some said) is some

told_reply : (end : RelayEnd) (r said : Reply) → TellsReply r end → reply_of end ≡ Some said → said ≡ r
told_reply end (reply.Submitted number id) said tells some = let same = ended_by end _ said tells some in cc
told_reply end reply.NoMode said tells some = let same = ended_by end _ said tells some in cc
told_reply end reply.OutboxFull said tells some = let same = ended_by end _ said tells some in cc
told_reply end reply.TooLarge said tells some = let same = ended_by end _ said tells some in cc
told_reply end (reply.Full size need) said tells some = let same = ended_by end _ said tells some in cc
told_reply end other said tells some = absurd tells

-- a fault has no reply
no_reply : (end : RelayEnd) (e : OfficeFault) (said : Reply) → TellsFault e end → reply_of end ≡ Some said → ⊥
no_reply end (fault.Disk before after) said tells some = let never = ended_by end _ said tells some in cc
no_reply end (fault.Stopped before after) said tells some = let never = ended_by end _ said tells some in cc
no_reply end fault.Worn said tells some = let never = ended_by end _ said tells some in cc
no_reply end fault.NoMemory said tells some = let never = ended_by end _ said tells some in cc

-- the end of an office, with what it has sent
abbrev pub end_of : OfficeState DiskState → List Message → EndpointState
end_of office said = record { speaker = record { end = office.end; said = said }; modes = office.modes }

module _ (old middle new : OfficeState DiskState) (pass seen passed : PassState Call) (said : List Message) (at : EndName) (mode : List ℕ) (stamp nonce : ℕ) (end : RelayEnd) (r : Reply) (text : List ℕ) (some : reply_of end ≡ Some r) (says : text ≡ said_line at (reply_text 0 false 0 r)) (same : middle.end ≡ old.end) (modes : middle.modes ≡ old.modes) where
  -- the same text, of another reply
  says_of : (other : Reply) → r ≡ other → text ≡ said_line at (reply_text 0 false 0 other)
  says_of other is = says ∙ ap (λ (q : Reply). said_line at (reply_text 0 false 0 q)) is

  -- nothing was done after the `Read`
  rests : new ≡ middle → (end_of new said).speaker ≡ (end_of old said).speaker
  rests is = ap (λ (e : End). let s : Speaker = record { end = e; said = said } in s) (ap (λ (o : OfficeState DiskState). o.end) is ∙ same)

  submitted : (header : UserHeader) (payloads : List Payload) (answer : Result Reply OfficeFault)
      → IsStepped memory_meaning middle new seen passed (what.Submit mode header.conversation (loads_of payloads)) stamp nonce answer
      → TellsSecond answer end → SubmitsAt at mode stamp nonce header payloads (end_of old said) text (end_of new said)
  submitted header payloads (Ok q) step tells =
      let made = step.handled.answer in
      let modes_step : Step old.modes middle.end step.event made.outcome = subst (λ (m : List Mode). Step m middle.end step.event made.outcome) modes made.step in
      record {
        outcome = made.outcome;
        steps = record {
          event = step.event;
          does = step.asked;
          stamped = step.stamped;
          named = step.named;
          step = subst (λ (e : End). Step old.modes e step.event made.outcome) same modes_step;
        };
        says = says_of made.outcome.reply (told_reply end q r tells some ∙ made.reply);
        leads = ap (λ (e : End). let s : Speaker = record { end = e; said = said } in s)
            (made.end ∙ ap (λ (e : End). applied made.outcome.effects e) same);
      }
  submitted header payloads (Err e) step tells = absurd (no_reply end e r tells some)

  by_reply : (q : Reply) → FollowsOffice memory_meaning middle new seen passed mode stamp nonce (Ok q) end
      → FollowsRead at mode stamp nonce q (end_of old said) text (end_of new said)
  unfolding reply_text
  by_reply (reply.Entry header payloads) (inl is) = submitted header payloads is.answer is.step is.tells
  by_reply (reply.Entry header payloads) (inr none) = absurd (let never = ended_by end _ r none.0 some in cc)
  by_reply reply.NoEntry rest =
      let nothing = ended_by end _ r rest.0 some in
      (says_of reply.Nothing cc, rests rest.1.office)
  by_reply reply.Gone rest =
      let gone = ended_by end _ r rest.0 some in
      (says_of reply.Gone cc, rests rest.1.office)
  by_reply other rest = absurd rest

  pub follows : (answer : Result Reply OfficeFault)
      → IsStepped memory_meaning old middle pass seen (what.Read (length old.end.sent)) stamp nonce answer
      → FollowsOffice memory_meaning middle new seen passed mode stamp nonce answer end
      → RelaysAt at mode stamp nonce (end_of old said) text (end_of new said)
  follows (Ok q) step rest = record {
    read = step.handled.answer.outcome;
    steps = record {
      event = step.event;
      does = step.asked;
      stamped = step.stamped;
      named = step.named;
      step = step.handled.answer.step;
    };
    rest = subst (λ (p : Reply). FollowsRead at mode stamp nonce p (end_of old said) text (end_of new said)) step.handled.answer.reply (by_reply q rest);
  }
  follows (Err e) step rest = absurd (no_reply end e r rest.0 some)

-- a relaying of an office, at its end
pub relays_at : (old new : OfficeState DiskState) (pass passed : PassState Call) (said : List Message) (at : EndName) (mode : List ℕ) (stamp nonce : ℕ) (end : RelayEnd) (r : Reply) (text : List ℕ)
    → RelaysOnwards memory_meaning old new pass passed mode stamp nonce end → reply_of end ≡ Some r
    → text ≡ said_line at (reply_text 0 false 0 r) → RelaysAt at mode stamp nonce (end_of old said) text (end_of new said)
relays_at old new pass passed said at mode stamp nonce end r text relays some says =
    let middle = relays.middle in
    let same : middle.end ≡ old.end =
    first_end DiskState memory_meaning old middle pass relays.pass_middle relays.read.event relays.answer (length old.end.sent) relays.read.handled relays.read.asked in
    follows old middle new pass relays.pass_middle passed said at mode stamp nonce end r text some says same relays.read.handled.keeps.modes
    relays.answer relays.read relays.rest
