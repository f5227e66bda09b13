-- What happens at one of three endpoints.
use Rattle.std.proofs.Common.{◌≡◌, ℕ, ◌<◌, ◌≤◌, List, [], ◌∷◌, ◌++◌, Bool, true, false, if◌then◌else◌, Result, Ok, Err, length, length-append, map, refl, ◌∙◌, ap, subst, arith, codes}
use Rattle.std.specs.Prelude.{IfOk}
use Rattle.as4_disk.specs.declared.change.Pick.{Pick}
use Rattle.as4_values.specs.declared.message.Message.{Message}
use Rattle.mode_values.specs.declared.mode.Mode.{Mode}
use Rattle.drill_script.specs.declared.line.EndName.{EndName}
use Rattle.drill_script.specs.declared.line.EndName.TheVariants as name
use Rattle.drill_script.specs.declared.line.LinkName.{LinkName}
use Rattle.drill_texts.specs.Texts.{said_line}
use Rattle.drill_world.specs.Endpoints.{EndpointState, IsStoppedAt, Meets}
use Rattle.drill_world.specs.Relaying.{RelaysAt}
use Rattle.drill_world.specs.Transcript.{stands}
use Rattle.exchange_model.specs.Table.{Step}
use Rattle.exchange_model.specs.World.{Speaker, sends, speaker_after}
use Rattle.exchange_model.specs.declared.event.Event.{Event}
use Rattle.exchange_model.specs.declared.outcome.Outcome.{Outcome}
use Rattle.exchange_model.specs.declared.reply.Reply.{Reply}
use Rattle.exchange_model.specs.declared.reply.Reply.TheVariants as reply
use Rattle.hub_world.specs.Ends.{Ends, TrioState, endpoint_of, sent, speaker_of, with_speaker}
use Rattle.hub_world.specs.Trios.{MeetsAtHub, RelaysIn, StopsIn}

-- three endpoints by their parts
abbrev pub trio_of : EndpointState → EndpointState → EndpointState → List LinkName → TrioState
trio_of first hub last links = record {
  ends = record { first = first.speaker; hub = hub.speaker; last = last.speaker; links = links };
  modes = first.modes;
}

-- the links of what the hub sends

at_most_one : (on : LinkName) (r : Reply) → 0 < length (sends r) → map (λ (m : Message). on) (sends r) ≡ on ∷ []
at_most_one on (reply.Push address message) some = refl
at_most_one on (reply.Request address message) some = refl
at_most_one on (reply.Answer message) some = refl
at_most_one on other some = absurd (omega (arith, some))

none_of : (on : LinkName) (ms : List Message) → length ms ≡ 0 → map (λ (m : Message). on) ms ≡ []
none_of on [] none = refl
none_of on (m ∷ ms) none = absurd (omega (arith, none))

-- one message more was sent
pub link_added : (on : LinkName) (outcome : Outcome) (lost : Bool) (said later : List Message)
    → later ≡ (if lost then said else said ++ sends outcome.reply) → length said < length later → map (λ (m : Message). on) (sent lost outcome) ≡ on ∷ []
link_added on outcome true said later is more = absurd (omega (arith, more, ap length is))
link_added on outcome false said later is more =
    at_most_one on outcome.reply (omega (arith, more, ap length is, length-append said (sends outcome.reply)))

-- none was
pub link_stays : (on : LinkName) (outcome : Outcome) (lost : Bool) (said later : List Message)
    → later ≡ (if lost then said else said ++ sends outcome.reply) → length later ≤ length said → map (λ (m : Message). on) (sent lost outcome) ≡ []
link_stays on outcome true said later is few = refl
link_stays on outcome false said later is few =
    none_of on (sends outcome.reply) (omega (arith, few, ap length is, length-append said (sends outcome.reply)))

pub at_hub : (at : EndName) (on : LinkName) (event : Event) (number : ℕ) (lost : Bool) (first was is last : EndpointState) (links added : List LinkName) (old : TrioState) (text : List ℕ)
    → trio_of first was last links ≡ old → was.modes ≡ first.modes → (meets : Meets at event number lost was text is)
    → added ≡ links ++ map (λ (m : Message). on) (sent lost meets.outcome)
    → MeetsAtHub on at event number lost old text (trio_of first is last added)
at_hub at on event number lost first was is last links added old text seen shared meets adds = rw (← seen) (record {
  outcome = meets.outcome;
  step = subst (λ (m : List Mode). Step m was.speaker.end event meets.outcome) shared meets.step;
  says = meets.says;
  leads = λ i. record { first = first.speaker; hub = meets.leads i; last = last.speaker; links = adds i };
})

-- the hub relays
pub relayed : {E : Type 0} (result : Result (List ℕ) E) (called : List ℕ) (stamp nonce : ℕ) (first was is last : EndpointState) (links : List LinkName) (old : TrioState)
    → trio_of first was last links ≡ old → was.modes ≡ first.modes → IfOk result (λ text. RelaysAt name.Hub called stamp nonce was text is)
    → IfOk result (λ text. RelaysIn called stamp nonce old text (trio_of first is last links))
relayed (Ok text) called stamp nonce first was is last links old seen shared relays = rw (← seen) (record {
  after = is;
  relays = subst (λ (m : List Mode). let hub : EndpointState = record { speaker = was.speaker; modes = m } in RelaysAt name.Hub called stamp nonce hub text is) shared relays;
  leads = refl;
})
relayed (Err error) called stamp nonce first was is last links old seen shared relays = tt

-- the first one again

put_twice : (at : EndName) (a b : Speaker) (ends : Ends) → with_speaker at a (with_speaker at b ends) ≡ with_speaker at a ends
put_twice name.First a b ends = refl
put_twice name.Last a b ends = refl
put_twice at a b ends = refl

put_same : (at : EndName) (ends : Ends) → with_speaker at (speaker_of at ends) ends ≡ ends
put_same name.First ends = refl
put_same name.Last ends = refl
put_same at ends = refl

abbrev pub placed : EndName → Speaker → TrioState → TrioState
placed at speaker trio = record trio { ends = with_speaker at speaker trio.ends }

pub put_back : (at : EndName) (spare speaker : Speaker) (old mid new : TrioState) → speaker ≡ speaker_of at old.ends
    → mid ≡ placed at spare old → new ≡ placed at speaker mid → new ≡ old
put_back at spare speaker old mid new same out put =
    put ∙ ap (placed at speaker) out
    ∙ ap (λ (e : Ends). record old { ends = e })
    (put_twice at speaker spare old.ends ∙ ap (λ (s : Speaker). with_speaker at s old.ends) same ∙ put_same at old.ends)

put_stood : (at : EndName) (stood : Bool) (outcome : Outcome) (speaker : Speaker) (ends : Ends)
    → speaker ≡ (if stood then speaker_after outcome true (speaker_of at ends) else speaker_of at ends)
    → with_speaker at speaker ends ≡ (if stood then with_speaker at (speaker_after outcome true (speaker_of at ends)) ends else ends)
put_stood at true outcome speaker ends is = ap (λ (s : Speaker). with_speaker at s ends) is
put_stood at false outcome speaker ends is = ap (λ (s : Speaker). with_speaker at s ends) is ∙ put_same at ends

pub put_stops : {E : Type 0} (at : EndName) (event : Event) (call : ℕ) (pick : Pick) (spare : Speaker) (was is : EndpointState) (result : Result (List ℕ) E) (old mid new : TrioState)
    → was ≡ endpoint_of at old → mid ≡ placed at spare old → new ≡ placed at is.speaker mid → IsStoppedAt event (stands call pick) was is
    → IfOk result (λ text. text ≡ said_line at (codes "reopened")) → IfOk result (λ text. StopsIn at event call pick old text new)
put_stops at event call pick spare was is (Ok text) old mid new here out put stops says =
    let stopped = subst (λ (e : EndpointState). IsStoppedAt event (stands call pick) e is) here stops in
    record {
      outcome = stopped.outcome;
      step = stopped.step;
      says = says;
      leads = ap (λ (t : TrioState). t.ends) (put ∙ ap (placed at is.speaker) out)
          ∙ put_twice at is.speaker spare old.ends
          ∙ put_stood at (stands call pick) stopped.outcome is.speaker old.ends stopped.leads;
    }
put_stops at event call pick spare was is (Err error) old mid new here out put stops says = tt
