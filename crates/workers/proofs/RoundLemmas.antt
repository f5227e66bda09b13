-- What rounds add to a pass.
use Rattle.std.proofs.Common.{◌≡◌, ◌⊎◌, ◌+◌, ◌≤◌, ◌<◌, ℕ, List, Option, Some, None, Result, Ok, Err, inl, inr, refl, ap, subst, sym, ◌∙◌, arith}
use Rattle.as4_disk.specs.declared.disk.Disk.{Ghosts as DiskMeaning}
use Rattle.as4_flow.specs.declared.clock.Clock.{Ghosts as ClockMeaning}
use Rattle.as4_flow.specs.declared.nonces.Nonces.{Ghosts as NoncesMeaning}
use Rattle.as4_host.specs.declared.link.Link.{Ghosts as LinkMeaning}
use Rattle.as4_http.specs.declared.message.Response.{Response}
use Rattle.exchange_model.specs.declared.event.Event.{Event}
use Rattle.exchange_model.specs.declared.reply.Reply.{Reply}
use Rattle.exchange_model.specs.declared.what.What.{What}
use Rattle.exchange_model.specs.declared.what.What.TheVariants as what
use Rattle.office.specs.declared.call.Call.{Call}
use Rattle.office.specs.declared.fault.OfficeFault.{OfficeFault}
use Rattle.office.specs.declared.fault.OfficeFault.TheVariants as fault
use Rattle.pass_book.specs.States.{PassState}
use Rattle.rounds.specs.Endings.{end_halted}
use Rattle.rounds.specs.Rounds.{After, Answers, AsksOut, Delivers, PullsBy, PullsOn, PullsWith, Pushes, PushesOn, Receives, Sends, SendsOut, Steps, Using, pull_address, pulled, push_address}
use Rattle.link_exchange.specs.declared.exchanging.Lost.{Lost}
use Rattle.rounds.specs.declared.pulling.Pulled.{Pulled}
use Rattle.sessions.specs.Sending.{TellsSending}
use Rattle.sessions.specs.declared.naming.Opening.{Ghosts as OpeningMeaning}
use Rattle.sessions.specs.declared.rounds.RoundEnd.{RoundEnd}
use Rattle.sessions.specs.declared.rounds.RoundEnd.TheVariants as round
use Rattle.sessions.specs.declared.sending.Sending.{Sending}
use Rattle.workers.proofs.GrowthLemmas.{IsFull, MakesOne, Moves, because, handled, moves_none, moves_same, moves_then, stays_full}

-- at most this number of calls was made
pub record MakesUpTo (most : ℕ) (old new : PassState Call) : Type 0 where
  pub count : ℕ
  pub few : count ≤ most
  pub moves : Moves count old new

pub makes_none : (most : ℕ) (old new : PassState Call) → new ≡ old → MakesUpTo most old new
makes_none most old new same = record { count = 0; few = omega arith; moves = moves_same old new same }

makes_then : (m n : ℕ) (old middle new : PassState Call) → MakesUpTo m old middle → MakesUpTo n middle new → MakesUpTo (m + n) old new
makes_then m n old middle new first second = record {
  count = first.count + second.count;
  few = omega (arith, first.few, second.few);
  moves = moves_then first.count second.count old middle new first.moves second.moves;
}

-- at most this number of calls was made; if none, the history is full, or E
pub record MakesSome (most : ℕ) (E : Type 0) (old new : PassState Call) : Type 0 where
  pub made : MakesUpTo most old new
  pub cause : (1 ≤ made.count) ⊎ IsFull new ⊎ E

-- one call, and then others
and_others : (most : ℕ) (event : Event) (E : Type 0) (old middle new : PassState Call) → MakesOne event E old middle → MakesUpTo most middle new
    → MakesSome (1 + most) E old new
and_others most event E old middle new first others = record {
  made = record {
    count = first.count + others.count;
    few = omega (arith, first.one, others.few);
    moves = moves_then first.count others.count old middle new first.moves others.moves;
  };
  cause = elim first.cause as (λ _. (1 ≤ first.count + others.count) ⊎ IsFull new ⊎ E) [
    | inl some ↦ inl (omega (arith, some.0))
    | inr none ↦ elim none as (λ _. (1 ≤ first.count + others.count) ⊎ IsFull new ⊎ E) [
      | inl full ↦ inr (inl (stays_full others.count middle new others.moves full))
      | inr e ↦ inr (inr e)
    ]
  ];
}

no_sending : (back : Option (List ℕ)) (result : Result Reply OfficeFault) (sending : Result Sending OfficeFault) → TellsSending back result sending
    → result ≡ Err fault.NoMemory → sending ≡ Err fault.NoMemory
no_sending back result (Ok sending) tells is = absurd (subst (λ (r : Result Reply OfficeFault). TellsSending back r (Ok sending)) is tells)
no_sending back result (Err told) tells is =
    let same : told ≡ fault.NoMemory = subst (λ (r : Result Reply OfficeFault). TellsSending back r (Err told)) is tells in ap Err same

module _ {D J L In Out C N : Type 0} (M : DiskMeaning D) (O : OpeningMeaning J) (K : LinkMeaning L In Out) (T : ClockMeaning C) (R : NoncesMeaning N) where
  stepped : (kind : What) (back : Option (List ℕ)) (old new : Using L C N) (sending : Result Sending OfficeFault) → (steps : Steps M O K T R kind back old new sending)
      → MakesOne steps.event (sending ≡ Err fault.NoMemory) old.pass new.pass
  stepped kind back old new sending steps =
      because steps.event (steps.sends.result ≡ Err fault.NoMemory) (sending ≡ Err fault.NoMemory) old.pass new.pass (no_sending back steps.sends.result sending steps.sends.tells)
      (handled M steps.sends.steps.found steps.sends.steps.left old.pass new.pass steps.event steps.sends.result steps.sends.steps.handles)

  received : (response : Response) (back : Option (List ℕ)) (old new : Using L C N) (result : Result Sending RoundEnd) → Receives M O K T R response back old new result
      → MakesUpTo 1 old.pass new.pass
  received response back old new result (inl handles) =
      let one = stepped handles.kind back old new handles.sending handles.steps in record { count = one.count; few = one.one; moves = one.moves }
  received response back old new result (inr none) = makes_none 1 old.pass new.pass (ap (λ (u : Using L C N). u.pass) none.same)

  after : (told : Result Response Lost) (back : Option (List ℕ)) (old new : Using L C N) (result : Result Sending RoundEnd) → After M O K T R told back old new result
      → MakesUpTo 1 old.pass new.pass
  after (Ok response) back old new result goes = received response back old new result goes
  after (Err why) back old new result goes = makes_none 1 old.pass new.pass (ap (λ (u : Using L C N). u.pass) goes.1)

  delivered : (address request : List ℕ) (back : Option (List ℕ)) (old new : Using L C N) (result : Result Sending RoundEnd) → Delivers M O K T R address request back old new result
      → MakesUpTo 1 old.pass new.pass
  delivered address request back old new result delivers = after delivers.told back (record old { link = delivers.link }) new result delivers.after

  sent : (address : List ℕ) (request : Option (List ℕ)) (without : RoundEnd) (old new : Using L C N) (end : RoundEnd) → Sends M O K T R address request without old new end
      → MakesUpTo 1 old.pass new.pass
  sent address (Some request) without old new end sends = delivered address request None old new sends.0 sends.1
  sent address None without old new end sends = makes_none 1 old.pass new.pass (ap (λ (u : Using L C N). u.pass) sends.1)

  sent_out : (to : Option (List ℕ)) (sending : Sending) (old new : Using L C N) (end : RoundEnd) → SendsOut M O K T R to sending old new end → MakesUpTo 1 old.pass new.pass
  sent_out (Some address) sending old new end sends = sent address sending.request round.Done old new end sends
  sent_out None sending old new end sends = makes_none 1 old.pass new.pass (ap (λ (u : Using L C N). u.pass) sends.1)

  pushed_on : (sending : Result Sending OfficeFault) (old new : Using L C N) (end : RoundEnd) → PushesOn M O K T R sending old new end
      → MakesUpTo 1 old.pass new.pass × (sending ≡ Err fault.NoMemory → end ≡ round.NoMemory)
  pushed_on (Ok sending) old new end goes = (sent_out (push_address sending.reply) sending old new end goes, λ is. absurd cc)
  pushed_on (Err why) old new end goes = (
    makes_none 1 old.pass new.pass (ap (λ (u : Using L C N). u.pass) goes.1),
    λ is. let same : why ≡ fault.NoMemory = cc is in goes.0 ∙ ap end_halted same,
  )

  -- a round that pushes makes at most two calls; if none, the history is full, or memory ran out
  pub pushes_some : (old new : Using L C N) (end : RoundEnd) → Pushes M O K T R old new end → MakesSome 2 (end ≡ round.NoMemory) old.pass new.pass
  pushes_some old new end pushes =
      let on = pushed_on pushes.sending pushes.middle new end pushes.goes_on in
      let first = stepped what.Take None old pushes.middle pushes.sending pushes.takes in
      and_others 1 pushes.takes.event (end ≡ round.NoMemory) old.pass pushes.middle.pass new.pass
      (because pushes.takes.event (pushes.sending ≡ Err fault.NoMemory) (end ≡ round.NoMemory) old.pass pushes.middle.pass on.1 first) on.0

  answered : (address : List ℕ) (first : Result Sending RoundEnd) (old new : Using L C N) (by : Pulled) → Answers M O K T R address first old new by
      → MakesUpTo 1 old.pass new.pass
  answered address (Ok sending) old new by answers = sent address sending.request _ old new by.end answers.0
  answered address (Err other) old new by answers = makes_none 1 old.pass new.pass (ap (λ (u : Using L C N). u.pass) answers.1)

  pulled_with : (address : List ℕ) (request : Option (List ℕ)) (old new : Using L C N) (by : Pulled) → PullsWith M O K T R address request old new by
      → MakesUpTo 2 old.pass new.pass
  pulled_with address (Some request) old new by pulls =
      makes_then 1 1 old.pass pulls.middle.pass new.pass
      (delivered address request (Some address) old pulls.middle pulls.first pulls.delivers)
      (answered address pulls.first pulls.middle new by pulls.answers)
  pulled_with address None old new by pulls = makes_none 2 old.pass new.pass (ap (λ (u : Using L C N). u.pass) pulls.1)

  asked_out : (to : Option (List ℕ)) (sending : Sending) (old new : Using L C N) (by : Pulled) → AsksOut M O K T R to sending old new by → MakesUpTo 2 old.pass new.pass
  asked_out (Some address) sending old new by asks = pulled_with address sending.request old new by asks
  asked_out None sending old new by asks = makes_none 2 old.pass new.pass (ap (λ (u : Using L C N). u.pass) asks.1)

  pulled_on : (sending : Result Sending OfficeFault) (old new : Using L C N) (by : Pulled) → PullsOn M O K T R sending old new by
      → MakesUpTo 2 old.pass new.pass × (sending ≡ Err fault.NoMemory → by.end ≡ round.NoMemory)
  pulled_on (Ok sending) old new by goes = (asked_out (pull_address sending.reply) sending old new by goes, λ is. absurd cc)
  pulled_on (Err why) old new by goes = (
    makes_none 2 old.pass new.pass (ap (λ (u : Using L C N). u.pass) goes.1),
    λ is. let same : why ≡ fault.NoMemory = cc is in ap (λ (p : Pulled). p.end) goes.0 ∙ ap end_halted same,
  )

  -- a round that pulls makes at most three
  pub pulls_some : (mode : List ℕ) (old new : Using L C N) (by : Pulled) → PullsBy M O K T R mode old new by → MakesSome 3 (by.end ≡ round.NoMemory) old.pass new.pass
  pulls_some mode old new by (inl asks) =
      let on = pulled_on asks.sending asks.middle new by asks.goes_on in
      let first = stepped (what.Ask mode) None old asks.middle asks.sending asks.asks in
      and_others 2 asks.asks.event (by.end ≡ round.NoMemory) old.pass asks.middle.pass new.pass
      (because asks.asks.event (asks.sending ≡ Err fault.NoMemory) (by.end ≡ round.NoMemory) old.pass asks.middle.pass on.1 first) on.0
  pulls_some mode old new by (inr none) = record {
    made = makes_none 3 old.pass new.pass (ap (λ (u : Using L C N). u.pass) none.1);
    cause = inr (inr (ap (λ (p : Pulled). p.end) none.0));
  }
