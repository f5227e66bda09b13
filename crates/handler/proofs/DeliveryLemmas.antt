-- What guests sent is in the inbox at the end.
use Rattle.std.proofs.Common.{◌≡◌, ◌⊎◌, ℕ, Bool, true, List, [], ◌∷◌, ◌++◌, Option, Some, None, IsSome, Contains, refl, sym, ap, subst, ◌∙◌, inl, inr, append_assoc, arith}
use Rattle.std.proofs.lemmas.List.Elements.{Contains-append_right}
use Rattle.std.specs.List.{AllByRecursion}
use Rattle.std.specs.Option.{option_or}
use mathlib.Core.List.{IsPrefix}
use Rattle.as4_disk.specs.Image.{Image}
use Rattle.as4_disk.specs.declared.fault_counts.FaultCounts.{FaultCounts}
use Rattle.as4_doors.specs.Asking.{AsksFor}
use Rattle.as4_doors.specs.declared.door.DoorKind.{DoorKind}
use Rattle.as4_doors.specs.declared.door.DoorKind.TheVariants as door
use Rattle.as4_http.specs.declared.message.Request.{Request}
use Rattle.as4_values.specs.declared.header.UserHeader.{UserHeader}
use Rattle.as4_values.specs.declared.message.Message.{Message}
use Rattle.as4_values.specs.declared.message.Message.TheVariants as message
use Rattle.as4_values.specs.declared.payload.Payload.{Payload}
use Rattle.as4_values.specs.declared.signal.Signal.{Signal}
use Rattle.exchange_model.specs.Apply.{applied}
use Rattle.exchange_model.specs.End.{End}
use Rattle.exchange_model.specs.LosslessRound.{IsFull}
use Rattle.exchange_model.specs.Questions.{is_known}
use Rattle.exchange_model.specs.Table.{Step}
use Rattle.exchange_model.specs.World.{sends}
use Rattle.exchange_model.specs.declared.event.Event.{Event}
use Rattle.exchange_model.specs.declared.outcome.Outcome.{Outcome}
use Rattle.exchange_model.specs.declared.reply.Reply.{Reply}
use Rattle.exchange_model.specs.declared.reply.Reply.TheVariants as reply
use Rattle.exchange_model.specs.declared.what.What.{What}
use Rattle.exchange_model.specs.declared.what.What.TheVariants as what
use Rattle.handler.specs.Served.{IsDelivered, WasFull}
use Rattle.history_laws.specs.Following.{GoesOn}
use Rattle.history_laws.specs.Holding.{IsReceipted}
use Rattle.mode_values.specs.ModeMatch.{mode_of}
use Rattle.mode_values.specs.declared.mode.Mode.{Mode}
use Rattle.msh_recovery.specs.Opens.{IsAt}
use Rattle.office.specs.Calls.{Leads, LeadsWhere, stop_of}
use Rattle.office.specs.Left.{IsLeft}
use Rattle.office.specs.declared.call.Call.{Call}
use Rattle.office.specs.declared.call.Call.TheVariants.{Done, Folded, Stop}
use Rattle.stranger_laws.specs.Belonging.{BelongsTo}
use Rattle.stranger_laws.specs.Taken.{IsTaken}
use Rattle.workers.specs.Bounds.{IsEntered, event_of}

-- the laws that are cited
pub record Laws : Type 0 where
  pub one_request : (kind : DoorKind) (request : Request) (one other : What) → AsksFor kind request one → AsksFor kind request other → one ≡ other
  pub stops : (calls more : List Call) → stop_of (calls ++ more) ≡ option_or (stop_of calls) (stop_of more)
  pub splits : (observable : Bool) (modes : List Mode) (calls more : List Call) (start end : End) → LeadsWhere observable modes start (calls ++ more) end
      → (here : End) × LeadsWhere observable modes start calls here × GoesOn observable modes (stop_of calls) here more end
  pub receipted : (observable : Bool) (modes : List Mode) (calls more : List Call) (event : Event) (r : Reply) (header : UserHeader) (payloads : List Payload) (start end : End)
      → IsReceipted header payloads event r → LeadsWhere observable modes start (calls ++ Done event r ∷ more) end → is_known header.id end.inbox ≡ true
  pub taken : (modes : List Mode) (end : End) (event : Event) (outcome : Outcome) (header : UserHeader) (payloads : List Payload) → Step modes end event outcome
      → event.what ≡ what.Came (message.User header payloads) → IsSome (mode_of modes header) → ¬ IsFull outcome.reply
      → IsTaken header payloads outcome.reply end (applied outcome.effects end)
  pub belongs : (modes : List Mode) (end : End) (event : Event) (outcome : Outcome) → Step modes end event outcome → BelongsTo event.what outcome.reply

-- without a fault the store is at the endpoint
pub left_at : (modes : List Mode) (end : End) (calls : List Call) (image : Image) → stop_of calls ≡ None → IsLeft modes end calls image → IsAt image end
left_at modes end [] image none left = left
left_at modes end (Done event r ∷ calls) image none left = left_at modes end calls image none left
left_at modes end (Folded size ∷ calls) image none left = left_at modes end calls image none left
left_at modes end (Stop event halt ∷ calls) image none left = absurd cc

-- a call among more calls
pub entered_on : (kind : DoorKind) (calls more : List Call) (stream : List ℕ) → IsPrefix calls more → IsEntered kind calls stream → IsEntered kind more stream
entered_on kind calls more stream (rest, is) entered request behind asked begins asks =
    let has = entered request behind asked begins asks in record {
      before = has.before;
      call = has.call;
      after = has.after ++ rest;
      entered = sym is ∙ ap (λ l. l ++ rest) has.entered ∙ append_assoc has.before (has.call ∷ has.after) rest;
      event = has.event;
      is = has.is;
      asked = has.asked;
    }

pub all_entered_on : (kind : DoorKind) (calls more : List Call) (streams : List (List ℕ)) → IsPrefix calls more → AllByRecursion (IsEntered kind calls) streams
    → AllByRecursion (IsEntered kind more) streams
all_entered_on kind calls more [] within all = tt
all_entered_on kind calls more (stream ∷ streams) within all = (entered_on kind calls more stream within all.0, all_entered_on kind calls more streams within all.1)

-- a reply says that the journal is full, or doesn't
full_or : (r : Reply) → ((size : ℕ) × (need : ℕ) × (r ≡ reply.Full size need)) ⊎ ¬ IsFull r
full_or (reply.Full size need) = inl (size, need, refl)
full_or other = inr (λ full. full)

-- the answer to a message that came and is taken
answered : (came : Message) (signal : Signal) (r : Reply) → BelongsTo (what.Came came) r → sends r ≡ message.Signal signal ∷ [] → r ≡ reply.Answer (message.Signal signal)
answered came signal (reply.Push address m) belongs sent = absurd (let wrong : what.Came came ≡ what.Take = belongs in cc)
answered came signal (reply.Request address m) belongs sent = absurd belongs
answered came signal (reply.Answer m) belongs sent = let same : m ≡ message.Signal signal = cc in ap reply.Answer same
answered came signal other belongs sent = absurd cc

module _ (laws : Laws) (modes : List Mode) (start end : End) (calls : List Call) (leads : Leads modes start calls end) (none : stop_of calls ≡ None) where
  -- no fault was before
  no_stop : (before more : List Call) → calls ≡ before ++ more → stop_of before ≡ None
  no_stop before more is = first (stop_of before) (stop_of more) (sym (laws.stops before more) ∙ ap stop_of (sym is) ∙ none) where
    first : (one two : Option FaultCounts) → option_or one two ≡ None → one ≡ None
    first None two is = refl
    first (Some halt) two is = absurd cc

  known : (before after : List Call) (event : Event) (r : Reply) (header : UserHeader) (payloads : List Payload) → calls ≡ before ++ Done event r ∷ after
      → event.what ≡ what.Came (message.User header payloads) → IsSome (mode_of modes header)
      → (is_known header.id end.inbox ≡ true) ⊎ WasFull (what.Came (message.User header payloads)) calls
  known before after event r header payloads is came has =
      let whole = subst (λ l. Leads modes start l end) is leads in
      let parts = laws.splits true modes before (Done event r ∷ after) start end whole in
      let goes = subst (λ stop. GoesOn true modes stop parts.0 (Done event r ∷ after) end) (no_stop before (Done event r ∷ after) is) parts.2 in
      elim (full_or r) as (λ _. (is_known header.id end.inbox ≡ true) ⊎ WasFull (what.Came (message.User header payloads)) calls) [
        | inl full ↦ inr (record {
          event = event;
          size = full.0;
          need = full.1;
          entered = subst (λ l. Contains l (Done event (reply.Full full.0 full.1))) (sym is)
              (subst (λ x. Contains (before ++ Done event r ∷ after) (Done event x)) full.2 (Contains-append_right before (Done event r ∷ after) (Done event r) (0, omega arith, refl)));
          asked = came;
        })
        | inr roomy ↦ inl (
            let outcome : Outcome = goes.0 in
            let step : Step modes parts.0 event outcome = goes.1 in
            let same : r ≡ outcome.reply = goes.2 in
            let taken = laws.taken modes parts.0 event outcome header payloads step came has (λ full. roomy (subst IsFull (sym same) full)) in
            let belongs = subst (λ w. BelongsTo w outcome.reply) came (laws.belongs modes parts.0 event outcome step) in
            laws.receipted true modes before after event r header payloads start end (record {
              came = came;
              signal = taken.signal;
              answered = same ∙ answered (message.User header payloads) taken.signal outcome.reply belongs taken.sent;
              copy = Some header;
              receipt = taken.copies;
            }) whole)
      ]

  by_call : (before after : List Call) (call : Call) (event : Event) (header : UserHeader) (payloads : List Payload) → calls ≡ before ++ call ∷ after
      → event_of call ≡ Some event → event.what ≡ what.Came (message.User header payloads) → IsSome (mode_of modes header)
      → (is_known header.id end.inbox ≡ true) ⊎ WasFull (what.Came (message.User header payloads)) calls
  by_call before after (Done made r) event header payloads is event_is came has =
      let same : made ≡ event = cc in known before after made r header payloads is (ap (λ (e : Event). e.what) same ∙ came) has
  by_call before after (Folded size) event header payloads is event_is came has = absurd cc
  by_call before after (Stop made halt) event header payloads is event_is came has =
      absurd (let stops : stop_of (before ++ Stop made halt ∷ after) ≡ None = ap stop_of (sym is) ∙ none in
      let both = sym (laws.stops before (Stop made halt ∷ after)) ∙ stops in
      let first = no_stop before (Stop made halt ∷ after) is in
      let wrong : Some halt ≡ None = ap (λ one. option_or one (Some halt)) (sym first) ∙ both in cc)

  delivered : (stream : List ℕ) → IsEntered door.Peer calls stream → IsDelivered modes calls end stream
  delivered stream entered request rest header payloads begins asks has =
      let found = entered request rest (what.Came (message.User header payloads)) begins asks in
      by_call found.before found.after found.call found.event header payloads found.entered found.is
      (laws.one_request door.Peer request found.event.what (what.Came (message.User header payloads)) found.asked asks) has

  pub all_delivered : (streams : List (List ℕ)) → AllByRecursion (IsEntered door.Peer calls) streams → AllByRecursion (IsDelivered modes calls end) streams
  all_delivered [] all = tt
  all_delivered (stream ∷ streams) all = (delivered stream all.0, all_delivered streams all.1)
