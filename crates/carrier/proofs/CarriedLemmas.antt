-- A message that is carried comes as itself, and its reply is that of the endpoint.
use Rattle.std.proofs.Common.{◌≡◌, ℕ, false, List, [], ◌++◌, Option, Some, refl, sym, ap, subst, ◌∙◌, inl, inr, append-nil}
use Rattle.std.specs.Prelude.{Err, IfSome, IsTrue, Ok, Result, unwrap_or}
use Rattle.answer_laws.specs.ReadBack.{IsAnswer, IsReadAsItself}
use Rattle.as4_disk.specs.Memory.{DiskState, MayLeave, picked, reads}
use Rattle.as4_disk.specs.MemoryMeaning.{memory_meaning}
use Rattle.as4_disk.specs.declared.change.Pick.{Pick}
use Rattle.as4_disk.specs.declared.change.Pick.TheVariants.{New}
use Rattle.as4_disk.specs.declared.part.Part.{Part}
use Rattle.as4_doors.specs.Asking.{AsksFor}
use Rattle.as4_doors.specs.declared.door.DoorKind.TheVariants.{Peer}
use Rattle.as4_http.specs.Limits.{Limits, the_limits}
use Rattle.as4_http.specs.ReadBack.{IsMedia, IsWithinLimits, request_to}
use Rattle.as4_http.specs.Requests.{BeginsKept, BeginsRequestWithin}
use Rattle.as4_http.specs.Written.{request_text}
use Rattle.as4_http.specs.declared.message.Request.{Request}
use Rattle.as4_message.specs.Meaning.{ArePaired, Copies, Means}
use Rattle.as4_values.specs.Address.{has_address_form, is_behind_host, is_behind_scheme}
use Rattle.as4_values.specs.declared.message.Message.{Message}
use Rattle.as4_values.specs.declared.message.Message.TheVariants as message
use Rattle.carrier.proofs.EventLemmas.{event_told}
use Rattle.carrier.proofs.MediaLemmas.{wire_is_short}
use Rattle.carrier.specs.Carrying.{GoesInBytes, HandlesRequest, IsCarried, IsRequestOf, IsServed, IsToldBy, gives_up}
use Rattle.drill_texts.specs.Modes.{drill_address}
use Rattle.exchange_model.specs.Apply.{applied}
use Rattle.exchange_model.specs.Coming.{is_deliverable, may_come}
use Rattle.exchange_model.specs.End.{End, empty_end}
use Rattle.exchange_model.specs.Table.{Step}
use Rattle.exchange_model.specs.declared.event.Event.{Event}
use Rattle.exchange_model.specs.declared.outcome.Outcome.{Outcome}
use Rattle.exchange_model.specs.declared.reply.Reply.{Reply}
use Rattle.exchange_model.specs.declared.what.What.{What}
use Rattle.exchange_model.specs.declared.what.What.TheVariants as what
use Rattle.mode_values.specs.declared.mode.Mode.{Mode}
use Rattle.msh_recovery.specs.Opens.{KeepsEnd}
use Rattle.msh_recovery.specs.Records.{RecordsLead}
use Rattle.office.specs.State.{OfficeState}
use Rattle.office.specs.Steps.{Handles}
use Rattle.office.specs.declared.call.Call.{Call}
use Rattle.office.specs.declared.fault.OfficeFault.{OfficeFault}
use Rattle.office.specs.declared.fault.OfficeFault.TheVariants as fault
use Rattle.pass_book.specs.States.{PassState}
use Rattle.sessions.specs.Answering.{Answers, Tells}
use Rattle.sessions.specs.declared.ended.Ended.{Ended}
use Rattle.std.proofs.lemmas.Bool.{and_parts}

-- the laws

abbrev pub OneRequest : Type 0
OneRequest = (limits other : Limits) (stream : List ℕ) (a b : Request) (r q : List ℕ) → BeginsRequestWithin limits stream a r
    → BeginsRequestWithin other stream b q → (a ≡ b) × (r ≡ q)

abbrev pub ReadsRequest : Type 0
ReadsRequest = (address : List ℕ) (media : Option (List ℕ)) (body rest : List ℕ) → IsTrue (has_address_form address) → IfSome media IsMedia
    → IsWithinLimits (request_text address media body) body
    → BeginsKept (request_text address media body ++ rest) (request_to address media body) false rest

abbrev pub AnswersItself : Message → Type 0
AnswersItself m = (modes : List Mode) (end : End) (event : Event) (outcome : Outcome) (bodies : List (List ℕ)) → Step modes end event outcome
    → event.what ≡ what.Came m → RecordsLead bodies empty_end (applied outcome.effects end) → IsAnswer outcome.reply

abbrev pub LeavesPicks : Type 0
LeavesPicks = (disk : DiskState) (choice : Part → Pick) → MayLeave disk (λ q. picked (choice q) disk q)

-- a message that may come has part infos that pair with its payloads
pub may_be_paired : (m : Message) → IsTrue (may_come (what.Came m)) → ArePaired m
unfolding may_come is_deliverable
may_be_paired (message.User header payloads) may = (and_parts _ _ may).0
may_be_paired (message.Signal s) may = tt
may_be_paired (message.Pair p) may = tt

-- the address has the form of one
pub address_form : IsTrue (has_address_form drill_address)
unfolding has_address_form is_behind_scheme is_behind_host
address_form = refl

-- the request that is read is the one that was written
request_is : OneRequest → ReadsRequest → (m : Message) (text rest : List ℕ) (request : Request) (carries : IsRequestOf m text)
    → BeginsRequestWithin the_limits text request rest → request ≡ request_to drill_address (Some carries.media) carries.body
request_is one reads m text rest request carries begins =
    let whole = request_text drill_address (Some carries.media) carries.body in
    let wanted = request_to drill_address (Some carries.media) carries.body in
    let within : IsWithinLimits whole carries.body = subst (λ (t : List ℕ). IsWithinLimits t carries.body) carries.written carries.within in
    let media = (wire_is_short m carries.media carries.body carries.wire).is in
    let kept : BeginsKept whole wanted false [] =
    subst (λ (t : List ℕ). BeginsKept t wanted false []) (append-nil whole) (reads drill_address (Some carries.media) carries.body [] address_form media within) in
    (one the_limits the_limits whole request wanted rest [] (subst (λ (t : List ℕ). BeginsRequestWithin the_limits t request rest) carries.written begins) (false, kept)).0

-- what it asks for is that the message comes
comes : (m : Message) (media body : List ℕ) (request : Request) (w : What) → ((read : Message) → Copies (Means media body) (Ok read) → read ≡ m) → request.media ≡ Some media → request.body ≡ body
    → AsksFor Peer request w → w ≡ what.Came m
comes m media body request (what.Came read) wire typed whole asks =
    ap what.Came (wire read (subst (λ (b : List ℕ). Copies (Means media b) (Ok read)) whole
    (subst (λ (o : Option (List ℕ)). Copies (Means (unwrap_or o []) request.body) (Ok read)) typed asks.1)))
comes m media body request (what.Submit mode conversation loads) wire typed whole asks = absurd asks
comes m media body request what.Tick wire typed whole asks = absurd asks
comes m media body request what.Take wire typed whole asks = absurd asks
comes m media body request (what.Ask mode) wire typed whole asks = absurd asks
comes m media body request (what.AskWith mode n) wire typed whole asks = absurd asks
comes m media body request (what.Read n) wire typed whole asks = absurd asks
comes m media body request (what.Confirm upto) wire typed whole asks = absurd asks
comes m media body request (what.Status id) wire typed whole asks = absurd asks

-- the records that the disk is left with lead to its endpoint
kept_leads : LeavesPicks → (disk : DiskState) (end : End) → KeepsEnd memory_meaning disk end → (bodies : List (List ℕ)) × RecordsLead bodies empty_end end
kept_leads leaves disk end kept =
    let at = (kept (reads disk) refl (picked New disk) (leaves disk (λ _. New))).0 in
    (at.0, at.1.leads)

-- where the message comes to an office, its reply is read as itself
told_by : LeavesPicks → (m : Message) → AnswersItself m → (old new : OfficeState DiskState) (pass_old pass_new : PassState Call) (event : Event)
    (made : Result Reply OfficeFault) → event.what ≡ what.Came m → Handles memory_meaning old new pass_old pass_new event made → IsToldBy made
told_by leaves m law old new pass_old pass_new event (Ok r) came handles =
    let answer = handles.answer in
    let leads = kept_leads leaves new.disk new.end answer.kept in
    subst IsAnswer (sym answer.reply)
    (law old.modes old.end event answer.outcome leads.0 answer.step came (subst (RecordsLead leads.0 empty_end) answer.end leads.1))
told_by leaves m law old new pass_old pass_new event (Err fault) came handles = tt

-- of what was made the same holds as of what is told
by_result : (P : Result Reply OfficeFault → Type 0) (result made : Result Reply OfficeFault) → IsCarried result (result ≡ made) → P made → IsCarried result (P result)
by_result P (Ok r) made same holds = subst P (sym same) holds
by_result P (Err (fault.Disk a b)) made same holds = subst P (sym same) holds
by_result P (Err (fault.Stopped a b)) made same holds = subst P (sym same) holds
by_result P (Err fault.Worn) made same holds = subst P (sym same) holds
by_result P (Err fault.NoMemory) made same holds = tt

-- nothing was made
none_made : (P : Result Reply OfficeFault → Type 0) (result : Result Reply OfficeFault) → result ≡ Err fault.NoMemory → IsCarried result (P result)
none_made P result none = subst (λ (r : Result Reply OfficeFault). IsCarried r (P r)) (sym none) tt

module _ (one : OneRequest) (reads_back : ReadsRequest) (leaves : LeavesPicks) (m : Message) (itself : IsReadAsItself m) (law : AnswersItself m)
    (old new : OfficeState DiskState) (pass_old pass_new : PassState Call) (text : List ℕ) (stamp nonce : ℕ) (end : Ended) (bytes : List ℕ)
    (result : Result Reply OfficeFault) (carries : IsRequestOf m text)
    (told : (made : Result Reply OfficeFault) → Tells false made end bytes → IsToldBy made → IsCarried result (result ≡ made)) where
  -- the session of the request
  abbrev Session : Type 0
  Session = HandlesRequest (Answers memory_meaning old new pass_old pass_new) text stamp nonce end bytes

  arrived : (handled : Session) → handled.event.what ≡ what.Came m
  arrived handled =
      let request = request_is one reads_back m text handled.rest handled.request carries handled.begins in
      comes m carries.media carries.body handled.request handled.event.what
      (λ read means. itself carries.media carries.body read carries.wire means)
      (ap (λ (r : Request). r.media) request) (ap (λ (r : Request). r.body) request) handled.is.asked

  same_result : (handled : Session) → IsCarried result (result ≡ handled.answered.result)
  same_result handled =
      told handled.answered.result handled.answered.tells
      (told_by leaves m law old new pass_old pass_new handled.event handled.answered.result (arrived handled) handled.answered.handles)

  pub carried : IsServed (Answers memory_meaning old new pass_old pass_new) text stamp nonce end bytes → (gives_up end → result ≡ Err fault.NoMemory)
      → (event : Event) → event.stamp ≡ stamp → event.nonce ≡ nonce → event.what ≡ what.Came m
      → IsCarried result (Handles memory_meaning old new pass_old pass_new event result)
  carried (inl gives) none event dated named came = none_made (Handles memory_meaning old new pass_old pass_new event) result (none gives)
  carried (inr handled) none event dated named came =
      let same : handled.event ≡ event =
      event_told handled.event event (handled.is.dated ∙ sym dated) (handled.is.named ∙ sym named) (arrived handled ∙ sym came) in
      by_result (Handles memory_meaning old new pass_old pass_new event) result handled.answered.result (same_result handled)
      (subst (λ (e : Event). Handles memory_meaning old new pass_old pass_new e handled.answered.result) same handled.answered.handles)

  pub goes : IsServed (Answers memory_meaning old new pass_old pass_new) text stamp nonce end bytes → (gives_up end → result ≡ Err fault.NoMemory)
      → IsCarried result (GoesInBytes (Answers memory_meaning old new pass_old pass_new) m stamp nonce result)
  goes (inl gives) none = none_made (GoesInBytes (Answers memory_meaning old new pass_old pass_new) m stamp nonce) result (none gives)
  goes (inr handled) none =
      by_result (GoesInBytes (Answers memory_meaning old new pass_old pass_new) m stamp nonce) result handled.answered.result (same_result handled) (record {
        request = text;
        carries = carries;
        end = end;
        response = bytes;
        handles = handled;
        tells = handled.answered.tells;
      })

-- what holds whatever the result is
pub any_carried : (result : Result Reply OfficeFault) (P : Type 0) → P → IsCarried result P
any_carried (Ok r) P holds = holds
any_carried (Err (fault.Disk a b)) P holds = holds
any_carried (Err (fault.Stopped a b)) P holds = holds
any_carried (Err fault.Worn) P holds = holds
any_carried (Err fault.NoMemory) P holds = tt
