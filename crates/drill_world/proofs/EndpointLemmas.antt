-- What an end sends, the other end can take.
use Rattle.std.proofs.Common.{◌≡◌, ◌⊎◌, inl, inr, ℕ, ◌∙◌, ◌≤◌, List, ◌++◌, Bool, true, false, if◌then◌else◌, length, get_or, ltb, sym, subst, ap}
use Rattle.std.specs.Prelude.{Err, IfOk, IfSome, IsTrue, None, Ok, Option, Result, Some, is_some}
use Rattle.std.specs.List.{Contains}
use Rattle.std.proofs.lemmas.List.Elements.{All-append, Contains-get_or}
use Rattle.std.proofs.lemmas.Bool.{ltb-true}
use Rattle.as4_values.specs.declared.message.Message.{Message}
use Rattle.mode_values.specs.declared.mode.Mode.{Mode}
use Rattle.as4_disk.specs.Memory.{DiskState}
use Rattle.as4_disk.specs.Image.{Image}
use Rattle.drill_world.specs.Disks.{IsOf}
use Rattle.drill_world.specs.Endpoints.{CanAllCome, EndpointState, IsStoppedAt, MatchFold}
use Rattle.exchange_model.specs.Apply.{applied}
use Rattle.exchange_model.specs.Coming.{may_come}
use Rattle.exchange_model.specs.End.{End}
use Rattle.exchange_model.specs.Table.{Step}
use Rattle.exchange_model.specs.World.{Speaker, folded, sends, speaker_after}
use Rattle.exchange_model.specs.declared.event.Event.{Event}
use Rattle.exchange_model.specs.declared.outcome.Outcome.{Outcome}
use Rattle.exchange_model.specs.declared.reply.Reply.{Reply}
use Rattle.exchange_model.specs.declared.what.What.TheVariants as what
use Rattle.as4_disk.specs.MemoryMeaning.{memory_meaning}
use Rattle.office.specs.Folds.{FindsNoPayloads, IsShortEnough, Shortens}
use Rattle.office.specs.State.{OfficeState}
use Rattle.office.specs.declared.call.Call.{Call}
use Rattle.pass_book.specs.States.{PassState}

-- the law of what is sent
abbrev pub SentMayCome : Type 0
SentMayCome = (modes : List Mode) (end : End) (event : Event) (outcome : Outcome) → Step modes end event outcome
    → (message : Message) → Contains (sends outcome.reply) message → IsTrue (may_come (what.Came message))

kept_come : (reply : Reply) (lost : Bool) (said : List Message) → CanAllCome said → CanAllCome (sends reply)
    → CanAllCome (if lost then said else said ++ sends reply)
kept_come reply true said come sent = come
kept_come reply false said come sent = All-append (λ (m : Message). IsTrue (may_come (what.Came m))) said (sends reply) come sent

-- with what a step sends, unless it is lost
pub can_come_after : SentMayCome → (modes : List Mode) (end : End) (event : Event) (outcome : Outcome) (lost : Bool) (said later : List Message)
    → Step modes end event outcome → CanAllCome said → later ≡ (if lost then said else said ++ sends outcome.reply) → CanAllCome later
can_come_after law modes end event outcome lost said later step come is =
    subst CanAllCome (sym is)
    (kept_come outcome.reply lost said come
    (λ k d within. law modes end event outcome step _ (Contains-get_or (sends outcome.reply) k d within)))

-- what is found at a number was sent
pub sent_if : {X : Type 0} (now : X → Message) (found : Option X) (said : List Message) (k : ℕ) → is_some found ≡ ltb k (length said)
    → IfSome found (λ m. now m ≡ get_or said k (now m)) → IfSome found (λ m. Contains said (now m))
sent_if now None said k is here = tt
sent_if now (Some m) said k is here = (k, ltb-true k (length said) (sym is), sym here)

-- what a checkpoint of an office does to who speaks through it
pub checkpoint_folds : (old new : OfficeState DiskState) (pass_old pass_new : PassState Call) (size : ℕ) (said : List Message)
    → Shortens old new pass_old pass_new size ⊎ (IsShortEnough old new pass_old pass_new size ⊎ FindsNoPayloads old new pass_old pass_new memory_meaning size)
    → (let before : Speaker = record { end = old.end; said = said } in
    let after : Speaker = record { end = new.end; said = said } in
    MatchFold old.end (λ s. after ≡ folded s before) (after ≡ before))
checkpoint_folds old new pass_old pass_new size said (inl short) =
    inl (size, short.folded, short.shorter, ap (λ (e : End). let s : Speaker = record { end = e; said = said } in s) short.end)
checkpoint_folds old new pass_old pass_new size said (inr (inr none)) = absurd (seen_none none.unseen)
  where
    seen_none : memory_meaning.seen old.disk ≡ None → ⊥
    seen_none is = cc
checkpoint_folds old new pass_old pass_new size said (inr (inl enough)) =
    inr (
      (λ other is. subst (λ (n : ℕ). n ≤ other) enough.present (enough.least other is)),
      ap (λ (o : OfficeState DiskState). let s : Speaker = record { end = o.end; said = said } in s) enough.same,
    )

-- an end that is opened on an image, with these packages and modes

abbrev pub IsWith : List Message → List Mode → EndpointState → Type 0
IsWith said modes e = (e.speaker.said ≡ said) × (e.modes ≡ modes)

abbrev pub OpensOn : Image → EndpointState → Type 0
OpensOn image e = (end : End) → IsOf end image → e.speaker.end ≡ end

-- of an image of its own it is the same again
pub opened_on : {E : Type 0} (result : Result EndpointState E) (old : EndpointState) (said : List Message) (modes : List Mode) (image : Image)
    → IfOk result (IsWith said modes) → IfOk result (OpensOn image) → IsOf old.speaker.end image → said ≡ old.speaker.said → modes ≡ old.modes
    → IfOk result (λ e. e ≡ old)
opened_on (Ok e) old said modes image kept opens is same own = λ i. record {
  speaker = record { end = opens old.speaker.end is i; said = (kept.0 ∙ same) i };
  modes = (kept.1 ∙ own) i;
}
opened_on (Err error) old said modes image kept opens is same own = tt

by_stand : (stands : Bool) (outcome : Outcome) (old new : Speaker) → new.end ≡ (if stands then applied outcome.effects old.end else old.end)
    → new.said ≡ old.said → new ≡ (if stands then speaker_after outcome true old else old)
by_stand true outcome old new ends said = λ i. record { end = ends i; said = said i }
by_stand false outcome old new ends said = λ i. record { end = ends i; said = said i }

-- of an image that a stop left it has the step, or hasn't
pub stopped_on : {E : Type 0} (result : Result EndpointState E) (old : EndpointState) (event : Event) (outcome : Outcome) (stands : Bool)
    (said : List Message) (modes : List Mode) (image : Image)
    → IfOk result (IsWith said modes) → IfOk result (OpensOn image) → Step old.modes old.speaker.end event outcome
    → IsOf (if stands then applied outcome.effects old.speaker.end else old.speaker.end) image → said ≡ old.speaker.said
    → IfOk result (IsStoppedAt event stands old)
stopped_on (Ok e) old event outcome stands said modes image kept opens step is same = record {
  outcome = outcome;
  step = step;
  leads = by_stand stands outcome old.speaker e.speaker (opens _ is) (kept.0 ∙ same);
}
stopped_on (Err error) old event outcome stands said modes image kept opens step is same = tt
