-- What isn't known over a disk whose content isn't observable: what a `Read` shows.
use Rattle.std.proofs.Common.{◌≡◌, inl, inr, ℕ, List, [], ◌∷◌, false, refl, sym, ap, subst}
use Rattle.as4_effects.specs.declared.effect.Effect.{Effect}
use Rattle.mode_values.specs.declared.mode.Mode.{Mode}
use Rattle.exchange_model.specs.Apply.{applied}
use Rattle.exchange_model.specs.End.{End}
use Rattle.exchange_model.specs.Fold.{resized}
use Rattle.exchange_model.specs.Table.{Rests, RowOf, Step, has_room, read_reply}
use Rattle.exchange_model.specs.declared.event.Event.{Event}
use Rattle.exchange_model.specs.declared.outcome.Outcome.{Outcome}
use Rattle.exchange_model.specs.declared.reply.Reply.{Reply}
use Rattle.exchange_model.specs.declared.what.What.{What}
use Rattle.exchange_model.specs.declared.what.What.TheVariants as what
use Rattle.exchange_laws.proofs.RoomLemmas.{rest_taken}
use Rattle.office.specs.Calls.{Leads, LeadsWhere}
use Rattle.office.specs.Observed.{RepliesToRead, StepWhere}
use Rattle.office.specs.declared.call.Call.{Call}
use Rattle.office.specs.declared.call.Call.TheVariants.{Done, Folded, Stop}
use Rattle.history_laws.specs.Agreeing.{AgreesButForReads, AgreesOn, HasNoRead, IsNoRead}

-- what a `Read` gives
abbrev shown : End → ℕ → Outcome
shown end n = record { effects = []; reply = read_reply end n }

-- a `Read` has a step at every end
read_step : (modes : List Mode) (end : End) (event : Event) (n : ℕ) → event.what ≡ what.Read n → Step modes end event (shown end n)
unfolding has_room
read_step modes end event n asked = record {
  row = shown end n;
  decided = subst (λ (w : What). RowOf modes end event w (shown end n)) (sym asked) refl;
  limited = refl;
}

-- and it has no other
pub read_shows : (modes : List Mode) (end : End) (event : Event) (outcome : Outcome) (n : ℕ) → event.what ≡ what.Read n
    → Step modes end event outcome → Rests (read_reply end n) outcome
read_shows modes end event outcome n asked step =
    rest_taken end step.row outcome (read_reply end n) step.limited (subst (λ (w : What). RowOf modes end event w step.row) asked step.decided)

agrees_with_itself : (w : What) (r : Reply) → AgreesOn w r r
agrees_with_itself (what.Read n) r = inl refl
agrees_with_itself other r = refl

-- with the table's replies to each `Read`
pub happens : (modes : List Mode) (calls : List Call) (start end : End) → LeadsWhere false modes start calls end
    → (known : List Call) × AgreesButForReads calls known × Leads modes start known end
happens modes [] start end here = ([], tt, here)
happens modes (Done event r ∷ calls) start end (outcome, inl step, is, rest) =
    let later = happens modes calls (applied outcome.effects start) end rest in
    (Done event r ∷ later.0, (refl, agrees_with_itself event.what r, later.1), (outcome, step, is, later.2))
happens modes (Done event r ∷ calls) start end (outcome, inr read, is, rest) =
    let later = happens modes calls (applied outcome.effects start) end rest in
    let known : Reply = read_reply start read.number in (
      Done event known ∷ later.0,
      (
        refl,
        subst (λ (w : What). AgreesOn w r known) (sym read.asked) (subst (RepliesToRead false start read.number) (sym is) read.reply),
        later.1,
      ),
      (
        shown start read.number,
        read_step modes start event read.number read.asked,
        refl,
        subst (λ (effects : List Effect). Leads modes (applied effects start) later.0 end) read.rests later.2,
      ),
    )
happens modes (Folded size ∷ calls) start end (folded, shorter, rest) =
    let later = happens modes calls (resized size start) end rest in
    (Folded size ∷ later.0, (refl, later.1), (folded, shorter, later.2))
happens modes (Stop event halt ∷ calls) start end stopped = (Stop event halt ∷ calls, refl, stopped)

-- where nothing is read, all is known
pub unread : (modes : List Mode) (calls : List Call) (start end : End) → HasNoRead calls → LeadsWhere false modes start calls end
    → Leads modes start calls end
unread modes [] start end none here = here
unread modes (Done event r ∷ calls) start end none (outcome, inl step, is, rest) =
    (outcome, step, is, unread modes calls (applied outcome.effects start) end none.1 rest)
unread modes (Done event r ∷ calls) start end none (outcome, inr read, is, rest) = absurd (subst IsNoRead read.asked none.0)
unread modes (Folded size ∷ calls) start end none (folded, shorter, rest) =
    (folded, shorter, unread modes calls (resized size start) end none rest)
unread modes (Stop event halt ∷ calls) start end none stopped = stopped

-- a step of the table, with a reply that agrees
agreeing_step : (modes : List Mode) (end : End) (event : Event) (r : Reply) (outcome : Outcome) (w : What) → event.what ≡ w
    → AgreesOn w r outcome.reply → Step modes end event outcome
    → (made : Outcome) × StepWhere false modes end event made × (r ≡ made.reply) × (made.effects ≡ outcome.effects)
agreeing_step modes end event r outcome (what.Read n) asked agrees step =
    let is : Rests (read_reply end n) outcome = read_shows modes end event outcome n asked step in
    let made : Outcome = record { effects = []; reply = r } in (
      made,
      inr (record {
        number = n;
        asked = asked;
        rests = refl;
        reply = subst (λ (o : Outcome). AgreesOn (what.Read n) r o.reply) is agrees;
      }),
      refl,
      sym (ap (λ (o : Outcome). o.effects) is),
    )
agreeing_step modes end event r outcome other asked agrees step = (outcome, inl step, agrees, refl)

-- calls that agree with the table's lead where those lead
pub agrees : (modes : List Mode) (calls known : List Call) (start end : End) → AgreesButForReads calls known
    → Leads modes start known end → LeadsWhere false modes start calls end
agrees modes [] [] start end both here = here
agrees modes [] (other ∷ known) start end both leads = absurd both
agrees modes (Done event r ∷ calls) [] start end both leads = absurd both
agrees modes (Done event r ∷ calls) (Done same reply ∷ known) start end (one, agree, both) (outcome, step, is, rest) =
    let made = agreeing_step modes start event r outcome event.what refl (subst (AgreesOn event.what r) is agree)
    (subst (λ (e : Event). Step modes start e outcome) (sym one) step) in
    let later = agrees modes calls known (applied outcome.effects start) end both rest in
    (made.0, made.1, made.2, subst (λ (effects : List Effect). LeadsWhere false modes (applied effects start) calls end) (sym made.3) later)
agrees modes (Done event r ∷ calls) (Folded size ∷ known) start end both leads = absurd both
agrees modes (Done event r ∷ calls) (Stop other halt ∷ known) start end both leads = absurd both
agrees modes (Folded size ∷ calls) [] start end both leads = absurd both
agrees modes (Folded size ∷ calls) (Done event r ∷ known) start end both leads = absurd both
agrees modes (Folded size ∷ calls) (Folded same ∷ known) start end (one, both) (folded, shorter, rest) =
    let P : ℕ → Type 0 = λ left. LeadsWhere false modes start (Folded left ∷ calls) end in
    subst P (sym one) (folded, shorter, agrees modes calls known (resized same start) end both rest)
agrees modes (Folded size ∷ calls) (Stop other halt ∷ known) start end both leads = absurd both
agrees modes (Stop event halt ∷ calls) known start end same leads =
    subst (λ (l : List Call). Leads modes start l end) (sym same) leads
