-- Ticks and confirmations.
use Rattle.std.proofs.Common.{◌≡◌, ℕ, ◌+◌, ◌<◌, ◌≤◌, List, [], ◌∷◌, Bool, true, false, nat_le, length, map, length-append, refl, ap, sym, subst, ◌∙◌, arith}
use Rattle.std.specs.Bool.{MatchBool}
use Rattle.std.specs.List.{count_by}
use Rattle.std.proofs.lemmas.Bool.{le-leb, lt-leb, lt-ltb, le-ltb}
use Rattle.as4_effects.specs.Effects.{effect_body, effects_body}
use Rattle.as4_effects.proofs.LengthLemmas.{number_length}
use Rattle.as4_effects.specs.declared.effect.Effect.{Effect}
use Rattle.as4_effects.specs.declared.effect.Effect.TheVariants as effect
use Rattle.as4_effects.specs.declared.effect.Tick.{Tick}
use Rattle.mode_values.specs.declared.mode.Mode.{Mode}
use Rattle.as4_values.specs.declared.moment.TheConstants.{MAX_MOMENT}
use Rattle.exchange_model.specs.Apply.{after, applied, failed_if_spent, record_len}
use Rattle.exchange_model.specs.Coming.{may_come}
use Rattle.exchange_model.specs.End.{End}
use Rattle.exchange_model.specs.Questions.{is_spent}
use Rattle.exchange_model.specs.Table.{Step, RowOf, Ticks, Confirms, IsLimited, has_room}
use Rattle.exchange_model.specs.declared.event.Event.{Event}
use Rattle.exchange_model.specs.declared.outcome.Outcome.{Outcome}
use Rattle.exchange_model.specs.declared.reply.Reply.{Reply}
use Rattle.exchange_model.specs.declared.reply.Reply.TheVariants as reply
use Rattle.exchange_model.specs.declared.what.What.{What}
use Rattle.exchange_model.specs.declared.what.What.TheVariants as what
use Rattle.msh_core.specs.Machine.{Machine}
use Rattle.msh_core.specs.Small.{CanGo, IsSmallReady, PlansFor, StandsFor}
use Rattle.msh_core.specs.declared.small.SmallPlan.{SmallPlan}
use Rattle.msh_core.specs.declared.small.SmallPlan.TheVariants as plan

at_true : (P Q : Type 0) (b : Bool) → b ≡ true → P → MatchBool b P Q
at_true P Q true e p = p
at_true P Q false e p = absurd cc

at_false : (P Q : Type 0) (b : Bool) → b ≡ false → Q → MatchBool b P Q
at_false P Q true e q = absurd cc
at_false P Q false e q = q

-- the row of the event
row_at : (modes : List Mode) (end : End) (event : Event) (w : What) (outcome : Outcome) → event.what ≡ w
    → RowOf modes end event w outcome → RowOf modes end event event.what outcome
row_at modes end event w outcome is row = subst (λ v. RowOf modes end event v outcome) (sym is) row

-- a row without effects is the outcome
rests_limited : (end : End) (r : Reply) → IsLimited end (record { effects = []; reply = r }) (record { effects = []; reply = r })
unfolding has_room
rests_limited end r = refl

rests_step : (modes : List Mode) (end : End) (event : Event) (r : Reply) → RowOf modes end event event.what (record { effects = []; reply = r })
    → Step modes end event (record { effects = []; reply = r })
rests_step modes end event r row = record { row = record { effects = []; reply = r }; decided = row; limited = rests_limited end r }

-- the record of a number has 20 bytes
tick_len : (tick : Tick) → record_len (effect.Ticked tick ∷ []) ≡ 20
unfolding record_len effects_body effect_body
tick_len tick = simp (length-append, number_length) refl

confirm_len : (upto : ℕ) → record_len (effect.Confirmed upto ∷ []) ≡ 20
unfolding record_len effects_body effect_body
confirm_len upto = simp (length-append, number_length) refl

-- one effect whose record has 20 bytes: there is room for it, or none
one_limited : (end : End) (e : Effect) (r : Reply) → record_len (e ∷ []) ≡ 20 → nat_le (end.size + 20) 4294967296 ≡ true
    → IsLimited end (record { effects = e ∷ []; reply = r }) (record { effects = e ∷ []; reply = r })
unfolding has_room
one_limited end e r len room = let has : has_room end (e ∷ []) ≡ true = rw (len, room) refl in at_true _ _ _ has refl

full_limited : (end : End) (e : Effect) (r : Reply) → record_len (e ∷ []) ≡ 20 → nat_le (end.size + 20) 4294967296 ≡ false
    → IsLimited end (record { effects = e ∷ []; reply = r }) (record { effects = []; reply = reply.Full end.size 20 })
unfolding has_room
full_limited end e r len full = let lacks : has_room end (e ∷ []) ≡ false = rw (len, full) refl in
    at_false _ _ _ lacks (ap (λ n. record { effects = []; reply = reply.Full end.size n }) (sym len))

-- a tick is late, finds the journal full, or is carried out
pub tick_late : (machine : Machine) (event : Event) → event.what ≡ what.Tick → event.stamp ≤ machine.end.moment
    → PlansFor machine event (plan.Rest (reply.Ticked 0))
unfolding Ticks
tick_late machine event is late =
    let outcome : Outcome = record { effects = []; reply = reply.Ticked 0 } in
    let row : Ticks machine.end event outcome = at_true _ _ _ (le-leb _ _ late) refl in
    (outcome, refl, rests_step machine.modes machine.end event (reply.Ticked 0) (row_at _ _ event _ outcome is row))

ticked : Machine → Event → Tick → Outcome
ticked machine event tick =
    record { effects = effect.Ticked tick ∷ []; reply = reply.Ticked (count_by (is_spent event.stamp) machine.end.sent) }

tick_row : (machine : Machine) (event : Event) (tick : Tick) → tick.moment ≡ event.stamp → machine.end.moment < event.stamp
    → Ticks machine.end event (ticked machine event tick)
unfolding Ticks ticked
tick_row machine event tick same later = at_false _ _ _ (lt-leb _ _ later) (tick, same, refl)

pub tick_full : (machine : Machine) (event : Event) → event.what ≡ what.Tick → machine.end.moment < event.stamp
    → nat_le (machine.end.size + 20) 4294967296 ≡ false → PlansFor machine event (plan.Rest (reply.Full machine.end.size 20))
unfolding ticked
tick_full machine event is later full =
    let tick : Tick = record { moment = event.stamp; dated = event.dated } in
    let outcome : Outcome = record { effects = []; reply = reply.Full machine.end.size 20 } in (
      outcome,
      refl,
      record {
        row = ticked machine event tick;
        decided = row_at _ _ event _ (ticked machine event tick) is (tick_row machine event tick refl later);
        limited = full_limited machine.end (effect.Ticked tick) (ticked machine event tick).reply (tick_len tick) full;
      },
    )

pub tick_made : (machine : Machine) (event : Event) → event.what ≡ what.Tick → machine.end.moment < event.stamp
    → nat_le (machine.end.size + 20) 4294967296 ≡ true → PlansFor machine event (plan.Tick event.stamp)
unfolding ticked
tick_made machine event is later room =
    let tick : Tick = record { moment = event.stamp; dated = event.dated } in (
      ticked machine event tick,
      (tick, refl, refl),
      record {
        row = ticked machine event tick;
        decided = row_at _ _ event _ (ticked machine event tick) is (tick_row machine event tick refl later);
        limited = one_limited machine.end (effect.Ticked tick) (ticked machine event tick).reply (tick_len tick) room;
      },
    )

-- a message was confirmed before, wasn't received, finds the journal full, or is confirmed
pub confirm_gone : (machine : Machine) (event : Event) (upto : ℕ) → event.what ≡ what.Confirm upto → upto < machine.end.confirmed
    → PlansFor machine event (plan.Rest reply.Gone)
unfolding Confirms
confirm_gone machine event upto is gone =
    let outcome : Outcome = record { effects = []; reply = reply.Gone } in
    let row : Confirms machine.end upto outcome = at_true _ _ _ (lt-ltb _ _ gone) refl in
    (outcome, refl, rests_step machine.modes machine.end event reply.Gone (row_at _ _ event _ outcome is row))

pub confirm_none : (machine : Machine) (event : Event) (upto : ℕ) → event.what ≡ what.Confirm upto → machine.end.confirmed ≤ upto
    → length machine.end.inbox ≤ upto → PlansFor machine event (plan.Rest reply.NoEntry)
unfolding Confirms
confirm_none machine event upto is left none =
    let outcome : Outcome = record { effects = []; reply = reply.NoEntry } in
    let row : Confirms machine.end upto outcome = at_false _ _ _ (le-ltb _ _ left) (at_true _ _ _ (le-leb _ _ none) refl) in
    (outcome, refl, rests_step machine.modes machine.end event reply.NoEntry (row_at _ _ event _ outcome is row))

confirmed : ℕ → Outcome
confirmed upto = record { effects = effect.Confirmed upto ∷ []; reply = reply.Confirmed upto }

confirm_row : (machine : Machine) (upto : ℕ) → machine.end.confirmed ≤ upto → upto < length machine.end.inbox
    → Confirms machine.end upto (confirmed upto)
unfolding Confirms confirmed
confirm_row machine upto left within = at_false _ _ _ (le-ltb _ _ left) (at_false _ _ _ (lt-leb _ _ within) refl)

pub confirm_full : (machine : Machine) (event : Event) (upto : ℕ) → event.what ≡ what.Confirm upto → machine.end.confirmed ≤ upto
    → upto < length machine.end.inbox → nat_le (machine.end.size + 20) 4294967296 ≡ false
    → PlansFor machine event (plan.Rest (reply.Full machine.end.size 20))
unfolding confirmed
confirm_full machine event upto is left within full =
    let outcome : Outcome = record { effects = []; reply = reply.Full machine.end.size 20 } in (
      outcome,
      refl,
      record {
        row = confirmed upto;
        decided = row_at _ _ event _ (confirmed upto) is (confirm_row machine upto left within);
        limited = full_limited machine.end (effect.Confirmed upto) (reply.Confirmed upto) (confirm_len upto) full;
      },
    )

pub confirm_made : (machine : Machine) (event : Event) (upto : ℕ) → event.what ≡ what.Confirm upto → machine.end.confirmed ≤ upto
    → upto < length machine.end.inbox → nat_le (machine.end.size + 20) 4294967296 ≡ true
    → PlansFor machine event (plan.Confirm upto)
unfolding confirmed
confirm_made machine event upto is left within room = (
  confirmed upto,
  refl,
  record {
    row = confirmed upto;
    decided = row_at _ _ event _ (confirmed upto) is (confirm_row machine upto left within);
    limited = one_limited machine.end (effect.Confirmed upto) (reply.Confirmed upto) (confirm_len upto) room;
  },
)

-- ticks to the same moment have the same effect
pub ticks_alike : (tick other : Tick) (end : End) → tick.moment ≡ other.moment → after (effect.Ticked tick) end ≡ after (effect.Ticked other) end
unfolding after
ticks_alike tick other end same = ap (λ m. record end { sent = map (failed_if_spent m) end.sent; moment = m }) same

-- with its record, a tick leads to the endpoint of the outcome
pub tick_done : (end new : End) (moment failed : ℕ) (made : Tick) (outcome : Outcome) → made.moment ≡ moment
    → new ≡ record (after (effect.Ticked made) end) { size = (after (effect.Ticked made) end).size + 20 }
    → failed ≡ count_by (is_spent moment) end.sent → StandsFor end (plan.Tick moment) outcome
    → (new ≡ applied outcome.effects end) × (reply.Ticked failed ≡ outcome.reply)
unfolding applied
tick_done end new moment failed made outcome same grows counts stands =
    let tick = stands.0 in
    let after_is : after (effect.Ticked made) end ≡ after (effect.Ticked tick) end =
    ticks_alike made tick end (same ∙ sym stands.1) in (
      grows ∙ ap (λ (x : End). record x { size = x.size + 20 }) after_is
          ∙ ap (λ n. record (after (effect.Ticked tick) end) { size = (after (effect.Ticked tick) end).size + n }) (sym (tick_len tick))
          ∙ ap (λ (o : Outcome). applied o.effects end) (sym stands.2),
      ap reply.Ticked counts ∙ ap (λ (o : Outcome). o.reply) (sym stands.2),
    )

pub confirm_done : (end new : End) (upto : ℕ) (outcome : Outcome)
    → new ≡ record (after (effect.Confirmed upto) end) { size = (after (effect.Confirmed upto) end).size + 20 }
    → StandsFor end (plan.Confirm upto) outcome
    → (new ≡ applied outcome.effects end) × (reply.Confirmed upto ≡ outcome.reply)
unfolding applied
confirm_done end new upto outcome grows stands = (
  grows
      ∙ ap (λ n. record (after (effect.Confirmed upto) end) { size = (after (effect.Confirmed upto) end).size + n }) (sym (confirm_len upto))
      ∙ ap (λ (o : Outcome). applied o.effects end) (sym stands),
  ap (λ (o : Outcome). o.reply) (sym stands),
)

pub rest_done : (end : End) (r : Reply) (outcome : Outcome) → StandsFor end (plan.Rest r) outcome
    → (end ≡ applied outcome.effects end) × (r ≡ outcome.reply)
unfolding applied
rest_done end r outcome stands =
    (ap (λ (o : Outcome). applied o.effects end) (sym stands), ap (λ (o : Outcome). o.reply) (sym stands))

-- a plan for every tick to a moment is ready, if it can be carried out
pub tick_ready : (machine : Machine) (stamp : ℕ) (p : SmallPlan) → stamp ≤ MAX_MOMENT
    → ((event : Event) → event.what ≡ what.Tick → event.stamp ≡ stamp → PlansFor machine event p) → CanGo machine.end p
    → IsSmallReady machine p
unfolding may_come
tick_ready machine stamp p dated planned goes =
    let event : Event = record { stamp = stamp; nonce = 0; what = what.Tick; dated = dated; deliverable = refl } in
    record { planned = (event, planned event refl refl); goes = goes }

-- the same for every confirmation up to a message
pub confirm_ready : (machine : Machine) (upto : ℕ) (p : SmallPlan)
    → ((event : Event) → event.what ≡ what.Confirm upto → PlansFor machine event p) → CanGo machine.end p → IsSmallReady machine p
unfolding may_come
confirm_ready machine upto p planned goes =
    let event : Event = record { stamp = 0; nonce = 0; what = what.Confirm upto; dated = omega arith; deliverable = refl } in
    record { planned = (event, planned event refl); goes = goes }
