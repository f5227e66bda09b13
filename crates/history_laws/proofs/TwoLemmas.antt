-- Two offices are two endpoints of a world.
use Rattle.std.proofs.Common.{◌≡◌, ◌⊎◌, inl, inr, ℕ, ◌<◌, true, false, List, [], ◌∷◌, ◌++◌, Bool, Option, Some, None, refl, sym, ap, ◌∙◌, subst, append-nil}
use Rattle.std.specs.Prelude.{if◌then◌else◌}
use Rattle.as4_disk.specs.Image.{Image}
use Rattle.as4_disk.specs.declared.fault_counts.FaultCounts.{FaultCounts}
use Rattle.as4_values.specs.declared.message.Message.{Message}
use Rattle.mode_values.specs.declared.mode.Mode.{Mode}
use Rattle.msh_recovery.specs.Opens.{ReadsAs}
use Rattle.exchange_model.specs.Apply.{applied}
use Rattle.exchange_model.specs.DeliveredOnce.{BothDeliverOnce, HasDeliveredOnce}
use Rattle.exchange_model.specs.End.{End}
use Rattle.exchange_model.specs.Fold.{IsFoldedSize, resized}
use Rattle.exchange_model.specs.Table.{Step}
use Rattle.exchange_model.specs.World.{Act, Does, Folds, Happening, IsHeard, Left, MayHappen, MayHappenAt, Right, Site, Speaker, World, acted, folded, folded_at, new_world, sends, world_after, world_at}
use Rattle.exchange_model.specs.declared.event.Event.{Event}
use Rattle.exchange_model.specs.declared.reply.Reply.{Reply}
use Rattle.exchange_model.specs.declared.what.What.{What}
use Rattle.exchange_model.specs.declared.what.What.TheVariants as what
use Rattle.exchange_laws.proofs.ListLemmas.{contains_had, had_left, has_contained}
use Rattle.office.specs.Calls.{Leads, stop_of}
use Rattle.office.specs.Happened.{Happened, IsCutOff, IsLost, MayLead}
use Rattle.office.specs.Left.{IsLeft}
use Rattle.office.specs.declared.call.Call.{Call}
use Rattle.office.specs.declared.call.Call.TheVariants.{Done, Folded, Stop}
use Rattle.history_laws.specs.Following.{GoesOn}
use Rattle.history_laws.specs.TwoOffices.{FailsInside, IsHeardBy, IsHeardIn, IsNext, Offices, Runs, Side, TakesTurn, new_offices, sent_by, speaker_of, world_of}
use Rattle.history_laws.proofs.FollowingLemmas.{join}
use Rattle.history_laws.proofs.InsideLemmas.{same_left, some_fault, stop_leads}

-- ---- a world after one happening more

abbrev both : Speaker → Speaker → World
both left right = record { left = left; right = right }

abbrev IsReached : World → Type 0
IsReached world = (all : List Happening) × MayHappen all new_world × (world_after all new_world ≡ world)

may_more : (all more : List Happening) (world : World) → MayHappen all world → MayHappen more (world_after all world) → MayHappen (all ++ more) world
may_more [] more world may later = later
may_more (Does act ∷ all) more world may later = (may.0, may_more all more (world_at act.site act world) may.1 later)
may_more (Folds site size ∷ all) more world may later = (may.0, may_more all more (folded_at site size world) may.1 later)

after_more : (all more : List Happening) (world : World) → world_after (all ++ more) world ≡ world_after more (world_after all world)
after_more [] more world = refl
after_more (Does act ∷ all) more world = after_more all more (world_at act.site act world)
after_more (Folds site size ∷ all) more world = after_more all more (folded_at site size world)

reached_more : (world next : World) (one : Happening) → IsReached world → MayHappen (one ∷ []) world → world_after (one ∷ []) world ≡ next → IsReached next
reached_more world next one (all, may, leads) more is = (
  all ++ one ∷ [],
  may_more all (one ∷ []) new_world may (subst (MayHappen (one ∷ [])) (sym leads) more),
  after_more all (one ∷ []) new_world ∙ ap (world_after (one ∷ [])) leads ∙ is,
)

-- an endpoint that receives these messages stays, acts or is compacted
abbrev Moves : Site → List Message → Speaker → Speaker → Type 0
Moves site heard old new =
    (old ≡ new)
    ⊎ (((act : Act) × (act.site ≡ site) × IsHeard heard act.event.what × Step act.modes old.end act.event act.outcome × (acted act old ≡ new))
    ⊎ ((size : ℕ) × IsFoldedSize old.end size × (folded size old ≡ new)))

moved_left : (left right next : Speaker) → Moves Left right.said left next → IsReached (both left right) → IsReached (both next right)
moved_left left right next (inl same) reached = subst (λ (s : Speaker). IsReached (both s right)) same reached
moved_left left right next (inr (inl (act, at, heard, step, is))) reached =
    reached_more (both left right) (both next right) (Does act) reached
    (subst (λ (site : Site). MayHappenAt site act (both left right)) (sym at) (record { heard = heard; step = step }), tt)
    (subst (λ (site : Site). world_at site act (both left right) ≡ both next right) (sym at) (ap (λ (s : Speaker). both s right) is))
moved_left left right next (inr (inr (size, fits, is))) reached =
    reached_more (both left right) (both next right) (Folds Left size) reached (fits, tt) (ap (λ (s : Speaker). both s right) is)

moved_right : (left right next : Speaker) → Moves Right left.said right next → IsReached (both left right) → IsReached (both left next)
moved_right left right next (inl same) reached = subst (λ (s : Speaker). IsReached (both left s)) same reached
moved_right left right next (inr (inl (act, at, heard, step, is))) reached =
    reached_more (both left right) (both left next) (Does act) reached
    (subst (λ (site : Site). MayHappenAt site act (both left right)) (sym at) (record { heard = heard; step = step }), tt)
    (subst (λ (site : Site). world_at site act (both left right) ≡ both left next) (sym at) (ap (λ (s : Speaker). both left s) is))
moved_right left right next (inr (inr (size, fits, is))) reached =
    reached_more (both left right) (both left next) (Folds Right size) reached (fits, tt) (ap (λ (s : Speaker). both left s) is)

-- ---- an entered call

same_speaker : (end next : End) (said later : List Message) → end ≡ next → said ≡ later
    → record { end = end; said = said } ≡ speaker_of (record { modes = []; end = next; calls = []; said = later })
same_speaker end next said later ends saids = cc

enters_by : (site : Site) (stop : Option FaultCounts) (call : Call) (heard : List Message) (old new : Side)
    → GoesOn true old.modes stop old.end (call ∷ []) new.end → IsHeardBy heard call → new.said ≡ old.said ++ sent_by call
    → Moves site heard (speaker_of old) (speaker_of new)
enters_by site None (Done event r) heard old new (outcome, step, is, end) received said =
    let act : Act = record { site = site; modes = old.modes; event = event; outcome = outcome; lost = false } in
    let saids : old.said ++ sends outcome.reply ≡ new.said = ap (λ (reply : Reply). old.said ++ sends reply) (sym is) ∙ sym said in
    inr (inl (act, refl, received, step, same_speaker (applied outcome.effects old.end) new.end (old.said ++ sends outcome.reply) new.said end saids))
enters_by site None (Folded size) heard old new (fits, shorter, end) received said =
    inr (inr (size, fits, same_speaker (resized size old.end) new.end old.said new.said end (sym (said ∙ append-nil old.said))))
enters_by site None (Stop event halt) heard old new (rose, all, end) received said =
    inl (same_speaker old.end new.end old.said new.said end (sym (said ∙ append-nil old.said)))
enters_by site (Some halt) (Done event r) heard old new (refused, end) received said =
    inl (same_speaker old.end new.end old.said new.said end
    (sym (said ∙ ap (λ (reply : Reply). old.said ++ sends reply) refused.0 ∙ append-nil old.said)))
enters_by site (Some halt) (Folded size) heard old new (refused, end) received said = absurd refused.0
enters_by site (Some halt) (Stop event at) heard old new (refused, end) received said = absurd refused.0

-- ---- an office that is opened again

abbrev pub StopLeaves : Type 0
StopLeaves = (site : Site) (modes : List Mode) (calls : List Call) (start end next : End) (image : Image)
    → Leads modes start calls end → IsLeft modes end calls image → ReadsAs image next
    → (all : List Happening) × (more : List Happening) × Happened site modes calls all × IsCutOff site modes calls more × MayLead (all ++ more) start next

-- what the call that met a fault received is one of these messages
abbrev IsStopHeard : List Message → List Call → Type 0
IsStopHeard heard [] = Unit {0}
IsStopHeard heard (Done event r ∷ calls) = IsStopHeard heard calls
IsStopHeard heard (Folded size ∷ calls) = IsStopHeard heard calls
IsStopHeard heard (Stop event halt ∷ calls) = IsHeardIn heard event

module _ (site : Site) (modes : List Mode) (heard said : List Message) (here next : End) where
  abbrev old : Speaker
  old = record { end = here; said = said }

  abbrev new : Speaker
  new = record { end = next; said = said }

  lost_moves : (event : Option Event) (more : List Happening) → IsHeardIn heard event → IsLost site modes event more
      → MayLead more here next → Moves site heard old new
  lost_moves (Some event) [] received lost lead = absurd lost
  lost_moves (Some event) (Does act ∷ []) received (at, by, same, lost) ((step, none), is) =
      let silent : (if act.lost then said else said ++ sends act.outcome.reply) ≡ said =
      ap (λ (b : Bool). if b then said else said ++ sends act.outcome.reply) lost in
      inr (inl (act, at, subst (λ (e : Event). IsHeard heard e.what) (sym same) received, step, same_speaker _ next _ said is silent))
  lost_moves (Some event) (Does act ∷ one ∷ more) received lost lead = absurd lost
  lost_moves (Some event) (Folds at size ∷ more) received lost lead = absurd lost
  lost_moves None [] received lost lead = absurd lost
  lost_moves None (Does act ∷ more) received lost lead = absurd lost
  lost_moves None (Folds at size ∷ []) received lost ((fits, none), is) =
      inr (inr (size, fits, same_speaker (resized size here) next said said is refl))
  lost_moves None (Folds at size ∷ one ∷ more) received lost lead = absurd lost

  nothing_moves : here ≡ next → Moves site heard old new
  nothing_moves is = inl (same_speaker here next said said is refl)

  cut_off_moves : (event : Option Event) (all more : List Happening) → IsHeardIn heard event → all ≡ []
      → (more ≡ []) ⊎ IsLost site modes event more → MayLead (all ++ more) here next → Moves site heard old new
  cut_off_moves event all more received none (inl nothing) lead =
      let P : List Happening → Type 0 = λ l. MayLead (l ++ more) here next in
      let Q : List Happening → Type 0 = λ l. MayLead l here next in
      nothing_moves (subst Q nothing (subst P none lead)).1
  cut_off_moves event all more received none (inr lost) lead =
      let P : List Happening → Type 0 = λ l. MayLead (l ++ more) here next in
      lost_moves event more received lost (subst P none lead)

  reopens_by : StopLeaves → (calls : List Call) (start : End) (image : Image) → Leads modes start calls here → IsStopHeard heard calls
      → IsLeft modes here calls image → ReadsAs image next → Moves site heard old new
  reopens_by leaves [] start image leads received left reads =
      let found = leaves site modes [] here here next image refl left reads in
      let P : List Happening → Type 0 = λ l. MayLead (l ++ found.1) here next in
      let Q : List Happening → Type 0 = λ l. MayLead l here next in
      nothing_moves (subst Q found.3 (subst P found.2 found.4)).1
  reopens_by leaves (Done event r ∷ calls) start image (outcome, step, is, rest) received left reads =
      reopens_by leaves calls (applied outcome.effects start) image rest received left reads
  reopens_by leaves (Folded size ∷ calls) start image (fits, shorter, rest) received left reads =
      reopens_by leaves calls (resized size start) image rest received left reads
  reopens_by leaves (Stop (Some event) halt ∷ calls) start image (rose, all, is) received left reads =
      let found = leaves site modes (Stop (Some event) halt ∷ []) here here next image (rose, tt, refl) left reads in
      cut_off_moves (Some event) found.0 found.1 received found.2 found.3 found.4
  reopens_by leaves (Stop None halt ∷ calls) start image (rose, all, is) received left reads =
      let found = leaves site modes (Stop None halt ∷ []) here here next image (rose, tt, refl) left reads in
      cut_off_moves None found.0 found.1 received found.2 found.3 found.4

-- ---- what an office keeps from turn to turn

-- its calls lead to its state, and the interrupted one received one of these messages
abbrev InOrder : List Message → Side → Type 0
InOrder heard side = ((start : End) × Leads side.modes start side.calls side.end) × IsStopHeard heard side.calls

hears_more : (heard more : List Message) (w : What) → IsHeard heard w → IsHeard (heard ++ more) w
hears_more heard more (what.Came message) there =
    contains_had (heard ++ more) message (had_left heard more message (has_contained heard message there))
hears_more heard more other there = tt

stop_hears_more : (heard more : List Message) (calls : List Call) → IsStopHeard heard calls → IsStopHeard (heard ++ more) calls
stop_hears_more heard more [] there = tt
stop_hears_more heard more (Done event r ∷ calls) there = stop_hears_more heard more calls there
stop_hears_more heard more (Folded size ∷ calls) there = stop_hears_more heard more calls there
stop_hears_more heard more (Stop (Some event) halt ∷ calls) there = hears_more heard more event.what there
stop_hears_more heard more (Stop None halt ∷ calls) there = tt

stop_heard_with : (heard : List Message) (calls : List Call) (call : Call) → IsStopHeard heard calls → IsHeardBy heard call
    → IsStopHeard heard (calls ++ call ∷ [])
stop_heard_with heard [] (Done event r) there received = tt
stop_heard_with heard [] (Folded size) there received = tt
stop_heard_with heard [] (Stop event halt) there received = received
stop_heard_with heard (Done event r ∷ calls) call there received = stop_heard_with heard calls call there received
stop_heard_with heard (Folded size ∷ calls) call there received = stop_heard_with heard calls call there received
stop_heard_with heard (Stop event halt ∷ calls) call there received = there

stop_heard_inside : (heard : List Message) (calls : List Call) (event : Option Event) (halt : FaultCounts) → stop_of calls ≡ None → IsHeardIn heard event
    → IsStopHeard heard (calls ++ Stop event halt ∷ [])
stop_heard_inside heard [] event halt going received = received
stop_heard_inside heard (Done other r ∷ calls) event halt going received = stop_heard_inside heard calls event halt going received
stop_heard_inside heard (Folded size ∷ calls) event halt going received = stop_heard_inside heard calls event halt going received
stop_heard_inside heard (Stop other at ∷ calls) event halt going received = absurd cc

-- what a turn does
record Turns (site : Site) (heard : List Message) (old new : Side) : Type 0 where
  pub moves : Moves site heard (speaker_of old) (speaker_of new)
  pub order : InOrder heard new
  pub said : (calls : List Call) → IsStopHeard old.said calls → IsStopHeard new.said calls

module _ (leaves : StopLeaves) where
  reopens_moves : (site : Site) (heard : List Message) (old : Side) (next start : End) (image : Image) → Leads old.modes start old.calls old.end
      → IsStopHeard heard old.calls → IsLeft old.modes old.end old.calls image ⊎ FailsInside heard old image → ReadsAs image next
      → Moves site heard (speaker_of old) (record { end = next; said = old.said })
  reopens_moves site heard old next start image leads there (inl left) reads =
      reopens_by site old.modes heard old.said old.end next leaves old.calls start image leads there left reads
  reopens_moves site heard old next start image leads there (inr inside) reads =
      let calls : List Call = old.calls ++ Stop inside.event some_fault ∷ [] in
      reopens_by site old.modes heard old.said old.end next leaves calls start image
      (stop_leads old.modes old.calls start old.end inside.event leads inside.going)
      (stop_heard_inside heard old.calls inside.event some_fault inside.going inside.received)
      ((same_left old.modes old.calls old.end inside.event some_fault image inside.going).0 inside.left) reads

  turns : (site : Site) (heard : List Message) (old new : Side) → InOrder heard old → TakesTurn heard old new → Turns site heard old new
  turns site heard old new ((start, leads), there) (inl (call, enters)) =
      let led : Leads old.modes start (old.calls ++ call ∷ []) new.end = join true old.modes old.calls (call ∷ []) start old.end new.end leads enters.goes in
      let P : List Mode → Type 0 = λ modes. Leads modes start new.calls new.end in
      let Q : List Call → Type 0 = λ calls. Leads old.modes start calls new.end in
      record {
        moves = enters_by site (stop_of old.calls) call heard old new enters.goes enters.received enters.said;
        order = (
          (start, subst P (sym enters.modes) (subst Q (sym enters.calls) led)),
          subst (IsStopHeard heard) (sym enters.calls) (stop_heard_with heard old.calls call there enters.received),
        );
        said = λ calls before. subst (λ (said : List Message). IsStopHeard said calls) (sym enters.said)
            (stop_hears_more old.said (sent_by call) calls before);
      }
  turns site heard old new ((start, leads), there) (inr (image, reopens)) =
      let moved = reopens_moves site heard old new.end start image leads there reopens.left reopens.reads in
      let P : List Message → Type 0 = λ said. Moves site heard (speaker_of old) (record { end = new.end; said = said }) in
      let Q : List Call → Type 0 = λ calls. Leads new.modes new.end calls new.end in
      record {
        moves = subst P (sym reopens.said) moved;
        order = ((new.end, subst Q (sym reopens.calls) refl), subst (IsStopHeard heard) (sym reopens.calls) tt);
        said = λ calls before. subst (λ (said : List Message). IsStopHeard said calls) (sym reopens.said) before;
      }

  -- ---- the run

  abbrev AreInOrder : Offices → Type 0
  AreInOrder offices =
      IsReached (world_of offices) × InOrder offices.right.said offices.left × InOrder offices.left.said offices.right

  next_order : (old new : Offices) → IsNext old new → AreInOrder old → AreInOrder new
  next_order old new (inl (turn, same)) (reached, left, right) =
      let done = turns Left old.right.said old.left new.left left turn in
      let P : Side → Type 0 = λ side. AreInOrder (record { left = new.left; right = side }) in
      subst P (sym same) (
        moved_left (speaker_of old.left) (speaker_of old.right) (speaker_of new.left) done.moves reached,
        done.order,
        (right.0, done.said old.right.calls right.1),
      )
  next_order old new (inr (turn, same)) (reached, left, right) =
      let done = turns Right old.left.said old.right new.right right turn in
      let P : Side → Type 0 = λ side. AreInOrder (record { left = side; right = new.right }) in
      subst P (sym same) (
        moved_right (speaker_of old.left) (speaker_of old.right) (speaker_of new.right) done.moves reached,
        (left.0, done.said old.left.calls left.1),
        done.order,
      )

  run_order : (run : List Offices) (first last : Offices) → Runs run first last → AreInOrder first → AreInOrder last
  run_order [] first last same order = subst AreInOrder same order
  run_order (next ∷ later) first last (turn, rest) order = run_order later next last rest (next_order first next turn order)

  pub deliver_once : ((all : List Happening) → MayHappen all new_world → BothDeliverOnce all (world_after all new_world))
      → (run : List Offices) (left right : List Mode) (last : Offices) → Runs run (new_offices left right) last → HasDeliveredOnce (world_of last)
  deliver_once once run left right last runs =
      let first = new_offices left right in
      let order = run_order run first last runs (([], tt, refl), ((first.left.end, refl), tt), ((first.right.end, refl), tt)) in
      let reached = order.0 in
      record {
        all = reached.0;
        may = reached.1;
        leads = reached.2;
        once = subst (BothDeliverOnce reached.0) reached.2 (once reached.0 reached.1);
      }

-- ---- and back

at_going : (modes : List Mode) (stop : Option FaultCounts) (here end : End) (calls : List Call) → stop ≡ None → Leads modes here calls end
    → GoesOn true modes stop here calls end
at_going modes stop here end calls going leads = subst (λ s. GoesOn true modes s here calls end) (sym going) leads

pub act_turn : (act : Act) (heard : List Message) (side : Side) → IsHeard heard act.event.what → Step act.modes side.end act.event act.outcome
    → act.modes ≡ side.modes → act.lost ≡ false → stop_of side.calls ≡ None
    → (next : Side) × TakesTurn heard side next × (speaker_of next ≡ acted act (speaker_of side))
act_turn act heard side received step modes sent going =
    let new : End = applied act.outcome.effects side.end in
    let call : Call = Done act.event act.outcome.reply in
    let made : Step side.modes side.end act.event act.outcome = subst (λ (m : List Mode). Step m side.end act.event act.outcome) modes step in
    let leads : Leads side.modes side.end (call ∷ []) new = (act.outcome, made, refl, refl) in
    let said : List Message = side.said ++ sends act.outcome.reply in
    let saids : said ≡ (if act.lost then side.said else said) = ap (λ (b : Bool). if b then side.said else said) (sym sent) in (
      record { modes = side.modes; end = new; calls = side.calls ++ call ∷ []; said = said },
      inl (
        call,
        record { goes = at_going side.modes (stop_of side.calls) side.end new (call ∷ []) going leads; received = received; modes = refl; calls = refl; said = refl },
      ),
      same_speaker new new said (if act.lost then side.said else said) refl saids,
    )

pub fold_turn : (size : ℕ) (heard : List Message) (side : Side) → IsFoldedSize side.end size → size < side.end.size → stop_of side.calls ≡ None
    → (next : Side) × TakesTurn heard side next × (speaker_of next ≡ folded size (speaker_of side))
fold_turn size heard side fits shorter going =
    let new : End = resized size side.end in
    let leads : Leads side.modes side.end (Folded size ∷ []) new = (fits, shorter, refl) in (
      record { modes = side.modes; end = new; calls = side.calls ++ Folded size ∷ []; said = side.said },
      inl (
        Folded size,
        record {
          goes = at_going side.modes (stop_of side.calls) side.end new (Folded size ∷ []) going leads;
          received = tt;
          modes = refl;
          calls = refl;
          said = sym (append-nil side.said);
        },
      ),
      refl,
    )
