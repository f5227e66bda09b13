-- What calls of an office add to a pass.
use Rattle.std.proofs.Common.{◌≡◌, ◌⊎◌, ◌+◌, ◌≤◌, ◌^◌, ℕ, List, [], ◌∷◌, ◌++◌, Option, Some, Result, Ok, Err, length, inl, inr, refl, sym, ap, subst, ◌∙◌, append_assoc, length-append, arith}
use mathlib.Core.List.{IsPrefix}
use Rattle.as4_disk.specs.declared.disk.Disk.{Ghosts as DiskMeaning}
use Rattle.exchange_model.specs.declared.event.Event.{Event}
use Rattle.exchange_model.specs.declared.reply.Reply.{Reply}
use Rattle.exchange_model.specs.declared.reply.Reply.TheVariants as reply
use Rattle.office.specs.State.{OfficeState}
use Rattle.office.specs.Steps.{Enters, Handles}
use Rattle.office.specs.declared.call.Call.{Call}
use Rattle.office.specs.declared.call.Call.TheVariants.{Done, Stop}
use Rattle.office.specs.declared.fault.OfficeFault.{OfficeFault}
use Rattle.office.specs.declared.fault.OfficeFault.TheVariants as fault
use Rattle.pass_book.specs.States.{PassState}
use Rattle.pass_book.proofs.Beginnings.{prefix_self, prefix_more}
use Rattle.workers.specs.Bounds.{event_of}

-- the calls that the pass has seen go on, and its share rises by this number
pub record Moves (n : ℕ) (old new : PassState Call) : Type 0 where
  pub list : IsPrefix old.list new.list
  pub share : new.share ≡ old.share + n

pub prefix_then : {A : Type 0} (xs ys zs : List A) → IsPrefix xs ys → IsPrefix ys zs → IsPrefix xs zs
prefix_then xs ys zs p q = (p.0 ++ q.0, sym (append_assoc xs p.0 q.0) ∙ ap (λ l. l ++ q.0) p.1 ∙ q.1)

pub moves_none : (pass : PassState Call) → Moves 0 pass pass
moves_none pass = record { list = prefix_self pass.list; share = omega arith }

pub moves_same : (old new : PassState Call) → new ≡ old → Moves 0 old new
moves_same old new same = subst (λ (pass : PassState Call). Moves 0 old pass) (sym same) (moves_none old)

pub moves_then : (m n : ℕ) (old middle new : PassState Call) → Moves m old middle → Moves n middle new → Moves (m + n) old new
moves_then m n old middle new first second = record {
  list = prefix_then old.list middle.list new.list first.list second.list;
  share = second.share ∙ omega (arith, first.share);
}

-- the last call that the pass has seen has this event
pub record EndsWith (event : Event) (pass : PassState Call) : Type 0 where
  pub before : List Call
  pub call : Call
  pub list : pass.list ≡ before ++ call ∷ []
  pub is : event_of call ≡ Some event

-- Why no call was made: the history is full, or E.
abbrev pub IsFull : PassState Call → Type 0
IsFull pass = 2 ^ 63 ≤ length pass.list

-- at most one call was made, with this event; if none, the history is full, or E
pub record MakesOne (event : Event) (E : Type 0) (old new : PassState Call) : Type 0 where
  pub count : ℕ
  pub one : count ≤ 1
  pub moves : Moves count old new
  pub cause : ((count ≡ 1) × EndsWith event new) ⊎ IsFull new ⊎ E

module _ {D : Type 0} (M : DiskMeaning D) (found left : OfficeState D) (old new : PassState Call) (event : Event) where
  one_more : (E : Type 0) (call : Call) → event_of call ≡ Some event → Enters found left old new call → MakesOne event E old new
  one_more E call is enters =
      let list = enters.whole ∙ enters.list in record {
        count = 1;
        one = omega arith;
        moves = record {
          list = subst (λ (l : List Call). IsPrefix old.list l) (sym list) (prefix_more old.list found.list (call ∷ []) enters.seen);
          share = enters.share;
        };
        cause = inl (refl, record { before = found.list; call = call; list = list; is = is });
      }

  -- an event that was handled made a call, unless the history is full or memory ran out
  pub handled : (result : Result Reply OfficeFault) → Handles M found left old new event result → MakesOne event (result ≡ Err fault.NoMemory) old new
  handled (Ok r) handles = one_more _ (Done event r) refl handles.answer.entered
  handled (Err (fault.Disk before after)) handles =
      one_more _ (Stop (Some event) (record { before = before; after = after })) refl handles.answer.stops.entered
  handled (Err (fault.Stopped before after)) handles = one_more _ (Done event (reply.Stopped before after)) refl handles.answer.1
  handled (Err fault.Worn) handles =
      let same = handles.answer.pass in record {
        count = 0;
        one = omega arith;
        moves = record {
          list = subst (λ (l : List Call). IsPrefix old.list l) (sym (ap (λ (p : PassState Call). p.list) same)) handles.answer.seen;
          share = ap (λ (p : PassState Call). p.share) same ∙ omega arith;
        };
        cause = inr (inl (omega (arith, ap (λ (p : PassState Call). length p.list) same, handles.answer.full)));
      }
  handled (Err fault.NoMemory) handles = record {
    count = 0;
    one = omega arith;
    moves = moves_same old new handles.answer.0.pass;
    cause = inr (inr refl);
  }

-- another reason for no call
pub because : (event : Event) (E F : Type 0) (old new : PassState Call) → (E → F) → MakesOne event E old new → MakesOne event F old new
because event E F old new why made = record {
  count = made.count;
  one = made.one;
  moves = made.moves;
  cause = elim made.cause [ inl some ↦ inl some | inr none ↦ elim none as (λ _. ((made.count ≡ 1) × EndsWith event new) ⊎ IsFull new ⊎ F) [ inl full ↦ inr (inl full) | inr e ↦ inr (inr (why e)) ] ];
}

-- a full history stays full
pub stays_full : (n : ℕ) (old new : PassState Call) → Moves n old new → IsFull old → IsFull new
stays_full n old new moves full =
    let longer : length (old.list ++ moves.list.0) ≡ length new.list = ap length moves.list.1 in
    omega (arith, full, longer, length-append old.list moves.list.0)
