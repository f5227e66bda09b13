-- What an office is asked decides its replies.
use Rattle.std.proofs.Common.{◌≡◌, ℕ, true, false, List, [], ◌∷◌, refl, sym, ap, ◌∙◌, subst}
use Rattle.std.specs.List.{AllByRecursion}
use Rattle.as4_disk.specs.declared.fault_counts.FaultCounts.{FaultCounts}
use Rattle.as4_effects.specs.declared.effect.Effect.{Effect}
use Rattle.mode_values.specs.declared.mode.Mode.{Mode}
use Rattle.exchange_model.specs.Apply.{applied}
use Rattle.exchange_model.specs.End.{End}
use Rattle.exchange_model.specs.Fold.{IsFolded, IsFoldedSize, folded_size, resized}
use Rattle.exchange_model.specs.Table.{Step}
use Rattle.exchange_model.specs.declared.event.Event.{Event}
use Rattle.exchange_model.specs.declared.outcome.Outcome.{Outcome}
use Rattle.office.specs.Calls.{IsRefusedAt, Leads, LeadsWhere}
use Rattle.office.specs.declared.call.Call.{Call}
use Rattle.office.specs.declared.call.Call.TheVariants.{Done, Folded, Stop}
use Rattle.history_laws.specs.Agreeing.{AgreesButForReads}
use Rattle.history_laws.specs.Asking.{Asked, asked_of}
use Rattle.history_laws.specs.Asking.Asked.{Compact}
use Rattle.history_laws.proofs.FollowingLemmas.{HasOneOutcome, one_end}
use Rattle.history_laws.proofs.UnseenLemmas.{happens}

-- after a fault
refused_same : (halt : FaultCounts) (calls others : List Call) → asked_of calls ≡ asked_of others → AllByRecursion (IsRefusedAt halt) calls
    → AllByRecursion (IsRefusedAt halt) others → calls ≡ others
refused_same halt [] [] asked all each = refl
refused_same halt [] (Done event r ∷ others) asked all each = absurd cc
refused_same halt [] (Folded size ∷ others) asked all each = absurd each.0
refused_same halt [] (Stop event at ∷ others) asked all each = absurd each.0
refused_same halt (Done event r ∷ calls) (Done same reply ∷ others) asked all each =
    let one : event ≡ same = cc in
    let replies : r ≡ reply = all.0 ∙ sym each.0 in
    let rest : calls ≡ others = refused_same halt calls others (cc) all.1 each.1 in
    cc
refused_same halt (Folded size ∷ calls) others asked all each = absurd all.0
refused_same halt (Stop event at ∷ calls) others asked all each = absurd all.0
refused_same halt calls others asked all each = absurd cc

-- calls that agree were asked the same
agreeing_asked : (calls known : List Call) → AgreesButForReads calls known → asked_of calls ≡ asked_of known
agreeing_asked [] [] both = refl
agreeing_asked (Done event r ∷ calls) (Done same reply ∷ known) both =
    let one : event ≡ same = both.0 in
    let rest : asked_of calls ≡ asked_of known = agreeing_asked calls known both.2 in
    cc
agreeing_asked (Folded size ∷ calls) (Folded same ∷ known) both = ap (λ (l : List Asked). Compact ∷ l) (agreeing_asked calls known both.1)
agreeing_asked (Stop event halt ∷ calls) known both = ap asked_of both
agreeing_asked calls known both = absurd both

abbrev pub HasOneFold : Type 0
HasOneFold = (end : End) (a b : List Effect) → IsFolded end a → IsFolded end b → a ≡ b

module _ (one : HasOneOutcome) (one_fold : HasOneFold) where
  one_size : (end : End) (a b : ℕ) → IsFoldedSize end a → IsFoldedSize end b → a ≡ b
  one_size end a b first other = first.2 ∙ ap folded_size (one_fold end first.0 other.0 first.1 other.1) ∙ sym other.2

  same_calls : (modes : List Mode) (calls others : List Call) (start a b : End) → asked_of calls ≡ asked_of others → Leads modes start calls a
      → Leads modes start others b → calls ≡ others
  same_calls modes [] [] start a b asked leads goes = refl
  same_calls modes [] (Done event r ∷ others) start a b asked leads goes = absurd cc
  same_calls modes [] (Folded size ∷ others) start a b asked leads goes = absurd cc
  same_calls modes [] (Stop event halt ∷ others) start a b asked leads goes = absurd cc
  same_calls modes (Done event r ∷ calls) (Done same reply ∷ others) start a b asked (outcome, step, is, rest) (other, made, says, goes) =
      let events : event ≡ same = cc in
      let outcomes : outcome ≡ other = one modes start event outcome other step (subst (λ (e : Event). Step modes start e other) (sym events) made) in
      let replies : r ≡ reply = is ∙ ap (λ (o : Outcome). o.reply) outcomes ∙ sym says in
      let P : Outcome → Type 0 = λ o. Leads modes (applied o.effects start) others b in
      let later : calls ≡ others = same_calls modes calls others (applied outcome.effects start) a b (cc) rest (subst P (sym outcomes) goes) in
      cc
  same_calls modes (Folded size ∷ calls) (Folded left ∷ others) start a b asked (folded, shorter, rest) (compacted, less, goes) =
      let sizes : size ≡ left = one_size start size left folded compacted in
      let P : ℕ → Type 0 = λ n. Leads modes (resized n start) others b in
      let later : calls ≡ others = same_calls modes calls others (resized size start) a b (cc) rest (subst P (sym sizes) goes) in
      cc
  same_calls modes (Stop event halt ∷ calls) (Stop other at ∷ others) start a b asked (rose, all, here) (risen, each, there) =
      let events : event ≡ other = cc in
      let counts : halt ≡ at = cc in
      let later : calls ≡ others = refused_same halt calls others (cc) all (subst (λ (h : FaultCounts). AllByRecursion (IsRefusedAt h) others) (sym counts) each) in
      cc
  same_calls modes calls others start a b asked leads goes = absurd cc

  pub decides : (modes : List Mode) (calls others : List Call) (start a b : End) → asked_of calls ≡ asked_of others → Leads modes start calls a
      → Leads modes start others b → (calls ≡ others) × (a ≡ b)
  decides modes calls others start a b asked leads goes =
      let same : calls ≡ others = same_calls modes calls others start a b asked leads goes in
      (same, one_end one true modes others start a b (subst (λ (l : List Call). Leads modes start l a) same leads) goes)

  pub decides_unseen : (modes : List Mode) (calls others : List Call) (start a b : End) → asked_of calls ≡ asked_of others
      → LeadsWhere false modes start calls a → LeadsWhere false modes start others b
      → (known : List Call) × AgreesButForReads calls known × AgreesButForReads others known × (a ≡ b)
  decides_unseen modes calls others start a b asked leads goes =
      let first = happens modes calls start a leads in
      let next = happens modes others start b goes in
      let same = decides modes next.0 first.0 start b a
      (sym (agreeing_asked others next.0 next.1) ∙ sym asked ∙ agreeing_asked calls first.0 first.1) next.2 first.2 in
      (first.0, first.1, subst (AgreesButForReads others) same.0 next.1, sym same.1)
