-- An endpoint has at most one compaction.
use Rattle.std.proofs.Common.{◌≡◌, ℕ, zero, suc, List, [], ◌∷◌, ◌++◌, refl, sym, ap, ◌∙◌, take, drop}
use Rattle.as4_effects.specs.declared.carried.Carried.{Carried}
use Rattle.as4_effects.specs.declared.delivery.Delivery.{Delivery}
use Rattle.as4_effects.specs.declared.effect.Effect.{Effect}
use Rattle.as4_effects.specs.declared.effect.Effect.TheVariants as effect
use Rattle.as4_effects.specs.declared.kept.Kept.{Kept}
use Rattle.as4_effects.proofs.PartLemmas.{carried_same, delivery_told, kept_told, tick_told}
use Rattle.exchange_model.specs.Apply.{as_carried}
use Rattle.exchange_model.specs.End.{End}
use Rattle.exchange_model.specs.Fold.{ItemByItem, CarriesOver, KeepsHeader, DeliversAgain, SetsClock, IsFolded}
use Rattle.exchange_model.specs.declared.inbox_entry.InboxEntry.{InboxEntry}
use Rattle.exchange_model.specs.declared.sent.Sent.{Sent}

-- an effect that carries over, keeps or delivers is of that kind
pub carries : (s : Sent) (e : Effect) → CarriesOver s e → (c : Carried) × (e ≡ effect.Carried c) × (as_carried c ≡ s)
carries s (effect.Carried c) h = (c, refl, h)
carries s other h = absurd h

pub keeps : (entry : InboxEntry) (e : Effect) → KeepsHeader entry e → (k : Kept) × (e ≡ effect.Kept k) × (k.header ≡ entry.header)
keeps entry (effect.Kept k) h = (k, refl, h)
keeps entry other h = absurd h

pub delivers : (entry : InboxEntry) (e : Effect) → DeliversAgain entry e
    → (d : Delivery) × (e ≡ effect.Delivered d) × (d.header ≡ entry.header) × (d.payloads ≡ entry.payloads)
delivers entry (effect.Delivered d) h = (d, refl, h.0, h.1)
delivers entry other h = absurd h

-- and there is at most one
one_carried : (s : Sent) (a b : Effect) → CarriesOver s a → CarriesOver s b → a ≡ b
one_carried s a b h k =
    let x = carries s a h in
    let y = carries s b k in
    let same : as_carried x.0 ≡ as_carried y.0 = x.2 ∙ sym y.2 in
    let is : x.0 ≡ y.0 =
    carried_same x.0 y.0 (ap (λ (t : Sent). t.submission) same) (ap (λ (t : Sent). t.tries) same) (ap (λ (t : Sent). t.last) same) (ap (λ (t : Sent). t.mark) same) in
    x.1 ∙ ap effect.Carried is ∙ sym y.1

one_kept : (entry : InboxEntry) (a b : Effect) → KeepsHeader entry a → KeepsHeader entry b → a ≡ b
one_kept entry a b h k =
    let x = keeps entry a h in
    let y = keeps entry b k in
    x.1 ∙ ap effect.Kept (kept_told x.0 y.0 (x.2 ∙ sym y.2)) ∙ sym y.1

one_delivered : (entry : InboxEntry) (a b : Effect) → DeliversAgain entry a → DeliversAgain entry b → a ≡ b
one_delivered entry a b h k =
    let x = delivers entry a h in
    let y = delivers entry b k in
    let header : x.0.header ≡ y.0.header = x.2 ∙ sym y.2 in
    let payloads : x.0.payloads ≡ y.0.payloads = x.3 ∙ sym y.3 in
    x.1 ∙ ap effect.Delivered (delivery_told x.0 y.0 cc) ∙ sym y.1

one_clock : (moment : ℕ) (a b : List Effect) → SetsClock moment a → SetsClock moment b → a ≡ b
one_clock zero a b h k = h ∙ sym k
one_clock (suc moment) a b h k =
    h.2 ∙ ap (λ t. effect.Ticked t ∷ []) (tick_told h.0 k.0 (h.1 ∙ sym k.1)) ∙ sym k.2

-- where each item has at most one, the list has at most one
one_each : {X Y : Type 0} (is : X → Y → Type 0) → ((x : X) (a b : Y) → is x a → is x b → a ≡ b) → (xs : List X) (ys zs : List Y)
    → ItemByItem is xs ys → ItemByItem is xs zs → ys ≡ zs
one_each is one [] [] [] h k = refl
one_each is one [] [] (z ∷ zs) h k = absurd k
one_each is one [] (y ∷ ys) zs h k = absurd h
one_each is one (x ∷ xs) [] zs h k = absurd h
one_each is one (x ∷ xs) (y ∷ ys) [] h k = absurd k
one_each is one (x ∷ xs) (y ∷ ys) (z ∷ zs) h k =
    let first : y ≡ z = one x y z h.0 k.0 in
    let rest : ys ≡ zs = one_each is one xs ys zs h.1 k.1 in
    cc

pub one_fold : (end : End) (a b : List Effect) → IsFolded end a → IsFolded end b → a ≡ b
one_fold end a b h k =
    let carried : h.carried ≡ k.carried = one_each CarriesOver one_carried end.sent h.carried k.carried h.submissions k.submissions in
    let kept : h.kept ≡ k.kept = one_each KeepsHeader one_kept (take end.confirmed end.inbox) h.kept k.kept h.taken_over k.taken_over in
    let delivered : h.delivered ≡ k.delivered =
    one_each DeliversAgain one_delivered (drop end.confirmed end.inbox) h.delivered k.delivered h.waiting k.waiting in
    let clock : h.clock ≡ k.clock = one_clock end.moment h.clock k.clock h.set k.set in
    h.is ∙ (λ i. carried i ++ kept i ++ delivered i ++ clock i) ∙ sym k.is
