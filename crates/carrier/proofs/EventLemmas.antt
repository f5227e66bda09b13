-- An event is told by its parts.
use Rattle.std.proofs.Common.{◌≡◌, ℕ, ◌≤◌, IsTrue, ap, subst, sym}
use Rattle.std.proofs.Props.{props}
use Rattle.exchange_model.specs.Coming.{may_come}
use Rattle.exchange_model.specs.declared.event.Event.{Event}
use Rattle.exchange_model.specs.declared.what.What.{What}

record IsEvent (stamp : ℕ) (w : What) : Type 0 where
  dated : stamp ≤ 253402300799999
  deliverable : IsTrue (may_come w)

event_of : (t : ℕ × ℕ × What) → IsEvent t.0 t.2 → Event
event_of t is = record { stamp = t.0; nonce = t.1; what = t.2; dated = is.dated; deliverable = is.deliverable }

one_event : (stamp : ℕ) (w : What) → IsProp (IsEvent stamp w)
one_event stamp w = hlevel props

pub event_told : (a b : Event) → a.stamp ≡ b.stamp → a.nonce ≡ b.nonce → a.what ≡ b.what → a ≡ b
unfolding event_of
event_told a b stamps nonces whats =
    let parts : (a.stamp, a.nonce, a.what) ≡ (b.stamp, b.nonce, b.what) = λ i. (stamps i, nonces i, whats i) in
    subst (λ (t : ℕ × ℕ × What). (w : IsEvent t.0 t.2) → event_of t w ≡ b) (sym parts)
    (λ w. ap (event_of (b.stamp, b.nonce, b.what)) (one_event b.stamp b.what w (record { dated = b.dated; deliverable = b.deliverable })))
    (record { dated = a.dated; deliverable = a.deliverable })
