-- A text that is reported in parts.
use Rattle.std.proofs.Common.{◌≡◌, ℕ, ◌≤◌, inl, inr, List, ◌++◌, Option, Result, Ok, Err, OnOk, OnErr, ◌∙◌, ap}
use Rattle.as4_flow.specs.Flow.{Rose, appended, TakesFront}
use Rattle.as4_flow.proofs.FlowLemmas.{Rose_from}
use Rattle.as4_flow.proofs.FlowLemmas.{appended_append, takes_longer, takes_more}
use Rattle.as4_tool.specs.Status.{Tells}

-- a prefix of the first part followed by a fault is a prefix of the whole
pub tells_front : (text more : List ℕ) (taken later : Option (List ℕ)) (faults later_faults : ℕ)
    → TakesFront text taken later → Rose faults later_faults → Tells (text ++ more) taken later faults later_faults
tells_front text more taken later faults later_faults front rose = inr (takes_longer text more taken later front, rose)

-- one part was sent, and then the rest
pub tells_next : (text more : List ℕ) (taken mid later : Option (List ℕ)) (faults mid_faults later_faults : ℕ)
    → mid ≡ appended taken text → faults ≤ mid_faults → Tells more mid later mid_faults later_faults
    → Tells (text ++ more) taken later faults later_faults
tells_next text more taken mid later faults mid_faults later_faults told counted (inl all) =
    inl (all ∙ ap (λ (t : Option (List ℕ)). appended t more) told ∙ appended_append taken text more)
tells_next text more taken mid later faults mid_faults later_faults told counted (inr front) =
    inr (takes_more text more taken mid later told front.0, Rose_from faults mid_faults later_faults counted front.1)

-- the text was sent, or a prefix of it before the errors failed
pub tells_sent : {A F : Type 0} (r : Result A F) (text : List ℕ) (taken later : Option (List ℕ)) (faults later_faults : ℕ)
    → OnOk r (later ≡ appended taken text) → OnErr r (Rose faults later_faults) → TakesFront text taken later
    → Tells text taken later faults later_faults
tells_sent (Ok a) text taken later faults later_faults ok err front = inl ok
tells_sent (Err e) text taken later faults later_faults ok err front = inr (front, err)
