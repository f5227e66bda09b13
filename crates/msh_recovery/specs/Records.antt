-- Records of a journal, as an end has them: each is the body of some effects, and these lead from one end to the next.
use Rattle.std.specs.Prelude.{◌≡◌, ℕ, ◌≤◌, List, [], ◌∷◌, None, length}
use Rattle.as4_effects.specs.Effects.{effects_body, effects_limit}
use Rattle.as4_effects.specs.declared.effect.Effect.{Effect}
use Rattle.event_code.specs.Spelled.{AreSpelled}
use Rattle.exchange_model.specs.Apply.{applied, first_unfit}
use Rattle.exchange_model.specs.End.{End}

-- these bytes are the body of these effects
pub record IsBodyOf (effects : List Effect) (body : List ℕ) : Type 0 where
  pub some : 1 ≤ length effects
  pub counted : length effects ≤ effects_limit
  pub spelled : AreSpelled effects
  pub bytes : body ≡ effects_body effects

-- the record's effects fit one end, one after another, and lead to the other
abbrev pub RecordLeads : List ℕ → End → End → Type 0
RecordLeads body start end = (effects : List Effect) × IsBodyOf effects body × (first_unfit effects start ≡ None) × (end ≡ applied effects start)

-- so do these records, one after another
abbrev pub RecordsLead : List (List ℕ) → End → End → Type 0
RecordsLead [] start end = start ≡ end
RecordsLead (body ∷ bodies) start end = (next : End) × RecordLeads body start next × RecordsLead bodies next end

-- the body of a record with this effect alone
abbrev pub alone : Effect → List ℕ
alone effect = effects_body (effect ∷ [])
