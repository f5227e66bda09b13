-- Records lead from one end to another, and to no other.
use Rattle.std.proofs.Common.{◌≡◌, ℕ, ◌≤◌, List, [], ◌∷◌, ◌++◌, length, refl, sym, ap, subst, ◌∙◌}
use Rattle.as4_effects.specs.Effects.{effects_body, effects_limit}
use Rattle.as4_effects.specs.declared.effect.Effect.{Effect}
use Rattle.event_code.specs.Spelled.{AreSpelled}
use Rattle.exchange_model.specs.Apply.{applied}
use Rattle.exchange_model.specs.End.{End}
use Rattle.msh_recovery.specs.Records.{RecordLeads, RecordsLead}

-- one record more
pub lead_more : (bodies : List (List ℕ)) (body : List ℕ) (start end next : End) → RecordsLead bodies start end → RecordLeads body end next
    → RecordsLead (bodies ++ body ∷ []) start next
lead_more [] body start end next here more = (next, subst (λ (e : End). RecordLeads body e next) (sym here) more, refl)
lead_more (first ∷ bodies) body start end next leads more = (leads.0, leads.1, lead_more bodies body leads.0 end next leads.2 more)

-- the first records lead to an end, and the others on from there
pub lead_parts : (bodies more : List (List ℕ)) (start end : End) → RecordsLead (bodies ++ more) start end
    → (middle : End) × RecordsLead bodies start middle × RecordsLead more middle end
lead_parts [] more start end leads = (start, refl, leads)
lead_parts (body ∷ bodies) more start end leads =
    let rest = lead_parts bodies more leads.0 end leads.2 in (rest.0, (leads.0, leads.1, rest.1), rest.2)

-- no bytes are the body of two lists of effects
abbrev pub HasOneBody : Type 0
HasOneBody = (e f : List Effect) → length e ≤ effects_limit → length f ≤ effects_limit → AreSpelled e → AreSpelled f
    → effects_body e ≡ effects_body f → e ≡ f

-- a record leads to no two ends
abbrev pub LeadsOnce : Type 0
LeadsOnce = (body : List ℕ) (start a b : End) → RecordLeads body start a → RecordLeads body start b → a ≡ b

module _ (one : HasOneBody) where
  pub one_record : LeadsOnce
  one_record body start a b (e, is, fits, leads) (f, is_too, fits_too, leads_too) =
      let same : e ≡ f = one e f is.counted is_too.counted is.spelled is_too.spelled (sym is.bytes ∙ is_too.bytes) in
      leads ∙ ap (λ (effects : List Effect). applied effects start) same ∙ sym leads_too

  pub one_end : (bodies : List (List ℕ)) (start a b : End) → RecordsLead bodies start a → RecordsLead bodies start b → a ≡ b
  one_end [] start a b first other = sym first ∙ other
  one_end (body ∷ bodies) start a b first other =
      let same : other.0 ≡ first.0 = one_record body start other.0 first.0 other.1 first.1 in
      one_end bodies first.0 a b first.2 (subst (λ (e : End). RecordsLead bodies e b) same other.2)
