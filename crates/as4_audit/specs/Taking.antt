-- How the audit takes one record: what its parts promise each other.
use Rattle.std.specs.Prelude.{◌≡◌, ◌≤◌, ◌⊎◌, ℕ, List, [], ◌∷◌, ◌++◌, Bool, true, false, Option, Some, None, IsSome, length, option_map, pos}
use Rattle.as4_audit.specs.Audit.{AllRead, AreRight, IsFirstWrong}
use Rattle.as4_audit.specs.Made.{Fits, IsMade, Makes}
use Rattle.as4_audit.specs.Start.{start_of}
use Rattle.as4_audit.specs.declared.walk.Taken.{Taken}
use Rattle.as4_audit.specs.declared.walk.Taken.TheVariants as taken
use Rattle.as4_audit.specs.declared.walk.Walked.{Walked}
use Rattle.as4_audit.specs.declared.walk.Walked.TheVariants as walked
use Rattle.as4_effects.specs.Effects.{effects_limit}
use Rattle.as4_effects.specs.declared.effect.Effect.{Effect}
use Rattle.as4_effects.specs.declared.effect.Effect.TheVariants as effect
use Rattle.as4_effects.specs.declared.submission.Submission.{Submission}
use Rattle.as4_values.specs.declared.signal_body.ErrorItem.{ErrorItem}
use Rattle.as4_values.specs.declared.signal_body.Severity.TheVariants.{Failure}
use Rattle.exchange_model.specs.Apply.{applied, first_unfit}
use Rattle.exchange_model.specs.End.{End}
use Rattle.exchange_model.specs.Questions.{sent_at}
use Rattle.exchange_model.specs.declared.event.Event.{Event}
use Rattle.exchange_model.specs.declared.sent.Sent.{Sent}
use Rattle.jiff_core.specs.Calendar.{days_from_civil}
use Rattle.mode_values.specs.declared.mode.Mode.{Mode}

-- if any event makes the effects, this one does
abbrev pub IsCandidate : List Mode → End → List Effect → Option Event → Type 0
IsCandidate modes end effects None = IsMade modes end effects → ⊥
IsCandidate modes end effects (Some event) = IsMade modes end effects → Makes modes end event effects

-- an event that makes the effects; none, where they aren't made
abbrev pub IsFound : List Mode → End → List Effect → Option Event → Type 0
IsFound modes end effects None = IsMade modes end effects → ⊥
IsFound modes end effects (Some event) = IsMade modes end effects × Makes modes end event effects

-- a body has 1 to 1,024 effects
abbrev pub IsCounted : Option (List Effect) → Type 0
IsCounted None = Unit {0}
IsCounted (Some effects) = (1 ≤ length effects) × (length effects ≤ effects_limit)

-- not right, of the start or after it
abbrev pub IsWrong : List Mode → Bool → End → List Effect → Type 0
IsWrong modes true end effects = Fits end effects → ⊥
IsWrong modes false end effects = IsMade modes end effects → ⊥

-- what becomes of effects, of the start or after it
abbrev pub AreTaken : List Mode → Bool → End → End → List Effect → Taken → Type 0
AreTaken modes folded end new effects taken.Folded = (folded ≡ true) × Fits end effects × (new ≡ applied effects end)
AreTaken modes folded end new effects (taken.Made event) =
    (folded ≡ false) × IsMade modes end effects × Makes modes end event effects × (new ≡ applied effects end)
AreTaken modes folded end new effects taken.Wrong = IsWrong modes folded end effects

-- which events are held, before and after a record was taken: its event was added, if it is made; and whether the record is
-- right
abbrev pub IsAdded : (List Event → Type 0) → (List Event → Type 0) → Taken → Bool → Type 0
IsAdded Old New taken.Folded right = (right ≡ true) × ((events : List Event) → Old events → New events)
IsAdded Old New (taken.Made event) right = (right ≡ true) × ((events : List Event) → Old events → New (events ++ event ∷ []))
IsAdded Old New taken.Wrong right = right ≡ false

-- and of a record
abbrev pub IsTaken : List Mode → Bool → End → End → Option (List Effect) → Taken → Type 0
IsTaken modes folded end new None result = result ≡ taken.Wrong
IsTaken modes folded end new (Some effects) result = AreTaken modes folded end new effects result

-- effects that fit were applied, and the result is this one; it is `Wrong` where they don't fit
abbrev pub IsReplayed : End → End → List Effect → Taken → Taken → Type 0
IsReplayed end new effects wanted result =
    ((first_unfit effects end ≡ None) × (new ≡ applied effects end) × (result ≡ wanted))
    ⊎ ((first_unfit effects end ≡ None → ⊥) × (result ≡ taken.Wrong))

-- what a walk says of records from an endpoint, where it holds these events
abbrev pub WalkSays : List Mode → End → List (Option (List Effect)) → (List Event → Type 0) → Walked → Type 0
WalkSays modes end records Holds (walked.Right start) =
    (start ≡ start_of records) × (events : List Event) × Holds events × AreRight modes (start_of records) end records events
WalkSays modes end records Holds (walked.Wrong index) = IsFirstWrong modes (start_of records) end records index

-- and of the bodies of records
pub record IsWalk (modes : List Mode) (end : End) (bodies : List (List ℕ)) (Holds : List Event → Type 0) (said : Walked) : Type 0 where
  pub records : List (Option (List Effect))
  pub read : AllRead bodies records
  pub says : WalkSays modes end records Holds said

-- the number of days from 1970-01-01 to a date
abbrev pub IsDayOf : ℕ → ℕ → ℕ → Option ℕ → Type 0
IsDayOf year month day None = ⊥
IsDayOf year month day (Some days) = (days_from_civil (pos year) month day ≡ pos days) × (days ≤ 2932896)

-- each is the refusal of a submission
abbrev pub AreNamed : List Sent → List Effect → Type 0
AreNamed sent [] = Unit {0}
AreNamed sent (effect.Refused number code ∷ effects) = IsSome (sent_at number sent) × AreNamed sent effects
AreNamed sent other = ⊥

-- a failure with this code, about the submission of this number
pub record IsItemFor (sent : List Sent) (number : ℕ) (code : List ℕ) (item : ErrorItem) : Type 0 where
  pub coded : item.code ≡ code
  pub severity : item.severity ≡ Failure
  pub submission : (s : Submission) × (Some s ≡ option_map (λ (t : Sent). t.submission) (sent_at number sent))
  pub about : item.about ≡ Some submission.0.header.id

-- a failure for each effect
abbrev pub ItemsFor : List Sent → List Effect → List ErrorItem → Type 0
ItemsFor sent [] [] = Unit {0}
ItemsFor sent (effect.Refused number code ∷ effects) (item ∷ items) = IsItemFor sent number code item × ItemsFor sent effects items
ItemsFor sent effects items = ⊥

-- failures for effects; none, where some effect isn't the refusal of a submission
abbrev pub AreItems : List Sent → List Effect → Option (List ErrorItem) → Type 0
AreItems sent effects None = AreNamed sent effects → ⊥
AreItems sent effects (Some items) = ItemsFor sent effects items

abbrev pub IsItem : List Sent → Effect → Option ErrorItem → Type 0
IsItem sent (effect.Refused number code) None = IsSome (sent_at number sent) → ⊥
IsItem sent (effect.Refused number code) (Some item) = IsItemFor sent number code item
IsItem sent other None = Unit {0}
IsItem sent other (Some item) = ⊥
