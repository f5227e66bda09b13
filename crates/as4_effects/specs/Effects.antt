-- The bytes of effects and of lists of effects, in this handler's own format. The byte of its kind precedes each
-- effect.
use Rattle.std.specs.Prelude.{ℕ, ◌+◌, List, ◌∷◌, ◌++◌, length}
use Rattle.std.specs.List.{flat_map}
use Rattle.as4_effects.specs.Bodies.{number_body, text_body}
use Rattle.as4_effects.specs.Marks.{mark_body}
use Rattle.as4_effects.specs.Sound.{effect_limit, sent_body, submitted_body, delivered_body, kept_body}
use Rattle.as4_effects.specs.declared.carried.Carried.{Carried as CarriedValue}
use Rattle.as4_effects.specs.declared.delivery.Delivery.{Delivery}
use Rattle.as4_effects.specs.declared.effect.Effect.{Effect}
use Rattle.as4_effects.specs.declared.effect.Effect.TheVariants.{Submitted, Ticked, Tried, Delivered, Receipted, Refused, Confirmed, Carried, Kept}
use Rattle.as4_effects.specs.declared.submission.Submission.{Submission}

abbrev pub fields_body : Submission → List ℕ
fields_body s = sent_body s.number s.header s.payloads s.route s.retries s.period s.moment

abbrev pub submission_body : Submission → List ℕ
submission_body s = submitted_body s.number s.header s.payloads s.route s.retries s.period s.moment

abbrev pub delivery_body : Delivery → List ℕ
delivery_body d = delivered_body d.header d.payloads

-- the fields of the submission, the number of tries, the time of the last one, and its state
abbrev pub standing_body : CarriedValue → List ℕ
standing_body c = fields_body c.submission ++ number_body 4 c.tries ++ number_body 8 c.last ++ mark_body c.standing

unfoldable pub effect_body : Effect → List ℕ
effect_body (Submitted submission) = submission_body submission
effect_body (Ticked tick) = 2 ∷ number_body 8 tick.moment
effect_body (Tried number) = 3 ∷ number_body 8 number
effect_body (Delivered delivery) = delivery_body delivery
effect_body (Receipted number) = 5 ∷ number_body 8 number
effect_body (Refused number code) = 6 ∷ number_body 8 number ++ text_body code
effect_body (Confirmed upto) = 7 ∷ number_body 8 upto
effect_body (Carried carried) = 8 ∷ standing_body carried
effect_body (Kept kept) = kept_body kept.header

-- the most bytes of an effect: a carried one has at most 81 more than its submission, one of a number and a code 77,
-- one of a number 9
abbrev pub carried_limit : ℕ
carried_limit = effect_limit + 81

abbrev pub most_bytes_of : Effect → ℕ
most_bytes_of (Submitted submission) = effect_limit
most_bytes_of (Ticked tick) = 9
most_bytes_of (Tried number) = 9
most_bytes_of (Delivered delivery) = effect_limit
most_bytes_of (Receipted number) = 9
most_bytes_of (Refused number code) = 77
most_bytes_of (Confirmed upto) = 9
most_bytes_of (Carried carried) = carried_limit
most_bytes_of (Kept kept) = effect_limit

-- the most effects of a list
abbrev pub effects_limit : ℕ
effects_limit = 1024

-- the body of a record
unfoldable pub effects_body : List Effect → List ℕ
effects_body effects = number_body 2 (length effects) ++ flat_map effect_body effects
