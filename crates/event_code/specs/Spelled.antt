-- Values whose parts satisfy the invariants of their types: texts, identifiers, codes and stamps are well-formed, and
-- numbers have at most 64 bits. Every value of the program is such a value.
use Rattle.std.specs.Prelude.{ℕ, ◌<◌, ◌^◌, List, Option, IfSome}
use Rattle.as4_values.specs.Texts.{IsText}
use Rattle.as4_values.specs.Stamp.{IsStamp}
use Rattle.as4_values.specs.Word.{IsWord}
use Rattle.as4_values.specs.declared.word.Word.TheVariants.{Identifier, ErrorCode}
use Rattle.as4_values.specs.declared.header.Party.{Party}
use Rattle.as4_values.specs.declared.header.Side.{Side}
use Rattle.as4_values.specs.declared.header.Agreement.{Agreement}
use Rattle.as4_values.specs.declared.header.Service.{Service}
use Rattle.as4_values.specs.declared.header.Property.{Property}
use Rattle.as4_values.specs.declared.header.PartInfo.{PartInfo}
use Rattle.as4_values.specs.declared.header.UserHeader.{UserHeader}
use Rattle.as4_values.specs.declared.payload.Payload.{Payload}
use Rattle.as4_values.specs.declared.route.Route.{Route}
use Rattle.as4_values.specs.declared.route.Route.TheVariants.{Push, Pull}
use Rattle.as4_effects.specs.declared.carried.Carried.{Carried as CarriedValue}
use Rattle.as4_effects.specs.declared.effect.Effect.{Effect}
use Rattle.as4_effects.specs.declared.effect.Effect.TheVariants.{Submitted, Ticked, Tried, Delivered, Receipted, Refused, Confirmed, Carried, Kept}
use Rattle.as4_effects.specs.declared.delivery.Delivery.{Delivery}
use Rattle.as4_effects.specs.declared.mark.Mark.{Mark}
use Rattle.as4_effects.specs.declared.mark.Mark.TheVariants.{Refused as RefusedBy}
use Rattle.as4_effects.specs.declared.submission.Submission.{Submission}
use Rattle.byte_forms.specs.Forms.{IsCounted, Each}

abbrev pub IsTextIfSome : Option (List ℕ) → Type 0
IsTextIfSome text = IfSome text IsText

unfoldable pub IsSpelledStamp : List ℕ → Type 0
IsSpelledStamp stamp = IsStamp stamp

unfoldable pub IsSpelledParty : Party → Type 0
IsSpelledParty p = IsText p.id × IsTextIfSome p.kind

unfoldable pub IsSpelledSide : Side → Type 0
IsSpelledSide s = Each IsSpelledParty s.parties × IsText s.role

unfoldable pub IsSpelledAgreement : Agreement → Type 0
IsSpelledAgreement a = IsText a.value × IsTextIfSome a.kind × IsTextIfSome a.pmode

unfoldable pub IsSpelledService : Service → Type 0
IsSpelledService s = IsText s.value × IsTextIfSome s.kind

unfoldable pub IsSpelledProperty : Property → Type 0
IsSpelledProperty p = IsText p.name × IsTextIfSome p.kind × IsTextIfSome p.value

unfoldable pub IsSpelledPart : PartInfo → Type 0
IsSpelledPart p = IsTextIfSome p.href × Each IsSpelledProperty p.properties

-- the texts, the stamp and the identifiers of a header
pub record IsSpelledHeader (h : UserHeader) : Type 0 where
  pub mpc : IsTextIfSome h.mpc
  pub stamp : IsSpelledStamp h.stamp
  pub id : IsWord Identifier h.id
  pub ref_to : IfSome h.ref_to (IsWord Identifier)
  pub from : IsSpelledSide h.from
  pub to : IsSpelledSide h.to
  pub agreement : IfSome h.agreement IsSpelledAgreement
  pub service : IsSpelledService h.service
  pub action : IsText h.action
  pub conversation : IsTextIfSome h.conversation
  pub properties : Each IsSpelledProperty h.properties
  pub parts : Each IsSpelledPart h.parts

-- the counted part of a payload; the facts that it keeps cover its other parts
unfoldable pub IsSpelledPayload : Payload → Type 0
IsSpelledPayload p = IsCounted p.content

unfoldable pub IsSpelledRoute : Route → Type 0
IsSpelledRoute (Push address) = IsText address
IsSpelledRoute (Pull mpc address) = IsText mpc × IsText address

unfoldable pub IsSpelledSubmission : Submission → Type 0
IsSpelledSubmission s = IsSpelledHeader s.header × IsSpelledRoute s.route

unfoldable pub IsSpelledDelivery : Delivery → Type 0
IsSpelledDelivery d = IsSpelledHeader d.header

unfoldable pub IsSpelledMark : Mark → Type 0
IsSpelledMark (RefusedBy code) = IsWord ErrorCode code
IsSpelledMark mark = Unit {0}

unfoldable pub IsSpelledCarried : CarriedValue → Type 0
IsSpelledCarried c = IsSpelledSubmission c.submission × (c.tries < 2 ^ 32) × IsSpelledMark c.standing

unfoldable pub IsSpelledEffect : Effect → Type 0
IsSpelledEffect (Submitted submission) = IsSpelledSubmission submission
IsSpelledEffect (Ticked tick) = Unit {0}
IsSpelledEffect (Tried number) = number < 2 ^ 64
IsSpelledEffect (Delivered delivery) = IsSpelledDelivery delivery
IsSpelledEffect (Receipted number) = number < 2 ^ 64
IsSpelledEffect (Refused number code) = (number < 2 ^ 64) × IsWord ErrorCode code
IsSpelledEffect (Confirmed upto) = upto < 2 ^ 64
IsSpelledEffect (Carried carried) = IsSpelledCarried carried
IsSpelledEffect (Kept kept) = IsSpelledHeader kept.header

-- each effect is such a value
abbrev pub AreSpelled : List Effect → Type 0
AreSpelled effects = Each IsSpelledEffect effects
