-- Two histories of one office that may differ in the replies to a `Read`, and in nothing else.
use Rattle.std.specs.Prelude.{◌≡◌, ◌⊎◌, Bool, true, false, List, [], ◌∷◌}
use Rattle.exchange_model.specs.declared.reply.Reply.{Reply}
use Rattle.exchange_model.specs.declared.reply.Reply.TheVariants as reply
use Rattle.exchange_model.specs.declared.what.What.{What}
use Rattle.exchange_model.specs.declared.what.What.TheVariants as what
use Rattle.msh_transitions.specs.Given.{bare_reply}
use Rattle.office.specs.declared.call.Call.{Call}
use Rattle.office.specs.declared.call.Call.TheVariants.{Done, Folded, Stop}

-- A reply agrees with the known reply to the same event. They are equal; but the reply to a `Read` may have other payloads,
-- or say that the message is gone.
abbrev pub AgreesOn : What → Reply → Reply → Type 0
AgreesOn (what.Read n) r known = (bare_reply r ≡ bare_reply known) ⊎ (r ≡ reply.Gone)
AgreesOn other r known = r ≡ known

-- where the disk is observable the replies are equal, also to a `Read`
abbrev pub AgreesWhere : Bool → What → Reply → Reply → Type 0
AgreesWhere true asked r known = r ≡ known
AgreesWhere false asked r known = AgreesOn asked r known

-- Call by call: the same events with replies that agree, and the same compactions. From a fault on the calls are equal.
abbrev pub AgreesButForReads : List Call → List Call → Type 0
AgreesButForReads [] [] = Unit {0}
AgreesButForReads (Done event r ∷ calls) (Done same known ∷ others) =
    (event ≡ same) × AgreesOn event.what r known × AgreesButForReads calls others
AgreesButForReads (Folded size ∷ calls) (Folded same ∷ others) = (size ≡ same) × AgreesButForReads calls others
AgreesButForReads (Stop event halt ∷ calls) others = Stop event halt ∷ calls ≡ others
AgreesButForReads calls others = ⊥

-- the event isn't a `Read`
abbrev pub IsNoRead : What → Type 0
IsNoRead (what.Read n) = ⊥
IsNoRead other = Unit {0}

-- none of the calls reads a message
abbrev pub HasNoRead : List Call → Type 0
HasNoRead [] = Unit {0}
HasNoRead (Done event r ∷ calls) = IsNoRead event.what × HasNoRead calls
HasNoRead (Folded size ∷ calls) = HasNoRead calls
HasNoRead (Stop event halt ∷ calls) = HasNoRead calls
