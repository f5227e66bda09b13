-- Values whose text or tree is read back as themselves.
use Rattle.std.specs.Prelude.{◌≡◌, ℕ, List, ◌++◌, Some, IfSome, codes}
use Rattle.std.specs.List.{AllByRecursion}
use Rattle.as4_values.specs.declared.header.Agreement.{Agreement}
use Rattle.as4_values.specs.declared.message.Unit.{Unit as MessageUnit}
use Rattle.as4_values.specs.declared.message.Unit.TheVariants as unit
use Rattle.as4_values.specs.declared.signal_body.SignalBody.{SignalBody}
use Rattle.as4_values.specs.declared.signal_body.SignalBody.TheVariants.{Pull, Receipt, Errors}
use Rattle.message_model.specs.UnitTree.{leaf as leaf_tree, optional_attributes, user_tree, error_tree, signal_tree}
use Rattle.header_reader.specs.Signals.{error_of, signal_of}
use Rattle.header_reader.specs.User.{agreement_of, user_of}
use Rattle.header_reader.specs.Values.{text_of, id_of}

abbrev pub TextAgain : List ℕ → Type 0
TextAgain text = text_of text ≡ Some text

abbrev pub IdAgain : List ℕ → Type 0
IdAgain id = id_of id ≡ Some id

abbrev pub AgreementAgain : Agreement → Type 0
AgreementAgain a =
    agreement_of (leaf_tree (codes "AgreementRef") (optional_attributes (codes "type") a.kind ++ optional_attributes (codes "pmode") a.pmode) a.value) ≡ Some (Some a)

abbrev pub BodyAgain : SignalBody → Type 0
BodyAgain (Pull mpc) = TextAgain mpc
BodyAgain (Receipt copy) = IfSome copy (λ h. user_of (user_tree h) ≡ Some h)
BodyAgain (Errors items) = AllByRecursion (λ item. error_of (error_tree item) ≡ Some item) items

abbrev pub UnitAgain : MessageUnit → Type 0
UnitAgain (unit.User header) = user_of (user_tree header) ≡ Some header
UnitAgain (unit.Signal signal) = signal_of (signal_tree signal) ≡ Some signal
UnitAgain (unit.Pair pair) = (signal_of (signal_tree pair.receipt) ≡ Some pair.receipt) × (signal_of (signal_tree pair.pull) ≡ Some pair.pull)
