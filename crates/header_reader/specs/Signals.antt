-- How a signal message is spelled (ebMS 3.0 Core, sections 5.2.3 and 6.2), element by element.
use Rattle.std.specs.Prelude.{ℕ, List, [], ◌∷◌, ◌++◌, if◌then◌else◌, Option, Some, None, unwrap_or, bytes_eq, codes}
use Rattle.as4_envelope.specs.Tree.{ebms}
use Rattle.as4_envelope.specs.declared.tree.Element.{Element}
use Rattle.as4_values.specs.declared.signal.Signal.{Signal}
use Rattle.as4_values.specs.declared.signal_body.ErrorItem.{ErrorItem}
use Rattle.as4_values.specs.declared.signal_body.Severity.{Severity}
use Rattle.as4_values.specs.declared.signal_body.Severity.TheVariants.{Failure, Warning}
use Rattle.as4_values.specs.declared.signal_body.SignalBody.{SignalBody}
use Rattle.as4_values.specs.declared.signal_body.SignalBody.TheVariants as body
use Rattle.header_reader.specs.Elements.{optional_attribute, attribute, child, optional_child, children, holding}
use Rattle.byte_forms.specs.Cuts.{◌>>=◌}
use Rattle.header_reader.specs.Made.{signal_from}
use Rattle.header_reader.specs.User.{info_of, maybe_text, user_of}
use Rattle.header_reader.specs.Values.{text_of, id_of, code_of}
use Rattle.header_reader.specs.declared.names.AttributeName.TheVariants as attr
use Rattle.header_reader.specs.declared.names.ElementName.TheVariants as name
use Rattle.header_reader.specs.declared.parts.PullRequest.{PullRequest}
use Rattle.header_reader.specs.declared.parts.Receipt.{Receipt}

-- the default channel: section 3.4.1
unfoldable pub default_channel : List ℕ
default_channel = ebms ++ codes "defaultMPC"

-- `eb:PullRequest`: section 5.2.3.1; without a channel it means the default one
unfoldable pub pull_of : Element → Option PullRequest
pull_of e =
    holding [] e (do
      mpc ← optional_attribute text_of attr.Mpc e
      Some (record { mpc = unwrap_or mpc default_channel }))

-- `eb:Receipt`: section 5.2.3.3; the rest of its content is ignored
unfoldable pub receipt_of : Element → Option Receipt
receipt_of e = do
  copy ← optional_child user_of name.UserMessage e
  Some (record { copy = copy })

-- the severity of an error, by exactly these words: section 6.2.4
unfoldable pub severity_of : List ℕ → Option Severity
severity_of bytes =
    if bytes_eq bytes (codes "failure") then Some Failure
    else if bytes_eq bytes (codes "warning") then Some Warning
    else None

-- `eb:Error`: section 6.2; an empty description or detail is ignored
unfoldable pub error_of : Element → Option ErrorItem
error_of e =
    holding (name.Description ∷ name.ErrorDetail ∷ []) e (do
      code ← attribute code_of attr.ErrorCode e
      severity ← attribute severity_of attr.Severity e
      origin ← optional_attribute text_of attr.Origin e
      category ← optional_attribute text_of attr.Category e
      about ← optional_attribute id_of attr.RefToMessageInError e
      short ← optional_attribute text_of attr.ShortDescription e
      description ← optional_child maybe_text name.Description e
      detail ← optional_child maybe_text name.ErrorDetail e
      Some (record {
        code = code;
        severity = severity;
        origin = origin;
        category = category;
        about = about;
        short = short;
        description = unwrap_or description None;
        detail = unwrap_or detail None;
      }))

-- exactly one of a pull request, a receipt, and errors: section 5.2.3
abbrev pub body_from : Option PullRequest → Option Receipt → List ErrorItem → Option SignalBody
body_from (Some pull) None [] = Some (body.Pull pull.mpc)
body_from None (Some receipt) [] = Some (body.Receipt receipt.copy)
body_from None None (item ∷ items) = Some (body.Errors (item ∷ items))
body_from pull receipt items = None

unfoldable pub body_of : Element → Option SignalBody
body_of e = do
  pull ← optional_child pull_of name.PullRequest e
  receipt ← optional_child receipt_of name.Receipt e
  items ← children error_of name.Error e
  body_from pull receipt items

-- `eb:SignalMessage`: section 5.2.3
unfoldable pub signal_of : Element → Option Signal
signal_of e =
    holding (name.MessageInfo ∷ name.PullRequest ∷ name.Receipt ∷ name.Error ∷ []) e (do
      info ← child info_of name.MessageInfo e
      body ← body_of e
      signal_from info body)
