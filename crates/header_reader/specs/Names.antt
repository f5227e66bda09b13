-- The local names of elements and attributes (ebMS 3.0 Core, sections 5.2 and 6.2).
use Rattle.std.specs.Prelude.{ℕ, List, codes}
use Rattle.header_reader.specs.declared.names.ElementName.{ElementName}
use Rattle.header_reader.specs.declared.names.ElementName.TheVariants as element
use Rattle.header_reader.specs.declared.names.AttributeName.{AttributeName}
use Rattle.header_reader.specs.declared.names.AttributeName.TheVariants as attribute

unfoldable pub element_name : ElementName → List ℕ
element_name element.UserMessage = codes "UserMessage"
element_name element.SignalMessage = codes "SignalMessage"
element_name element.Messaging = codes "Messaging"
element_name element.MessageInfo = codes "MessageInfo"
element_name element.Timestamp = codes "Timestamp"
element_name element.MessageId = codes "MessageId"
element_name element.RefToMessageId = codes "RefToMessageId"
element_name element.PartyInfo = codes "PartyInfo"
element_name element.From = codes "From"
element_name element.To = codes "To"
element_name element.PartyId = codes "PartyId"
element_name element.Role = codes "Role"
element_name element.CollaborationInfo = codes "CollaborationInfo"
element_name element.AgreementRef = codes "AgreementRef"
element_name element.Service = codes "Service"
element_name element.Action = codes "Action"
element_name element.ConversationId = codes "ConversationId"
element_name element.MessageProperties = codes "MessageProperties"
element_name element.Property = codes "Property"
element_name element.PayloadInfo = codes "PayloadInfo"
element_name element.PartInfo = codes "PartInfo"
element_name element.PartProperties = codes "PartProperties"
element_name element.PullRequest = codes "PullRequest"
element_name element.Receipt = codes "Receipt"
element_name element.Error = codes "Error"
element_name element.Description = codes "Description"
element_name element.ErrorDetail = codes "ErrorDetail"

unfoldable pub attribute_name : AttributeName → List ℕ
attribute_name attribute.Mpc = codes "mpc"
attribute_name attribute.Type = codes "type"
attribute_name attribute.Pmode = codes "pmode"
attribute_name attribute.Name = codes "name"
attribute_name attribute.Href = codes "href"
attribute_name attribute.ErrorCode = codes "errorCode"
attribute_name attribute.Severity = codes "severity"
attribute_name attribute.Origin = codes "origin"
attribute_name attribute.Category = codes "category"
attribute_name attribute.RefToMessageInError = codes "refToMessageInError"
attribute_name attribute.ShortDescription = codes "shortDescription"
