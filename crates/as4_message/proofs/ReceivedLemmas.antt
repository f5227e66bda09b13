-- The meaning of a body that is not a package, and of an envelope's bytes.
use Rattle.std.proofs.Common.{◌≡◌, ℕ, List, Option, Some, None, Result, Ok, Err, refl, sym, ap, ◌∙◌}
use Rattle.mime_package.specs.Answers.{Answers}
use Rattle.mime_package.specs.Reading.{package_of}
use Rattle.mime_package.specs.Lent.{package_value}
use Rattle.mime_package.specs.declared.read.MimeRefusal.{MimeRefusal}
use Rattle.mime_package.specs.declared.read.MimeRefusal.TheVariants as mime
use Rattle.as4_message.specs.Meaning.{AnswersBy, Refuses, Means, package_code, received_value}
use Rattle.as4_message.specs.declared.received.MessageRefusal.{MessageRefusal}
use Rattle.as4_message.specs.declared.received.MessageRefusal.TheVariants.{Refused, NoMemory}

means_none : (media body : List ℕ) (refusal : MimeRefusal) (answer : MessageRefusal) → package_of media body ≡ Err refusal → Refuses (package_code refusal) None answer → AnswersBy received_value (Err answer) (Means media body)
means_none media body refusal (Refused told) is refuses = rw is (ap Err refuses)
means_none media body refusal NoMemory is refuses = tt

pub no_package_means : (media body : List ℕ) (refusal : MimeRefusal) (answer : MessageRefusal) → Answers package_value (Err refusal) (package_of media body) → Refuses (package_code refusal) None answer → (refusal ≡ mime.NoMemory → answer ≡ NoMemory) → AnswersBy received_value (Err answer) (Means media body)
no_package_means media body mime.BadType answer is refuses memory = means_none media body mime.BadType answer is refuses
no_package_means media body mime.NoBoundary answer is refuses memory = means_none media body mime.NoBoundary answer is refuses
no_package_means media body (mime.BadPart index) answer is refuses memory = means_none media body (mime.BadPart index) answer is refuses
no_package_means media body mime.NoRoot answer is refuses memory = means_none media body mime.NoRoot answer is refuses
no_package_means media body (mime.Encoding index) answer is refuses memory = means_none media body (mime.Encoding index) answer is refuses
no_package_means media body mime.NoMemory answer is refuses memory = rw (memory refl) tt
