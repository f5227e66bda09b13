-- What a reader returned, compared with its definition.
use Rattle.std.specs.Prelude.{◌≡◌, Result, Ok, Err}
use Rattle.mime_package.specs.declared.read.MimeRefusal.{MimeRefusal}
use Rattle.mime_package.specs.declared.read.MimeRefusal.TheVariants.{BadType, NoBoundary, BadPart, NoRoot, Encoding, NoMemory}

-- the result is the definition's, unless memory ran out
abbrev pub Answers : {X Y : Type 0} → (X → Y) → Result X MimeRefusal → Result Y MimeRefusal → Type 0
Answers view (Ok x) means = means ≡ Ok (view x)
Answers view (Err BadType) means = means ≡ Err BadType
Answers view (Err NoBoundary) means = means ≡ Err NoBoundary
Answers view (Err (BadPart index)) means = means ≡ Err (BadPart index)
Answers view (Err NoRoot) means = means ≡ Err NoRoot
Answers view (Err (Encoding index)) means = means ≡ Err (Encoding index)
Answers view (Err NoMemory) means = Unit {0}
