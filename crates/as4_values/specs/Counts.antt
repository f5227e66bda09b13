-- How many parties, properties and part infos a header may have: this handler's own limits.
use Rattle.std.specs.Prelude.{◌<◌, ◌≤◌, List, length}

-- the parties of a side
abbrev pub IsPartyCount : {X : Type 0} → List X → Type 0
IsPartyCount parties = (0 < length parties) × (length parties ≤ 16)

-- the properties of a message or of a part
abbrev pub IsPropertyCount : {X : Type 0} → List X → Type 0
IsPropertyCount properties = length properties ≤ 256

-- the part infos of a message
abbrev pub IsPartCount : {X : Type 0} → List X → Type 0
IsPartCount parts = length parts ≤ 255
