-- Why no message was read.
use Rattle.std.specs.Prelude.{◌≡◌, ℕ, List, ◌++◌, Option, Result, Ok, Err}
use Rattle.as4_flow.specs.Flow.{Told, before}
use Rattle.as4_http.specs.Limits.{Limits, the_limits}
use Rattle.as4_http.specs.declared.refusal.HttpRefusal.{HttpRefusal}
use Rattle.as4_http.specs.declared.refusal.HttpRefusal.TheVariants.{Cut, Bad, TooLong, ReadFault, NoMemory}

-- the source has ended or failed, or memory ran out
abbrev pub IsStop : HttpRefusal → Type 0
IsStop Cut = Unit {0}
IsStop Bad = ⊥
IsStop TooLong = ⊥
IsStop ReadFault = Unit {0}
IsStop NoMemory = Unit {0}

-- the bytes were refused: there was no fault and no allocation failure
abbrev pub IsDenial : HttpRefusal → Type 0
IsDenial Cut = Unit {0}
IsDenial Bad = Unit {0}
IsDenial TooLong = Unit {0}
IsDenial ReadFault = ⊥
IsDenial NoMemory = ⊥

-- P holds where the bytes were refused: there was no fault and no allocation failure
abbrev pub OnRefusal : HttpRefusal → Type 0 → Type 0
OnRefusal Cut P = P
OnRefusal Bad P = P
OnRefusal TooLong P = P
OnRefusal ReadFault P = Unit {0}
OnRefusal NoMemory P = Unit {0}

-- the same of a result
abbrev pub OnRefused : {X : Type 0} → Result X HttpRefusal → Type 0 → Type 0
OnRefused (Ok x) P = Unit {0}
OnRefused (Err refusal) P = OnRefusal refusal P

-- bytes were read off a stream, and P holds however they go on
pub record Dooms (P : List ℕ → Type 0) (told left : Option (List ℕ)) : Type 0 where
  pub read : List ℕ
  pub taken : told ≡ before read left
  pub doomed : (more : List ℕ) → P (read ++ more)

-- more bytes make it whole
abbrev pub MayBecome : (List ℕ → Type 0) → List ℕ → Type 0
MayBecome IsWhole bytes = (more : List ℕ) × IsWhole (bytes ++ more)

-- HasNo says of a stream that it begins with nothing of a kind within these limits, and IsCut that it ends inside one.
-- Where the stream was cut, both hold of it. Where it is bad, none begins as the bytes that were read, whatever the
-- limits; where it is too long, none within the limits does
abbrev pub Refuses : (Limits → List ℕ → Type 0) → (List ℕ → Type 0) → Option (List ℕ) → Option (List ℕ) → HttpRefusal → Type 0
Refuses HasNo IsCut told left Cut = Told told (λ stream. HasNo the_limits stream × IsCut stream)
Refuses HasNo IsCut told left Bad = Dooms (λ bytes. (limits : Limits) → HasNo limits bytes) told left
Refuses HasNo IsCut told left TooLong = Dooms (HasNo the_limits) told left
Refuses HasNo IsCut told left ReadFault = Unit {0}
Refuses HasNo IsCut told left NoMemory = Unit {0}

-- the same of bytes that are held, however they go on
abbrev pub Denies : (Limits → List ℕ → Type 0) → List ℕ → HttpRefusal → Type 0
Denies HasNo bytes Cut = Unit {0}
Denies HasNo bytes Bad = (more : List ℕ) (limits : Limits) → HasNo limits (bytes ++ more)
Denies HasNo bytes TooLong = (more : List ℕ) → HasNo the_limits (bytes ++ more)
Denies HasNo bytes ReadFault = Unit {0}
Denies HasNo bytes NoMemory = Unit {0}
