-- What a reader returned, compared with its definition.
use Rattle.std.specs.Prelude.{◌≡◌, Option, Some, None, Result, Ok, Err}
use Rattle.header_reader.specs.declared.refusal.HeaderRefusal.{HeaderRefusal}
use Rattle.header_reader.specs.declared.refusal.HeaderRefusal.TheVariants.{Invalid, Unsupported, NoMemory}

-- Invalid means that the definition gives no value; Unsupported is excluded; nothing is said where memory ran out
abbrev pub Refuses : {X : Type 0} → HeaderRefusal → Option X → Type 0
Refuses Invalid given = given ≡ None
Refuses Unsupported given = ⊥
Refuses NoMemory given = Unit {0}

-- the result is the given value, or Invalid if none is given, unless memory ran out
abbrev pub Gives : {X : Type 0} → Result X HeaderRefusal → Option X → Type 0
Gives (Ok x) given = given ≡ Some x
Gives (Err refusal) given = Refuses refusal given

-- the result is this one, refusal included, unless memory ran out
abbrev pub Answers : {X : Type 0} → Result X HeaderRefusal → Result X HeaderRefusal → Type 0
Answers (Ok x) means = means ≡ Ok x
Answers (Err Invalid) means = means ≡ Err Invalid
Answers (Err Unsupported) means = means ≡ Err Unsupported
Answers (Err NoMemory) means = Unit {0}

-- the result is that value, unless memory ran out
abbrev pub IsReadAs : {X : Type 0} → Result X HeaderRefusal → X → Type 0
IsReadAs (Ok x) value = x ≡ value
IsReadAs (Err Invalid) value = ⊥
IsReadAs (Err Unsupported) value = ⊥
IsReadAs (Err NoMemory) value = Unit {0}
