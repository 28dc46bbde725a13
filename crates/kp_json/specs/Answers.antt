-- What reading a field answers: a value, or the fault of the field. A fault is its kind, its path and a count, which
-- is 0 unless a list has too many elements. Two readings in a row answer the first fault (this project's choice).
use Rattle.std.specs.Prelude.{◌≡◌, ℕ, List, Result, Ok, Err}
use Rattle.kp_json.specs.declared.fault.Why.{Why}
use Rattle.kp_json.specs.declared.fault.Why.TheVariants.{TooMany}
use Rattle.kp_json.specs.declared.fault.BadField.{BadField}
use Rattle.kp_json.specs.declared.fault.FieldFault.{FieldFault}
use Rattle.kp_json.specs.declared.fault.FieldFault.TheVariants.{Bad, NoMemory}

-- a value, or the field that is refused
abbrev pub Answer : Type 0 → Type 0
Answer A = Result A BadField

infixl 10 ◌>>=◌
-- one reading behind another, up to the first fault
abbrev pub ◌>>=◌ : {A B : Type 0} → Result A BadField → (A → Result B BadField) → Result B BadField
(Ok x) >>= f = f x
(Err e) >>= f = Err e

-- the fault of the field at a path
abbrev pub fault_at : Why → List ℕ → BadField
fault_at kind where_it_is = record { why = kind; path = where_it_is; count = 0 }

-- the fault of a list with too many elements
abbrev pub too_many_at : List ℕ → ℕ → BadField
too_many_at where_it_is n = record { why = TooMany; path = where_it_is; count = n }

-- memory ran out
abbrev pub IsWant : FieldFault → Type 0
IsWant (NoMemory refused) = Unit {0}
IsWant (Bad b) = ⊥

-- What a call answered, seen by view, is what reading gives, unless memory ran out.
abbrev pub Fails : {Y : Type 0} → FieldFault → Result Y BadField → Type 0
Fails (NoMemory refused) read = Unit {0}
Fails (Bad b) read = read ≡ Err b

-- a call answers what reading gives, seen by view
abbrev pub Gives : {X Y : Type 0} → (X → Y) → Result X FieldFault → Result Y BadField → Type 0
Gives view (Ok x) read = read ≡ Ok (view x)
Gives view (Err e) read = Fails e read

-- a fault is this one, unless memory ran out
abbrev pub IsFault : FieldFault → BadField → Type 0
IsFault (NoMemory refused) bad = Unit {0}
IsFault (Bad b) bad = b ≡ bad
