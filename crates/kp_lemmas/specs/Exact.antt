-- Tests of equality.
use Rattle.std.specs.Prelude.{◌≡◌, Bool, true}

-- a test that is true at equal values alone
abbrev pub IsExact : {X : Type 0} → (X → X → Bool) → Type 0
IsExact {X} test = (x y : X) → test x y ≡ true → x ≡ y
