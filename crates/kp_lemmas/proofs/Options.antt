-- What an option's result was made of, and maps of options.
use Rattle.std.proofs.Common.{◌≡◌, false, Option, Some, None, is_some, option_map, option_and_then, refl}
use Rattle.std.specs.Option.{option_or}
use Rattle.std.proofs.lemmas.Option.{same_Some}

-- of a map
pub from_option_map : {A B : Type 0} (f : A → B) (o : Option A) (y : B) → option_map f o ≡ Some y
    → (x : A) × (o ≡ Some x) × (f x ≡ y)
from_option_map f None y h = absurd (cc)
from_option_map f (Some x) y h = (x, refl, same_Some (f x) y h)

-- of a step that may find nothing
pub from_and_then : {A B : Type 0} (f : A → Option B) (o : Option A) (y : B)
    → option_and_then f o ≡ Some y → (x : A) × (o ≡ Some x) × (f x ≡ Some y)
from_and_then f None y h = absurd (cc)
from_and_then f (Some x) y h = (x, refl, h)

-- what isn't there
pub none_of : {X : Type 0} (o : Option X) → is_some o ≡ false → o ≡ None
none_of None h = refl
none_of (Some x) h = absurd (cc)

-- of a map that finds nothing
pub none_of_map : {X Y : Type 0} (f : X → Y) (o : Option X) → option_map f o ≡ None → o ≡ None
none_of_map f None h = refl
none_of_map f (Some x) h = absurd (cc)

-- a map of the first of two that is there
pub map_or : {X Y : Type 0} (f : X → Y) (o p : Option X)
    → option_map f (option_or o p) ≡ option_or (option_map f o) (option_map f p)
map_or f None p = refl
map_or f (Some x) p = refl
