-- What tokens begin with, as values of JSON.
use Rattle.std.specs.Prelude.{◌≡◌, ℕ, List, length, Some}
use Rattle.json.specs.Json as json
use Rattle.json.specs.Token.{Token}
use Rattle.serde_json.specs.Data.{Data, Items, Members, no_members}
use Rattle.serde_json.specs.Read.{of_json, of_items, of_members}

-- the tokens are those of this value, of at most so many levels, and then the rest
abbrev pub BeginsWith : ℕ → List Token → Data → List Token → Type 0
BeginsWith depth ts d rest = (j : json.Json) × (json.value depth ts ≡ Some (j, rest)) × (of_json j ≡ Some d)

-- the same of elements up to their bracket, inside an object's member
abbrev pub HasItems : List Token → Items → List Token → Type 0
HasItems ts ds rest =
    (js : json.Items) × (json.items (json.value 125) (length ts) ts ≡ Some (js, rest)) × (of_items js ≡ Some ds)

-- the same of members up to their brace
abbrev pub HasMembers : List Token → Members → List Token → Type 0
HasMembers ts ms rest =
    (js : json.Members) × (json.members (json.value 126) (length ts) ts ≡ Some (js, rest)) × (of_members js no_members ≡ Some ms)
