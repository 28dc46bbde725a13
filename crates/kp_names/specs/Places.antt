-- Clashes by the places of keys in a list.
use Rattle.std.specs.Prelude.{◌≡◌, ℕ, ◌<◌, List, Option, None, Some, IfSome, option_map, option_and_then, slice_get, if◌then◌else◌, ⊤}
use Rattle.std.specs.Option.{option_map_or}
use Rattle.kp_types.specs.declared.chain.ChainKey.{ChainKey}
use Rattle.kp_types.specs.declared.chain.Clash.{Clash}
use Rattle.kp_choice_defs.specs.Names.{same_chain_key}
use Rattle.kp_names.specs.declared.fault.NameFault.{NameFault}
use Rattle.kp_names.specs.declared.fault.NameFault.TheVariants.{ChainClash, NoMemory}
use Rattle.kp_names.specs.declared.namesakes.Namesakes.{Namesakes}

-- the fault has this clash
abbrev pub TellsClash : Option Clash → NameFault → Type 0
TellsClash clash (ChainClash c) = clash ≡ Some c
TellsClash clash (NoMemory refused) = ⊤

-- the clash of the keys at two places
abbrev pub clash_at : (ChainKey → List ℕ) → List ChainKey → ℕ × ℕ → Option Clash
clash_at name keys p =
    option_and_then (λ a. option_map (λ b. record { name = name a; first = a; second = b }) (slice_get keys p.1))
    (slice_get keys p.0)

-- the places lie in a list of this length
abbrev pub IsWithin : ℕ → Namesakes → Type 0
IsWithin n places = (places.first < n) × IfSome places.other (λ i. i < n)

-- the place of the first key of a name, of which these are the places, that is not this key
abbrev pub other_of : List ChainKey → Option Namesakes → ChainKey → Option ℕ
other_of keys None key = None
other_of keys (Some places) key =
    option_map_or (λ a. if same_chain_key key a then places.other else Some places.first)
    (slice_get keys places.first) None
