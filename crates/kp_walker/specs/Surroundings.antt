-- What a walk may ask: chains by their places, the node's addresses, the packet as it came, and
-- the draws.
use Rattle.std.specs.Prelude.{ℕ, List, Option}
use Rattle.std.specs.FinMap.{get}
use Rattle.kp_types.specs.Packets.{family_of_packet}
use Rattle.kp_types.specs.Places.{place_in}
use Rattle.kp_types.specs.declared.chain.ChainAt.{ChainAt}
use Rattle.kp_types.specs.declared.rule.Rule.{Rule}
use Rattle.kp_table_defs.specs.Matching as matching
use Rattle.kp_table_defs.specs.Walk as walk
use Rattle.kp_walker.specs.declared.hook.Surroundings.{Surroundings}

-- what matches may ask, where these are the packet's draws
abbrev pub surroundings_of : {F : Type 0} → Surroundings F → (ℕ → ℕ) → matching.Surroundings
surroundings_of around draws = walk.surroundings_of around.node.now around.packet.now draws

-- the look-up of chains
abbrev pub chains_of : {F : Type 0} → Surroundings F → ChainAt → Option (List Rule)
chains_of around = get around.chains.now.chains

-- the look-up of chains in the tables of the packet's family
abbrev pub lookup_of : {F : Type 0} → Surroundings F → ChainAt → Option (List Rule)
lookup_of around = λ place. chains_of around (place_in (family_of_packet around.packet.now) place)
