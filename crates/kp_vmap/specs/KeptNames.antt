-- The names of the chains of a port's endpoints, as they are kept.
use Rattle.std.specs.Prelude.{◌≡◌, map}
use Rattle.kp_choice_defs.specs.Names.{endpoint_chain_name}
use Rattle.kp_object_defs.specs.PortInfo.{PortInfo}
use Rattle.kp_vmap.specs.declared.known.EndpointNames.{EndpointNames}

-- each list's names are those of its endpoints, in order
pub record AreNamesOf (i : PortInfo) (names : EndpointNames) : Type 0 where
  pub cluster : names.cluster.items ≡ map (endpoint_chain_name names.length i.key) i.lists.cluster
  pub local : names.local.items ≡ map (endpoint_chain_name names.length i.key) i.lists.local
