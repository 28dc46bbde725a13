-- Keys as objects have them.
use Rattle.std.specs.Prelude.{◌≡◌, ◌<◌, ◌^◌, true}
use Rattle.kp_base.specs.declared.address.Family.TheVariants.{V4}
use Rattle.kp_base.specs.declared.key.PortKey.{PortKey}
use Rattle.kp_base.specs.declared.key.Endpoint.{Endpoint}
use Rattle.kp_base.specs.Grammar.{is_name_text, is_port_name_text}

-- the names are names of objects and of ports
pub record IsWritten (key : PortKey) : Type 0 where
  pub namespace : is_name_text key.object.namespace ≡ true
  pub name : is_name_text key.object.name ≡ true
  pub port : is_port_name_text key.port_name ≡ true

-- the address is one of IPv4, and the port is a port's number
pub record IsWrittenEndpoint (endpoint : Endpoint) : Type 0 where
  pub family : endpoint.address.family ≡ V4
  pub number : endpoint.address.number < 2 ^ 32
  pub port : endpoint.port < 2 ^ 16
