-- The derived tests are those of the definitions.
use Rattle.std.proofs.Common.{◌≡◌, ◌&&◌, ◌==◌}
use Rattle.kp_base.proofs.SameParts.{address_same, proto_same}
use Rattle.kp_base.specs.contracts.key.EndpointPartialEq.TheImpl as endpoint_eq
use Rattle.kp_base.specs.declared.key.Endpoint.{Endpoint}
use Rattle.kp_track_defs.specs.contracts.flow.ConnectionPartialEq.TheImpl as connection_eq
use Rattle.kp_track_defs.specs.declared.flow.Connection.{Connection}
use Rattle.kp_track_defs.specs.Entries.{same_connection}
use Rattle.kp_track_defs.specs.Stands.{is_endpoint}

pub connection_same : (a b : Connection) → connection_eq.ghosts.eq a b ≡ same_connection a b
connection_same a b = λ i.
    proto_same a.proto b.proto i
    && (address_same a.source b.source i
    && (address_same a.target b.target i && ((a.source_port == b.source_port) && (a.port == b.port))))

pub endpoint_same : (a b : Endpoint) → endpoint_eq.ghosts.eq a b ≡ is_endpoint a b
endpoint_same a b = λ i. address_same a.address b.address i && (a.port == b.port)
