-- Connections that the test finds the same are one.
use Rattle.std.proofs.lemmas.Bool.{and_parts, eqb-true}
use Rattle.kp_lemmas.specs.Exact.{IsExact}
use Rattle.kp_base.proofs.SameParts.{same_address_exact, same_proto_exact}
use Rattle.kp_track_defs.specs.Entries.{same_connection}

pub same_connection_exact : IsExact same_connection
same_connection_exact a b h =
    let proto = and_parts _ _ h in
    let source = and_parts _ _ proto.1 in
    let target = and_parts _ _ source.1 in
    let ports = and_parts _ _ target.1 in
    λ i. record {
      proto = same_proto_exact a.proto b.proto proto.0 i;
      source = same_address_exact a.source b.source source.0 i;
      source_port = eqb-true a.source_port b.source_port ports.0 i;
      target = same_address_exact a.target b.target target.0 i;
      port = eqb-true a.port b.port ports.1 i;
    }
