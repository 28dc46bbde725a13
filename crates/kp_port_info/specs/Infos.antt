-- What the proxy knows of a port with these lists of endpoints.
use Rattle.std.specs.Prelude.{Option, option_map}
use Rattle.kp_base.specs.Net.{AddressParts}
use Rattle.kp_base.specs.declared.address.Family.{Family}
use Rattle.kp_types.specs.declared.lists.Lists.{Lists}
use Rattle.kp_types.specs.declared.service.Service.{Service}
use Rattle.kp_types.specs.declared.service.ServicePort.{ServicePort}
use Rattle.kp_object_defs.specs.PortInfo.{PortInfo, port_key_of, external_in, balancer_in, ranges_of, node_port_of, restriction_in, cluster_address_in}

-- at a cluster address
abbrev pub info_with : Family → Service → ServicePort → Lists → AddressParts → PortInfo
info_with family s p lists address = record {
  key = port_key_of s p;
  number = p.port;
  address = address;
  external = external_in family s;
  balancer = balancer_in family s;
  node_port = node_port_of s p;
  ranges = restriction_in family (ranges_of family s);
  affinity = s.affinity;
  internal = s.internal;
  outer = s.outer;
  lists = lists;
}

-- where its Service has a cluster address
abbrev pub known_of : Family → Service → ServicePort → Lists → Option PortInfo
known_of family s p lists = option_map (info_with family s p lists) (cluster_address_in family s)
