-- The addresses that count, as they are counted one after the other.
use Rattle.std.specs.Prelude.{List, cond}
use Rattle.std.specs.BTreeSet.{insert_key}
use Rattle.std.specs.List.{fold}
use Rattle.kp_base.specs.Keys.{address_cmp}
use Rattle.kp_base.specs.Net.{AddressParts}
use Rattle.kp_base.specs.declared.address.Family.{Family}
use Rattle.kp_types.specs.declared.lists.Candidate.{Candidate}
use Rattle.kp_health_defs.specs.HealthPorts.{counts_in}

-- addresses in order, with that of an endpoint where it counts
abbrev pub counted_with : List Family → List AddressParts → Candidate → List AddressParts
counted_with families addresses c =
    cond (counts_in families c) (insert_key address_cmp addresses c.endpoint.address) addresses

-- with those of the endpoints of a port
abbrev pub counted_all : List Family → List AddressParts → List Candidate → List AddressParts
counted_all families addresses cs = fold (counted_with families) addresses cs
