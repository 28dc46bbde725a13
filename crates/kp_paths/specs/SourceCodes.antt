-- How the values of kinds of sources are stored.
use Rattle.std.specs.Prelude.{refl}
use Rattle.std.specs.Coded.{Coded, code_by, coded×, coded_list}
use Rattle.kp_base.specs.contracts.key.PortKey as port_row
use Rattle.kp_base.specs.contracts.range.Cidr as range_row
use Rattle.kp_path_defs.specs.Sources.{Restricted}

-- a load balancer with source ranges, by its fields
abbrev pub restricted_code : Coded Restricted
restricted_code =
    code_by _ (coded× port_row.the_row.coded (coded_list range_row.the_row.coded))
    (λ r. (r.port, r.ranges)) (λ p. record { port = p.0; ranges = p.1 }) (λ _. refl)
