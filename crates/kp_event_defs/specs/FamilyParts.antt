-- Of addresses and ranges of both families those of one.
use Rattle.std.specs.Prelude.{List, Option}
use Rattle.std.specs.List.{filter, find}
use Rattle.kp_base.specs.Net.{AddressParts, RangeParts, same_family}
use Rattle.kp_base.specs.declared.address.Family.{Family}

-- the addresses of a family
abbrev pub addresses_of : Family → List AddressParts → List AddressParts
addresses_of family addresses = filter (λ a. same_family a.family family) addresses

-- the first address of a family
abbrev pub first_address : Family → List AddressParts → Option AddressParts
first_address family addresses = find (λ a. same_family a.family family) addresses

-- the ranges of a family
abbrev pub ranges_in : Family → List RangeParts → List RangeParts
ranges_in family ranges = filter (λ r. same_family r.base.family family) ranges
