-- The ranges of a text by their families.
use Rattle.std.specs.Prelude.{List, Option}
use Rattle.kp_base.specs.Net.{RangeParts}
use Rattle.kp_base.specs.declared.address.Family.TheVariants.{V4, V6}
use Rattle.kp_row_defs.specs.Fields.{range_in_family}

-- the range of IPv4 and that of IPv6 among ranges
abbrev pub by_family : List RangeParts → Option RangeParts × Option RangeParts
by_family ranges = (range_in_family V4 ranges, range_in_family V6 ranges)
