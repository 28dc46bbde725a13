use Rattle.std.proofs.Common.{refl}
use Rattle.std.specs.Net.Reader.{read_ipv6, read_segments, read_segment, read_octet, read_ipv4, read_number}
use Rattle.kp_row_defs.proofs.worked.a_range_of_each_family.Goals as goal

pub returns-clause-one : goal.returns-clause-one
unfolding read_ipv6 read_segments read_segment read_octet read_ipv4 read_number
returns-clause-one c = refl

pub returns-clause-two : goal.returns-clause-two
unfolding read_ipv6 read_segments read_segment read_octet read_ipv4 read_number
returns-clause-two c = refl

pub returns-clause-turned : goal.returns-clause-turned
unfolding read_ipv6 read_segments read_segment read_octet read_ipv4 read_number
returns-clause-turned c = refl

pub returns-clause-blank : goal.returns-clause-blank
unfolding read_ipv6 read_segments read_segment read_octet read_ipv4 read_number
returns-clause-blank c = refl
