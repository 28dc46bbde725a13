use Rattle.std.proofs.Common.{refl}
use Rattle.std.specs.Net.Reader.{read_ipv6, read_segments, read_segment, read_octet, read_ipv4, read_number}
use Rattle.kp_row_defs.proofs.worked.both_families_are_read.Goals as goal

pub returns-clause-address : goal.returns-clause-address
unfolding read_ipv6 read_segments read_segment read_octet read_ipv4 read_number
returns-clause-address c = refl

pub returns-clause-range : goal.returns-clause-range
unfolding read_ipv6 read_segments read_segment read_octet read_ipv4 read_number
returns-clause-range c = refl

pub returns-clause-cluster : goal.returns-clause-cluster
unfolding read_ipv6 read_segments read_segment read_octet read_ipv4 read_number
returns-clause-cluster c = refl

pub returns-clause-zone : goal.returns-clause-zone
unfolding read_ipv6 read_segments read_segment read_octet read_ipv4 read_number
returns-clause-zone c = refl
