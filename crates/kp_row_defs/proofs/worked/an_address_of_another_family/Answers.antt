use Rattle.std.proofs.Common.{refl}
use Rattle.std.specs.Net.Reader.{read_ipv6, read_segments, read_segment, read_octet, read_ipv4, read_number}
use Rattle.kp_row_defs.proofs.worked.an_address_of_another_family.Goals as goal

pub returns-clause-like : goal.returns-clause-like
unfolding read_ipv6 read_segments read_segment read_octet read_ipv4 read_number
returns-clause-like c = refl

pub returns-clause-other : goal.returns-clause-other
unfolding read_ipv6 read_segments read_segment read_octet read_ipv4 read_number
returns-clause-other c = refl
