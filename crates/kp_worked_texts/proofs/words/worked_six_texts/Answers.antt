use Rattle.std.proofs.Common.{refl}
use Rattle.std.specs.Net.Reader.{read_ipv6, read_segments, read_segment, read_octet, read_ipv4, read_number}
use Rattle.std.specs.Net.Text.{hex, hex_groups_text}
use Rattle.kp_worked_texts.proofs.words.worked_six_texts.Goals as goal

pub returns-clause-printed : goal.returns-clause-printed
unfolding read_ipv6 read_segments read_segment read_octet read_ipv4 read_number hex hex_groups_text
returns-clause-printed c = refl

pub returns-clause-tails : goal.returns-clause-tails
unfolding read_ipv6 read_segments read_segment read_octet read_ipv4 read_number hex hex_groups_text
returns-clause-tails c = refl

pub returns-clause-numbers : goal.returns-clause-numbers
unfolding read_ipv6 read_segments read_segment read_octet read_ipv4 read_number hex hex_groups_text
returns-clause-numbers c = refl

pub returns-clause-no_addresses : goal.returns-clause-no_addresses
unfolding read_ipv6 read_segments read_segment read_octet read_ipv4 read_number hex hex_groups_text
returns-clause-no_addresses c = refl

pub returns-clause-ranges : goal.returns-clause-ranges
unfolding read_ipv6 read_segments read_segment read_octet read_ipv4 read_number hex hex_groups_text
returns-clause-ranges c = refl

pub returns-clause-no_ranges : goal.returns-clause-no_ranges
unfolding read_ipv6 read_segments read_segment read_octet read_ipv4 read_number hex hex_groups_text
returns-clause-no_ranges c = refl
