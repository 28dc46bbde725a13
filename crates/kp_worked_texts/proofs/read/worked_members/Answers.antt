use Rattle.std.proofs.Common.{refl}
use Rattle.std.specs.Str.{is_utf8, chars}
use Rattle.json.specs.Json.{items, members, value}
use Rattle.json.specs.Lex.{lex, punctuate}
use Rattle.json.specs.Word.{word, after_number}
use Rattle.json.specs.Text.{content}
use Rattle.serde_json.specs.Read.{number_of}
use Rattle.fast_float.specs.Text.{scan}
use Rattle.std.specs.Fmt.{digits}
use Rattle.std.specs.Net.Reader.{read_ipv6, read_segments, read_segment, read_octet, read_ipv4, read_number}
use Rattle.kp_worked_texts.proofs.read.worked_members.Goals as goal

pub returns-clause-packet : goal.returns-clause-packet
unfolding is_utf8 chars items members value lex punctuate word after_number content
    number_of scan lib.Utf8.encode digits read_ipv6 read_segments read_segment read_octet read_ipv4 read_number
returns-clause-packet c = refl

pub returns-clause-six : goal.returns-clause-six
unfolding is_utf8 chars items members value lex punctuate word after_number content
    number_of scan lib.Utf8.encode digits read_ipv6 read_segments read_segment read_octet read_ipv4 read_number
returns-clause-six c = refl

pub returns-clause-plain : goal.returns-clause-plain
unfolding is_utf8 chars items members value lex punctuate word after_number content
    number_of scan lib.Utf8.encode digits read_ipv6 read_segments read_segment read_octet read_ipv4 read_number
returns-clause-plain c = refl

pub returns-clause-listed : goal.returns-clause-listed
unfolding is_utf8 chars items members value lex punctuate word after_number content
    number_of scan lib.Utf8.encode digits read_ipv6 read_segments read_segment read_octet read_ipv4 read_number
returns-clause-listed c = refl

pub returns-clause-seeded : goal.returns-clause-seeded
unfolding is_utf8 chars items members value lex punctuate word after_number content
    number_of scan lib.Utf8.encode digits read_ipv6 read_segments read_segment read_octet read_ipv4 read_number
returns-clause-seeded c = refl

pub returns-clause-setting : goal.returns-clause-setting
unfolding is_utf8 chars items members value lex punctuate word after_number content
    number_of scan lib.Utf8.encode digits read_ipv6 read_segments read_segment read_octet read_ipv4 read_number
returns-clause-setting c = refl

pub returns-clause-default : goal.returns-clause-default
unfolding is_utf8 chars items members value lex punctuate word after_number content
    number_of scan lib.Utf8.encode digits read_ipv6 read_segments read_segment read_octet read_ipv4 read_number
returns-clause-default c = refl

pub returns-clause-packet_faults : goal.returns-clause-packet_faults
unfolding is_utf8 chars items members value lex punctuate word after_number content
    number_of scan lib.Utf8.encode digits read_ipv6 read_segments read_segment read_octet read_ipv4 read_number
returns-clause-packet_faults c = (refl, (refl, refl))

pub returns-clause-setting_faults : goal.returns-clause-setting_faults
unfolding is_utf8 chars items members value lex punctuate word after_number content
    number_of scan lib.Utf8.encode digits read_ipv6 read_segments read_segment read_octet read_ipv4 read_number
returns-clause-setting_faults c = (refl, (refl, refl))
