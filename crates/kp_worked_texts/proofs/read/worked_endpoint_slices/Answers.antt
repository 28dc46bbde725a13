use Rattle.std.proofs.Common.{refl}
use Rattle.std.specs.Fmt.{digits}
use Rattle.std.specs.Net.Reader.{read_ipv6, read_segments, read_segment, read_octet, read_ipv4, read_number}
use Rattle.std.specs.Str.{is_utf8, chars}
use Rattle.json.specs.Json.{items, members, value}
use Rattle.json.specs.Lex.{lex, punctuate}
use Rattle.json.specs.Word.{word, after_number}
use Rattle.json.specs.Text.{content}
use Rattle.serde_json.specs.Read.{number_of}
use Rattle.fast_float.specs.Text.{scan}
use Rattle.kp_worked_texts.proofs.read.worked_endpoint_slices.Goals as goal

pub returns-clause-all : goal.returns-clause-all
unfolding is_utf8 chars items members value lex punctuate word after_number content
    number_of scan lib.Utf8.encode digits read_ipv6 read_segments read_segment read_octet read_ipv4 read_number
returns-clause-all c = refl

pub returns-clause-host_names : goal.returns-clause-host_names
unfolding is_utf8 chars items members value lex punctuate word after_number content
    number_of scan lib.Utf8.encode digits read_ipv6 read_segments read_segment read_octet read_ipv4 read_number
returns-clause-host_names c = refl

pub returns-clause-in_six : goal.returns-clause-in_six
unfolding is_utf8 chars items members value lex punctuate word after_number content
    number_of scan lib.Utf8.encode digits read_ipv6 read_segments read_segment read_octet read_ipv4 read_number
returns-clause-in_six c = refl

pub returns-clause-other_family : goal.returns-clause-other_family
unfolding is_utf8 chars items members value lex punctuate word after_number content
    number_of scan lib.Utf8.encode digits read_ipv6 read_segments read_segment read_octet read_ipv4 read_number
returns-clause-other_family c = refl

pub returns-clause-fault : goal.returns-clause-fault
unfolding is_utf8 chars items members value lex punctuate word after_number content
    number_of scan lib.Utf8.encode digits read_ipv6 read_segments read_segment read_octet read_ipv4 read_number
returns-clause-fault c = refl
