use Rattle.std.proofs.Common.{refl}
use Rattle.std.specs.Fmt.{digits}
use Rattle.std.specs.Net.Reader.{read_ipv6, read_segments, read_segment, read_octet, read_ipv4, read_number}
use Rattle.std.specs.Str.{is_utf8, chars}
use Rattle.json.specs.Json.{items, members, value}
use Rattle.json.specs.Lex.{lex, punctuate}
use Rattle.json.specs.Word.{word, after_number}
use Rattle.json.specs.Text.{content}
use Rattle.serde_json.specs.Read.{number_of}
use Rattle.fast_float.specs.Text.{scan}
use Rattle.kp_worked_texts.proofs.read.worked_pods.Goals as goal

pub returns-clause-all : goal.returns-clause-all
unfolding is_utf8 chars items members value lex punctuate word after_number content
    number_of scan lib.Utf8.encode digits read_ipv6 read_segments read_segment read_octet read_ipv4 read_number
returns-clause-all c = refl

pub returns-clause-six_first : goal.returns-clause-six_first
unfolding is_utf8 chars items members value lex punctuate word after_number content
    number_of scan lib.Utf8.encode digits read_ipv6 read_segments read_segment read_octet read_ipv4 read_number
returns-clause-six_first c = refl

pub returns-clause-list_hides : goal.returns-clause-list_hides
unfolding is_utf8 chars items members value lex punctuate word after_number content
    number_of scan lib.Utf8.encode digits read_ipv6 read_segments read_segment read_octet read_ipv4 read_number
returns-clause-list_hides c = refl

pub returns-clause-empty_list : goal.returns-clause-empty_list
unfolding is_utf8 chars items members value lex punctuate word after_number content
    number_of scan lib.Utf8.encode digits read_ipv6 read_segments read_segment read_octet read_ipv4 read_number
returns-clause-empty_list c = refl

pub returns-clause-faults : goal.returns-clause-faults
unfolding is_utf8 chars items members value lex punctuate word after_number content
    number_of scan lib.Utf8.encode digits read_ipv6 read_segments read_segment read_octet read_ipv4 read_number
returns-clause-faults c = (refl, refl)

pub returns-clause-succeeded : goal.returns-clause-succeeded
unfolding is_utf8 chars items members value lex punctuate word after_number content
    number_of scan lib.Utf8.encode digits read_ipv6 read_segments read_segment read_octet read_ipv4 read_number
returns-clause-succeeded c = refl

pub returns-clause-failed : goal.returns-clause-failed
unfolding is_utf8 chars items members value lex punctuate word after_number content
    number_of scan lib.Utf8.encode digits read_ipv6 read_segments read_segment read_octet read_ipv4 read_number
returns-clause-failed c = refl

pub returns-clause-other_phase : goal.returns-clause-other_phase
unfolding is_utf8 chars items members value lex punctuate word after_number content
    number_of scan lib.Utf8.encode digits read_ipv6 read_segments read_segment read_octet read_ipv4 read_number
returns-clause-other_phase c = refl

pub returns-clause-zoned : goal.returns-clause-zoned
unfolding is_utf8 chars items members value lex punctuate word after_number content
    number_of scan lib.Utf8.encode digits read_ipv6 read_segments read_segment read_octet read_ipv4 read_number
returns-clause-zoned c = refl

pub returns-clause-unzoned : goal.returns-clause-unzoned
unfolding is_utf8 chars items members value lex punctuate word after_number content
    number_of scan lib.Utf8.encode digits read_ipv6 read_segments read_segment read_octet read_ipv4 read_number
returns-clause-unzoned c = refl
