use Rattle.std.proofs.Common.{refl}
use Rattle.std.specs.Fmt.{digits}
use Rattle.std.specs.Net.Reader.{read_ipv6, read_segments, read_segment, read_octet, read_ipv4, read_number}
use Rattle.std.specs.Str.{is_utf8, chars}
use Rattle.json.specs.Json.{items, members, value}
use Rattle.json.specs.Lex.{lex, punctuate}
use Rattle.json.specs.Word.{word, after_number}
use Rattle.json.specs.Text.{content}
use Rattle.serde_json.specs.Read.{number_of}
use Rattle.fast_float.specs.Text.{scan}
use Rattle.kp_worked_texts.proofs.read.worked_services.Goals as goal

pub returns-clause-all : goal.returns-clause-all
unfolding is_utf8 chars items members value lex punctuate word after_number content
    number_of scan lib.Utf8.encode digits read_ipv6 read_segments read_segment read_octet read_ipv4 read_number
returns-clause-all c = refl

pub returns-clause-defaults : goal.returns-clause-defaults
unfolding is_utf8 chars items members value lex punctuate word after_number content
    number_of scan lib.Utf8.encode digits read_ipv6 read_segments read_segment read_octet read_ipv4 read_number
returns-clause-defaults c = refl

pub returns-clause-empty : goal.returns-clause-empty
unfolding is_utf8 chars items members value lex punctuate word after_number content
    number_of scan lib.Utf8.encode digits read_ipv6 read_segments read_segment read_octet read_ipv4 read_number
returns-clause-empty c = refl

pub returns-clause-six_alone : goal.returns-clause-six_alone
unfolding is_utf8 chars items members value lex punctuate word after_number content
    number_of scan lib.Utf8.encode digits read_ipv6 read_segments read_segment read_octet read_ipv4 read_number
returns-clause-six_alone c = refl

pub returns-clause-six_first : goal.returns-clause-six_first
unfolding is_utf8 chars items members value lex punctuate word after_number content
    number_of scan lib.Utf8.encode digits read_ipv6 read_segments read_segment read_octet read_ipv4 read_number
returns-clause-six_first c = refl

pub returns-clause-list_hides : goal.returns-clause-list_hides
unfolding is_utf8 chars items members value lex punctuate word after_number content
    number_of scan lib.Utf8.encode digits read_ipv6 read_segments read_segment read_octet read_ipv4 read_number
returns-clause-list_hides c = refl

pub returns-clause-listed : goal.returns-clause-listed
unfolding is_utf8 chars items members value lex punctuate word after_number content
    number_of scan lib.Utf8.encode digits read_ipv6 read_segments read_segment read_octet read_ipv4 read_number
returns-clause-listed c = refl

pub returns-clause-headless_six : goal.returns-clause-headless_six
unfolding is_utf8 chars items members value lex punctuate word after_number content
    number_of scan lib.Utf8.encode digits read_ipv6 read_segments read_segment read_octet read_ipv4 read_number
returns-clause-headless_six c = refl

pub returns-clause-none_anywhere : goal.returns-clause-none_anywhere
unfolding is_utf8 chars items members value lex punctuate word after_number content
    number_of scan lib.Utf8.encode digits read_ipv6 read_segments read_segment read_octet read_ipv4 read_number
returns-clause-none_anywhere c = refl

pub returns-clause-first_of_family : goal.returns-clause-first_of_family
unfolding is_utf8 chars items members value lex punctuate word after_number content
    number_of scan lib.Utf8.encode digits read_ipv6 read_segments read_segment read_octet read_ipv4 read_number
returns-clause-first_of_family c = refl

pub returns-clause-faults : goal.returns-clause-faults
unfolding is_utf8 chars items members value lex punctuate word after_number content
    number_of scan lib.Utf8.encode digits read_ipv6 read_segments read_segment read_octet read_ipv4 read_number
returns-clause-faults c = (refl, refl, refl, refl, refl, refl, refl)

pub returns-clause-closed : goal.returns-clause-closed
unfolding is_utf8 chars items members value lex punctuate word after_number content
    number_of scan lib.Utf8.encode digits read_ipv6 read_segments read_segment read_octet read_ipv4 read_number
returns-clause-closed c = refl
