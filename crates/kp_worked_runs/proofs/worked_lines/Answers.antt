use Rattle.std.proofs.Common.{refl}
use Rattle.std.specs.Str.{is_utf8, chars}
use Rattle.json.specs.Json.{items, members, value}
use Rattle.json.specs.Lex.{lex, punctuate}
use Rattle.json.specs.Word.{word, after_number}
use Rattle.json.specs.Text.{content}
use Rattle.serde_json.specs.Read.{number_of}
use Rattle.fast_float.specs.Text.{scan}
use Rattle.kp_worked_runs.proofs.worked_lines.Goals as goal

pub returns-clause-sync : goal.returns-clause-sync
unfolding is_utf8 chars items members value lex punctuate word after_number content
    number_of scan lib.Utf8.encode
returns-clause-sync c = refl

pub returns-clause-show : goal.returns-clause-show
unfolding is_utf8 chars items members value lex punctuate word after_number content
    number_of scan lib.Utf8.encode
returns-clause-show c = refl

pub returns-clause-web : goal.returns-clause-web
unfolding is_utf8 chars items members value lex punctuate word after_number content
    number_of scan lib.Utf8.encode
returns-clause-web c = refl

pub returns-clause-slice : goal.returns-clause-slice
unfolding is_utf8 chars items members value lex punctuate word after_number content
    number_of scan lib.Utf8.encode
returns-clause-slice c = refl

pub returns-clause-other_slice : goal.returns-clause-other_slice
unfolding is_utf8 chars items members value lex punctuate word after_number content
    number_of scan lib.Utf8.encode
returns-clause-other_slice c = refl

pub returns-clause-sent : goal.returns-clause-sent
unfolding is_utf8 chars items members value lex punctuate word after_number content
    number_of scan lib.Utf8.encode
returns-clause-sent c = refl

pub returns-clause-config : goal.returns-clause-config
unfolding is_utf8 chars items members value lex punctuate word after_number content
    number_of scan lib.Utf8.encode
returns-clause-config c = refl

pub returns-clause-plain : goal.returns-clause-plain
unfolding is_utf8 chars items members value lex punctuate word after_number content
    number_of scan lib.Utf8.encode
returns-clause-plain c = refl

pub returns-clause-not_for_live : goal.returns-clause-not_for_live
unfolding is_utf8 chars items members value lex punctuate word after_number content
    number_of scan lib.Utf8.encode
returns-clause-not_for_live c = (refl, refl, refl, refl)

pub returns-clause-clash_at_end : goal.returns-clause-clash_at_end
unfolding is_utf8 chars items members value lex punctuate word after_number content
    number_of scan lib.Utf8.encode
returns-clause-clash_at_end c = (refl, refl, refl, refl)
