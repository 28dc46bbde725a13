use Rattle.std.proofs.Common.{refl}
use Rattle.std.specs.Fmt.{digits}
use Rattle.std.specs.Str.{is_utf8, chars}
use Rattle.json.specs.Json.{items, members, value}
use Rattle.json.specs.Lex.{lex, punctuate}
use Rattle.json.specs.Print.{escape_byte}
use Rattle.json.specs.Word.{word, after_number}
use Rattle.json.specs.Text.{content}
use Rattle.serde_json.specs.Read.{number_of}
use Rattle.fast_float.specs.Text.{scan}
use Rattle.kp_worked_texts.proofs.fields.worked_fields.Goals as goal

pub returns-clause-values : goal.returns-clause-values
unfolding is_utf8 chars items members value lex punctuate word after_number content
    number_of scan lib.Utf8.encode escape_byte digits
returns-clause-values c = (refl, refl, refl, refl)

pub returns-clause-types : goal.returns-clause-types
unfolding is_utf8 chars items members value lex punctuate word after_number content
    number_of scan lib.Utf8.encode escape_byte digits
returns-clause-types c = (refl, refl, refl, refl)

pub returns-clause-absent : goal.returns-clause-absent
unfolding is_utf8 chars items members value lex punctuate word after_number content
    number_of scan lib.Utf8.encode escape_byte digits
returns-clause-absent c = (refl, refl, refl, refl)

pub returns-clause-list : goal.returns-clause-list
unfolding is_utf8 chars items members value lex punctuate word after_number content
    number_of scan lib.Utf8.encode escape_byte digits
returns-clause-list c = (refl, refl, refl, refl)

pub returns-clause-order : goal.returns-clause-order
unfolding is_utf8 chars items members value lex punctuate word after_number content
    number_of scan lib.Utf8.encode escape_byte digits
returns-clause-order c = (refl, refl)
