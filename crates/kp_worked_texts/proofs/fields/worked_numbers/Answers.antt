use Rattle.std.proofs.Common.{refl}
use Rattle.std.specs.Fmt.{digits}
use Rattle.std.specs.Str.{is_utf8, chars}
use Rattle.json.specs.Json.{items, members, value}
use Rattle.json.specs.Lex.{lex, punctuate}
use Rattle.json.specs.Print.{escape_byte}
use Rattle.json.specs.Word.{word, after_number}
use Rattle.json.specs.Text.{content}
use Rattle.serde_json.specs.Read.{number_of}
use Rattle.fast_float.specs.Text.{scan}
use Rattle.kp_worked_texts.proofs.fields.worked_numbers.Goals as goal

pub returns-clause-within : goal.returns-clause-within
unfolding is_utf8 chars items members value lex punctuate word after_number content
    number_of scan lib.Utf8.encode escape_byte digits
returns-clause-within c = (refl, refl, refl)

pub returns-clause-past : goal.returns-clause-past
unfolding is_utf8 chars items members value lex punctuate word after_number content
    number_of scan lib.Utf8.encode escape_byte digits
returns-clause-past c = (refl, refl)

pub returns-clause-others : goal.returns-clause-others
unfolding is_utf8 chars items members value lex punctuate word after_number content
    number_of scan lib.Utf8.encode escape_byte digits
returns-clause-others c = (refl, refl)
