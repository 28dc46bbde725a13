use Rattle.std.proofs.Common.{◌≡◌, ℕ, nat_lt, true, false, cond, List, [], ◌∷◌, Some, None, refl, ap, ◌∙◌}
use Rattle.std.specs.List.{fold}
use Rattle.std.specs.Str.{is_utf8, chars}
use Rattle.json.specs.Json.{items, members, value}
use Rattle.json.specs.Lex.{lex, punctuate}
use Rattle.json.specs.Word.{word, after_number}
use Rattle.json.specs.Text.{content}
use Rattle.serde_json.specs.Read.{number_of}
use Rattle.fast_float.specs.Text.{scan}
use Rattle.kp_text_defs.specs.declared.line_refusal.LineRefusal.TheVariants.{TooLongLine}
use Rattle.kp_text_defs.specs.declared.said.Said.{Said}
use Rattle.kp_text_defs.specs.declared.said.Said.TheVariants.{Nothing, Refuses}
use Rattle.kp_text_defs.specs.SaidLines.{given_as, is_too_long, said, said_of}
use Rattle.kp_text_defs.specs.ScriptLines.{line_of}
use Rattle.kp_run_defs.specs.LiveLines.{Reading, after_live_line, after_said, nothing_read}
use Rattle.kp_worked_runs.specs.Inputs.{config_with, sync_text}
use Rattle.kp_worked_runs.proofs.worked_line_numbers.Goals as goal

pub returns-clause-blank : goal.returns-clause-blank
unfolding is_utf8 chars items members value lex punctuate word after_number content
    number_of scan lib.Utf8.encode
returns-clause-blank c = (refl, refl, refl)

pub returns-clause-between : goal.returns-clause-between
unfolding is_utf8 chars items members value lex punctuate word after_number content
    number_of scan lib.Utf8.encode
returns-clause-between c = refl

-- what is read behind a line that says this
abbrev behind : List (List ℕ) → Said → Reading
behind lines says = fold after_live_line (after_said nothing_read says) lines

pub returns-clause-too_long : goal.returns-clause-too_long
unfolding is_utf8 chars items members value lex punctuate word after_number content
    number_of scan lib.Utf8.encode
returns-clause-too_long c bytes h =
    let lines = config_with [] ∷ sync_text ∷ [] in
    let long : is_too_long bytes ≡ true = ap (nat_lt 16777216) h in
    let says : said (given_as bytes) true ≡ Refuses TooLongLine =
    ap (λ b. said (cond b None (Some bytes)) true) long in
    (ap (λ w. (behind lines w).refused) says, ap (λ w. (behind lines w).lines) says)

pub returns-clause-longest : goal.returns-clause-longest
unfolding is_utf8 chars items members value lex punctuate word after_number content
    number_of scan lib.Utf8.encode
returns-clause-longest c bytes h blank =
    let lines = sync_text ∷ [] in
    let short : is_too_long bytes ≡ false = ap (nat_lt 16777216) h in
    let says : said (given_as bytes) true ≡ Nothing =
    ap (λ b. said (cond b None (Some bytes)) true) short
    ∙ ap (λ b. cond b Nothing (said_of (line_of bytes true))) blank in
    (ap (λ w. (behind lines w).refused) says, ap (λ w. (behind lines w).lines) says)
