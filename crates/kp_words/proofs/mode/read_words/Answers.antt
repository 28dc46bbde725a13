use Rattle.std.proofs.Common.{◌≡◌, ◌∙◌, false, map, rules, string_bytes, sym}
use Rattle.kp_words.proofs.FormLemmas.{unfit}
use Rattle.kp_words.proofs.mode.read_words.Goals as goal

pub returns-then-not-has_form : goal.returns-then-not-has_form
returns-then-not-has_form c =
    let formless : c.has_form.result ≡ false = search rules in
    unfit (map string_bytes c.args.words.now) (sym c.has_form.ensures ∙ formless)
