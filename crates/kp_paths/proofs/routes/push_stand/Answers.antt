use Rattle.std.proofs.Common.{◌++◌, codes, string_bytes, ap, ◌∙◌}
use Rattle.std.proofs.lemmas.Result.{on_err_weaker, on_ok_weaker}
use Rattle.kp_choice_defs.specs.Draws.{probability_text_of}
use Rattle.kp_report.proofs.Pieces.{front_on}
use Rattle.kp_paths.specs.Words.{place_words}
use Rattle.kp_paths.proofs.Added.{four_added}
use Rattle.kp_paths.proofs.routes.push_stand.Goals as goal

pub returns-clause-added : goal.returns-clause-added
returns-clause-added c = on_ok_weaker c.push-3.result
    (λ is. four_added (string_bytes c.args.text.now) (string_bytes c.push_place.new.text)
    (string_bytes c.push.new.text) (string_bytes c.push-2.new.text) (string_bytes c.push-3.new.text)
    (place_words c.args.stand) (codes " chance ") (probability_text_of c.args.stand.chance)
    (codes ": ") c.in_ok-push_place.ensures.added c.in_ok-push.ensures.added
    (c.in_ok-push-2.ensures.added
    ∙ ap (λ words. string_bytes c.push.new.text ++ words)
    (c.as_str.ensures.value ∙ c.probability_text.ensures)) is)
    c.push-3.ensures.added

pub returns-clause-front : goal.returns-clause-front
returns-clause-front c = on_err_weaker c.push-3.result
    (λ h. front_on _ _ _ _ c.in_ok-push_place.ensures.added
    (front_on _ _ _ _ c.in_ok-push.ensures.added
    (front_on _ _ _ _ c.in_ok-push-2.ensures.added h)))
    c.push-3.ensures.front
