use Rattle.std.proofs.Common.{◌++◌, codes, decimal, string_bytes, ap, ◌∙◌}
use Rattle.std.proofs.lemmas.Result.{on_ok_weaker}
use Rattle.kp_health_defs.specs.HealthText.{line_end, status_text}
use Rattle.kp_health.proofs.Heads.{head_added}
use Rattle.kp_health.proofs.response.push_head.Goals as goal

pub returns : goal.returns
returns c = on_ok_weaker c.push_line_end-4.result (λ is. head_added line_end (codes "HTTP/1.1 ")
    (status_text c.args.status) (codes "Content-Type: application/json")
    (codes "Content-Length: ") (decimal c.args.size) (string_bytes c.args.text.now)
    (string_bytes c.push.new.text) (string_bytes c.push-2.new.text)
    (string_bytes c.push_line_end.new.text) (string_bytes c.push-3.new.text)
    (string_bytes c.push_line_end-2.new.text) (string_bytes c.push_labelled.new.text)
    (string_bytes c.push_line_end-3.new.text) (string_bytes c.push_line_end-4.new.text)
    c.in_ok-push.ensures.added (c.in_ok-push-2.ensures.added
    ∙ ap (λ words. string_bytes c.push.new.text ++ words) c.status_words.ensures)
    c.in_ok-push_line_end.ensures c.in_ok-push-3.ensures.added c.in_ok-push_line_end-2.ensures
    c.in_ok-push_labelled.ensures.added c.in_ok-push_line_end-3.ensures is)
    c.push_line_end-4.ensures
