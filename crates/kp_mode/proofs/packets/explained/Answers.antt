use Rattle.std.proofs.Common.{◌++◌, ◌∙◌}
use Rattle.std.specs.Prelude.{string_bytes}
use Rattle.std.proofs.lemmas.Result.{on_ok_weaker}
use Rattle.kp_text_defs.specs.Answers.{explain_text}
use Rattle.kp_run_defs.specs.ReplayText.{draws_at}
use Rattle.kp_mode.proofs.SeenLemmas.{explained_alike}
use Rattle.kp_mode.proofs.packets.explained.Goals as goal

pub returns-clause-text : goal.returns-clause-text
returns-clause-text c =
    let p = c.args.line.now in
    let same = c.in_ok-decision.ensures.decided
    ∙ explained_alike c.args.plane.now p.packet (draws_at c.args.number p.draws)
    c.own-own.result.now c.args.lists.now c.own-own.ensures in
    on_ok_weaker c.push_explain.result
    (λ text. text ∙ (λ i. string_bytes c.args.text.now
    ++ explain_text c.args.number (c.syncs-sync.ensures.count i) (same i)))
    c.push_explain.ensures.added
