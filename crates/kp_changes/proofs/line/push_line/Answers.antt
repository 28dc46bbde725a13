use Rattle.std.proofs.Common.{◌++◌, ◌∙◌, string_bytes}
use Rattle.std.proofs.lemmas.Result.{on_err_weaker, on_ok_weaker}
use Rattle.kp_choice_defs.specs.Names.{chain_name}
use Rattle.kp_change_defs.specs.DoorText.{head_text}
use Rattle.kp_report.proofs.Pieces.{front_on}
use Rattle.kp_changes.specs.After.{infos_in}
use Rattle.kp_changes.proofs.PortLines.{line_added}
use Rattle.kp_changes.proofs.line.push_line.Goals as goal

pub returns-clause-added : goal.returns-clause-added
returns-clause-added c =
    let name_of = chain_name c.args.after.now.synced.config.name_length in
    let infos = infos_in c.args.family c.args.after.now.synced in
    on_ok_weaker c.push-2.result
    (line_added name_of infos _ c.args.change.now c.change.view_is (string_bytes c.args.text.now)
    (string_bytes c.push_head.new.text) (string_bytes c.push.new.text)
    (string_bytes c.push_states.new.text)
    (string_bytes c.push_list.new.text) (string_bytes c.push_kept.new.text)
    (string_bytes c.push_turned.new.text) (string_bytes c.push-2.new.text)
    (c.in_ok-push_head.ensures.added
    ∙ (λ i. string_bytes c.args.text.now
    ++ head_text (chain_name (c.config.ensures i).name_length) c.change.inside.door))
    c.in_ok-push.ensures.added c.in_ok-push_states.ensures.added
    c.in_ok-push_list.ensures.added c.in_ok-push_kept.ensures.added
    c.in_ok-push_turned.ensures.added)
    c.push-2.ensures.added

pub returns-clause-front : goal.returns-clause-front
returns-clause-front c =
    on_err_weaker c.push-2.result
    (λ h. front_on _ _ _ _ c.in_ok-push_head.ensures.added
    (front_on _ _ _ _ c.in_ok-push.ensures.added
    (front_on _ _ _ _ c.in_ok-push_states.ensures.added
    (front_on _ _ _ _ c.in_ok-push_list.ensures.added
    (front_on _ _ _ _ c.in_ok-push_kept.ensures.added
    (front_on _ _ _ _ c.in_ok-push_turned.ensures.added h))))))
    c.push-2.ensures.front
