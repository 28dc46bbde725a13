use Rattle.std.proofs.Common.{◌≡◌, ◌++◌, ap, map, flat_map, ◌∙◌, string_bytes}
use Rattle.std.proofs.lemmas.Result.{on_err_weaker, on_ok_weaker}
use Rattle.kp_change_defs.specs.ChangeText.{more_text}
use Rattle.kp_report.proofs.Pieces.{front_on, two_added}
use Rattle.kp_changes.specs.After.{infos_in}
use Rattle.kp_changes.specs.Neighbours.{crowd_text, first_others, neighbour_text}
use Rattle.kp_changes.proofs.SameCrowd.{told_of_crowd}
use Rattle.kp_changes.proofs.beside.push_crowd.Goals as goal

pub returns-clause-added : goal.returns-clause-added
returns-clause-added c =
    let d = c.args.door.now in
    let family = c.args.family in
    let first : map (λ n. n.now) c.as_slice.result.now ≡ first_others d c.args.crowd.now =
    ap (map (λ n. n.now)) c.as_slice.ensures.value ∙ c.in_ok-first.ensures in
    on_ok_weaker c.push_more.result
    (λ h. two_added _ _ _ (flat_map neighbour_text (map (λ n. n.now) c.as_slice.result.now))
    (more_text c.in_ok-more.more) c.in_ok-push_first.ensures.added h
    ∙ ap (λ l. string_bytes c.args.text.now ++ l)
    ((λ i. flat_map neighbour_text (first i) ++ more_text (c.in_ok-more.ensures i))
    ∙ ap (crowd_text d) c.requires.there.doors
    ∙ told_of_crowd family d (infos_in family c.args.after.now.synced)))
    c.push_more.ensures.added

pub returns-clause-front : goal.returns-clause-front
returns-clause-front c =
    on_err_weaker c.push_more.result
    (λ h. front_on _ _ _ _ c.in_ok-push_first.ensures.added h)
    c.push_more.ensures.front
