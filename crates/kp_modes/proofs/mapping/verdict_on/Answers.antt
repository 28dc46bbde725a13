use Rattle.std.proofs.Common.{◌≡◌, rules, ap, ◌∙◌}
use Rattle.kp_choice_defs.specs.Settings.{settings_of}
use Rattle.kp_run_defs.specs.AnswerText.{draws_at}
use Rattle.kp_vmap_defs.specs.Remainder.{known_in}
use Rattle.kp_modes.proofs.Mapped.{decided_sized, looked_sized, of_either}
use Rattle.kp_modes.proofs.mapping.verdict_on.Goals as goal

pub returns-clause-verdict : goal.returns-clause-verdict
returns-clause-verdict c =
    c.look.ensures.verdict (draws_at c.args.number c.args.line.now.draws)
    (λ k small. (search rules, c.draws_are_low.ensures c.args.number c.args.line.now k))

pub returns-clause-lists : goal.returns-clause-lists
returns-clause-lists c =
    c.look.ensures.lists (draws_at c.args.number c.args.line.now.draws)
    (λ k small. (search rules, c.draws_are_low.ensures c.args.number c.args.line.now k))

pub returns-clause-size : goal.returns-clause-size
returns-clause-size c =
    let m = c.args.map.now in
    let line = c.args.line.now in
    let lists = c.args.lists.now in
    of_either c.look.result (c.look.new.lists.size ≡ lists.size)
    (c.look.ensures.lists (draws_at c.args.number line.draws)
    (λ k small. (search rules, c.draws_are_low.ensures c.args.number line k)))
    c.look.ensures.stand
    (λ is. ap (λ r. r.size) is ∙ decided_sized m c.args.number line lists)
    (λ is. ap (λ r. r.size) is ∙ looked_sized (settings_of m.config) (known_in m) line.packet lists)
