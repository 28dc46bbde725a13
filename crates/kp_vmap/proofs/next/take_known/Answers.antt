use Rattle.std.proofs.Common.{ap, ◌∙◌}
use Rattle.std.specs.Option.{option_copied}
use Rattle.std.proofs.lemmas.Result.{on_ok_weaker}
use Rattle.kp_vmap.specs.Places.{if_at, staged_at, stands_at, taken_at}
use Rattle.kp_vmap.proofs.Staging.{none_out, taken_out}
use Rattle.kp_vmap.proofs.next.take_known.Goals as goal

pub returns-in-Some-clause-places : goal.returns-in-Some-clause-places
returns-in-Some-clause-places g c =
    let kept = c.args.kept.now.entries in
    let start = c.args.staged.now.entries in
    let port = c.in-Some.port.now in
    on_ok_weaker c.take_out.result (λ is d.
    taken_out c.args.key.now port (staged_at kept start d)
    (staged_at kept c.take_out.new.staged.entries d) d
    (c.requires.key port (ap option_copied c.in-Some.is))
    (c.requires.before d ∙ ap (λ o. if_at d (option_copied o)) c.in-Some.is)
    (is d ∙ ap (λ i. taken_at (stands_at d i) i.key (staged_at kept start d))
    (c.info.ensures ∙ c.get.ensures)))
    c.take_out.ensures.places

pub returns-in-None-clause-places : goal.returns-in-None-clause-places
returns-in-None-clause-places g c = λ d.
    none_out c.args.key.now (staged_at c.args.kept.now.entries c.args.staged.now.entries d) d
    (c.requires.before d ∙ ap (λ o. if_at d (option_copied o)) c.in-None.is)
