use Rattle.std.proofs.Common.{◌∷◌, [], ◌++◌, sym, ap, subst, ◌∙◌}
use Rattle.kp_object_defs.specs.PortByKey.{info_at}
use Rattle.kp_object_laws.proofs.PortByKey.{info_has_key}
use Rattle.kp_types.specs.Setting.{config_for}
use Rattle.kp_vmap.specs.Places.{Answers, if_at, staged_at}
use Rattle.kp_vmap.proofs.family.FamilyPorts.stage.Goals as goal

pub stage_port-requires-clause-before : goal.stage_port-requires-clause-before
stage_port-requires-clause-before g c = λ d. c.requires.untouched d
    ∙ ap (if_at d) (sym c.known-before.ensures)

pub stage_port-requires-clause-key : goal.stage_port-requires-clause-key
stage_port-requires-clause-key g c =
    λ i is. c.requires.own.own c.args.key.now i (sym c.known-before.ensures ∙ is)

pub stage_port-requires-clause-key_now : goal.stage_port-requires-clause-key_now
stage_port-requires-clause-key_now g c = λ i is.
    info_has_key c.args.family (config_for c.args.family c.args.config.now) c.args.objects.now
    c.args.key.now i
    c.requires.own_keys (sym c.in_ok-known.ensures ∙ is)

pub returns-clause-ports : goal.returns-clause-ports
returns-clause-ports g c =
    c.in_ok-push.ensures.items
    ∙ (λ i. c.args.next.now.ports.items ++ (c.in_ok-copy.ensures i, c.in_ok-known.ensures i) ∷ [])

pub returns-clause-places : goal.returns-clause-places
returns-clause-places g c = λ d.
    let kept = c.args.self.now.places.entries in
    subst
    (λ o. Answers c.args.key.now (if_at d o) (staged_at kept c.args.next.now.places.entries d)
    (staged_at kept c.stage_port.new.staged.entries d))
    {y = info_at c.args.family (config_for c.args.family c.args.config.now) c.args.objects.now
    c.args.key.now}
    c.in_ok-known.ensures (c.in_ok-stage_port.ensures.places d)
